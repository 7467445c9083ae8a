use Rattle.std.proofs.Common.{[], refl}
use Rattle.demangle_v0.proofs.Noting.{above_all, ok_is, target_joins}
use Rattle.demangle_v0.proofs.PrintLoop.{ran_fail}
use Rattle.demangle_v0.proofs.printer.print_steps.Goals as goal

pub returns-in_err-left-clause-ran : goal.returns-in_err-left-clause-ran
returns-in_err-left-clause-ran g c =
    let all = above_all (c.in_err-left.ensures.ran [] c.args.parser.now.stack.frames refl refl) in
    ran_fail c.from_residual.ensures.0 all.ran

pub returns-then-stops_at_target-clause-ran : goal.returns-then-stops_at_target-clause-ran
returns-then-stops_at_target-clause-ran g c =
    let same = c.in_ok-left.ensures.same in
    let stops = c.stops_at_target.ensures.stops c.if-stops_at_target.true in
    let all = above_all (c.in_ok-left.ensures.ran [] c.args.parser.now.stack.frames refl refl) in
    target_joins c.in_ok-left.left c.print_noting.result (ok_is _ _ _ refl stops.left) all (rw (same.0, same.1) at c.print_noting.ensures.ran)

pub returns-clause-ran : goal.returns-clause-ran
returns-clause-ran g c = above_all (c.in_ok-left.ensures.ran [] c.args.parser.now.stack.frames refl refl)
