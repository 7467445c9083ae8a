use Rattle.std.proofs.Common.{Ok, Err, Some, [], true, refl, ◌∙◌, arith}
use Rattle.demangle_v0_parser.specs.Parsers.{Same}
use Rattle.demangle_v0_parser.specs.declared.stops.Unfinished.TheVariants as left
use Rattle.demangle_v0.proofs.Noting.{above_all, held_on, none_is, ok_is, some_on, target_joins}
use Rattle.demangle_v0.proofs.PrintLoop.{ran_fail}
use Rattle.demangle_v0.proofs.Targets.{stops_or}
use Rattle.demangle_v0.proofs.printer.print_noting.Goals as goal

pub returns-in_err-left-clause-ran : goal.returns-in_err-left-clause-ran
returns-in_err-left-clause-ran g c =
    let same = c.noting.invariant.same in
    let stops = c.stops_at_target.ensures.stops c.noting-test.true in
    let ran = rw (same.0, same.1) at c.in_err-left.ensures.ran in
    let joined = target_joins c.noting.left (Err c.in_err-left.field-0.0) (ok_is _ _ _ refl stops.left) c.noting.invariant.ran ran in
    ran_fail c.from_residual.ensures.0 joined.ran

pub returns-in_err-left-2-clause-ran : goal.returns-in_err-left-2-clause-ran
returns-in_err-left-2-clause-ran g c =
    let same = c.noting.invariant.same in
    let next : Same c.args.parser.now c.print_target.new.parser = (c.in_ok-left.ensures.same.0 ∙ same.0, c.in_ok-left.ensures.same.1 ∙ same.1, c.in_ok-left.ensures.same.2 ∙ same.2) in
    let stops = c.stops_at_target.ensures.stops c.noting-test.true in
    let none = none_is c.in_ok-left.left c.is_none.result c.is_none.ensures c.if-is_none.true in
    let target = rw (same.0, same.1, none) at c.in_ok-left.ensures.ran in
    let first = target_joins c.noting.left (Ok (Some left.Printing)) (ok_is _ _ _ refl stops.left) c.noting.invariant.ran target in
    let rest = rw (next.0, next.1) at (c.in_err-left-2.ensures.ran [] c.print_target.new.parser.stack.frames refl refl) in
    let joined = target_joins (Some left.Printing) (Err c.in_err-left-2.field-0.0) refl first (above_all rest) in
    ran_fail c.from_residual-in_err-left-2.ensures.0 joined.ran

pub noting-preserved-then-is_none : goal.noting-preserved-then-is_none
noting-preserved-then-is_none g c =
    let same = c.noting.invariant.same in
    let m = c.args.parser.now in
    let k = c.noting.parser in
    let i = c.print_target.new.parser in
    let j = c.print_above.new.parser in
    let laws = g.met.S.TextSink in
    let over = c.in_ok-left.ensures in
    let on = c.in_ok-left-2.ensures in
    let next : Same m i = (over.same.0 ∙ same.0, over.same.1 ∙ same.1, over.same.2 ∙ same.2) in
    let stops = c.stops_at_target.ensures.stops c.noting-test.true in
    let none = none_is c.in_ok-left.left c.is_none.result c.is_none.ensures c.if-is_none.true in
    let target = rw (same.0, same.1, none) at over.ran in
    let first = target_joins c.noting.left (Ok (Some left.Printing)) (ok_is _ _ _ refl stops.left) c.noting.invariant.ran target in
    let rest = above_all (rw (next.0, next.1) at (on.ran [] i.stack.frames refl refl)) in
    record {
      ready = on.ready refl;
      ran = target_joins (Some left.Printing) (Ok c.in_ok-left-2.left) refl first rest;
      valid = on.valid;
      full = λ b. stops_or (on.full b);
      held = held_on g.S.TextSink m.source.symbol.now m.source.form laws.took_nothing laws.took_joined c.in_ok-left-2.left c.print_target.new.texts (over.ready refl) (rw (same.0, same.1) at (over.held refl)) rest;
      same = (on.same.0 ∙ next.0, on.same.1 ∙ next.1, on.same.2 ∙ next.2);
      grows = omega (arith, c.noting.invariant.grows, over.grows, on.grows);
    }

pub noting-preserved : goal.noting-preserved
noting-preserved g c =
    let same = c.noting.invariant.same in
    let m = c.args.parser.now in
    let k = c.noting.parser in
    let i = c.print_target.new.parser in
    let over = c.in_ok-left.ensures in
    let stops = c.stops_at_target.ensures.stops c.noting-test.true in
    let some = some_on c.in_ok-left.left c.is_none.result c.is_none.ensures c.if-is_none.false in
    let target = rw (same.0, same.1, some) at over.ran in
    record {
      ready = over.ready refl;
      ran = target_joins c.noting.left (Ok c.in_ok-left.left) (ok_is _ _ _ refl stops.left) c.noting.invariant.ran target;
      valid = rw some at over.valid;
      full = over.full;
      held = rw (same.0, same.1) at (over.held refl);
      same = (over.same.0 ∙ same.0, over.same.1 ∙ same.1, over.same.2 ∙ same.2);
      grows = omega (arith, c.noting.invariant.grows, over.grows);
    }
