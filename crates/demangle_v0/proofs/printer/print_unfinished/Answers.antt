use Rattle.std.proofs.Common.{Ok, Some}
use Rattle.demangle_v0_parser.proofs.Parsers.{left_as}
use Rattle.demangle_v0.proofs.PrintLoop.{passed_ran, passed_valid, ran_joins, finished_ran, finished_valid}
use Rattle.demangle_v0.proofs.printer.print_unfinished.Goals as goal

pub returns-in-Some-clause-ran : goal.returns-in-Some-clause-ran
returns-in-Some-clause-ran g c = λ p began ran. finished_ran c.finish_skip.new.parser.stack.room c.args.left c.in-Some.more ran c.in-Some.ensures.finishes

pub returns-in-Some-clause-valid : goal.returns-in-Some-clause-valid
returns-in-Some-clause-valid g c =
    let d = c.in-Some.ensures in
    left_as c.finish_skip.new.parser.stack.room c.args.parser.now c.finish_skip.new.parser (Ok (Some c.in-Some.more)) d.same (finished_valid c.args.parser.now.source.symbol.now c.args.parser.now.source.form 0 c.finish_skip.new.parser.stack.room _ _ c.args.left c.in-Some.more _ _ _ _ c.requires.valid d.finishes)

pub print_steps-requires : goal.print_steps-requires
print_steps-requires g c =
    let d = c.in_default.ensures in
    record {
      ascii = rw d.same.0 c.requires.ascii;
      ready = c.requires.ready;
      valid = passed_valid c.args.parser.now.source.symbol.now c.args.parser.now.source.form _ _ 0 c.args.left _ _ _ _ c.requires.valid d.finishes;
    }

pub returns-clause-ran : goal.returns-clause-ran
returns-clause-ran g c =
    let d = c.in_default.ensures in
    λ p began ran. ran_joins _ (passed_ran g.S.TextSink c.args.parser.now.source.symbol.now c.args.parser.now.source.form c.args.left ran d.finishes) (rw (d.same.0, d.same.1) at c.print_steps.ensures.ran)
