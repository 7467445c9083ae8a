use Rattle.std.proofs.Common.{rules}
use Rattle.rustc_demangle.specs.Rewritten.{replacement_of}
use Rattle.kodliwe_program.proofs.FilteringLemmas.{took_refused}
use Rattle.kodliwe_program.proofs.filtering.step.Goals as goal

pub returns-in-Err-Read-clause-took : goal.returns-in-Err-Read-clause-took
returns-in-Err-Read-clause-took g c = λ e.
    took_refused c.step_counted.result c.in-Err-Read.error (replacement_of c.args.symbols.now.memo) c.args.filter.now c.step_counted.new.self (g.R.Read.remaining c.args.input.now) (g.R.Read.remaining c.step_counted.new.input)
    (g.W.Write.contents c.args.output.now) (g.W.Write.contents c.step_counted.new.output) (search rules) c.step_counted.ensures.refused
