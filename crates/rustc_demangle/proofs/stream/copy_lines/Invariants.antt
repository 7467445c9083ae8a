use Rattle.rustc_demangle.proofs.LineStreamLemmas.{Streaming}
use Rattle.rustc_demangle.proofs.stream.copy_lines.Given as goal

abbrev pub invariant-loop : goal.invariant-loop
invariant-loop g l = Streaming l.include_hash (g.R.Read.remaining l.initial.input) (g.R.Read.remaining l.input)
    (g.W.Write.contents l.initial.output) (g.W.Write.contents l.output)
