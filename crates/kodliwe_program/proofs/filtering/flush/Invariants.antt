use Rattle.std.specs.Io.KnownBytes.{Keeps}
use Rattle.kodliwe_program.proofs.filtering.flush.Given as goal

abbrev pub invariant-loop : goal.invariant-loop
invariant-loop g l = Keeps (g.W.Write.contents l.initial.output) (g.W.Write.contents l.output)
