use Rattle.std.specs.Io.KnownBytes.{Keeps}
use Rattle.kodliwe_program.specs.Coalescing.{output_contents}
use Rattle.kodliwe_program.proofs.coalescing.CoalescingOutput.write_held.Given as goal

abbrev pub invariant-handing : goal.invariant-handing
invariant-handing g l = Keeps (output_contents g.W.Write.contents l.initial.self) (output_contents g.W.Write.contents l.self)
