use Rattle.std.proofs.Common.{◌≡◌, length}
use Rattle.kodliwe_program.proofs.program.parts_of.Given as goal

abbrev pub invariant-loop-at : goal.invariant-loop-at
invariant-loop-at g l = length l.parts.items ≡ l.at
