use Rattle.std.proofs.Common.{arith}
use Rattle.std.proofs.lemmas.Grind.{common_steps}
use Rattle.rustc_demangle.proofs.byte_before.ByteBefore.plain_len.Goals as goal

pub returns-then-is_outside : goal.returns-then-is_outside
returns-then-is_outside c = grind (arith, common_steps)

pub returns-else-is_outside : goal.returns-else-is_outside
returns-else-is_outside c = grind (arith, common_steps)
