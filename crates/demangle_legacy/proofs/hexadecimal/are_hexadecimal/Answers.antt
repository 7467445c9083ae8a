use Rattle.std.proofs.Common.{arith}
use Rattle.demangle_legacy.proofs.HexadecimalDigits.{digits_more}
use Rattle.demangle_legacy.proofs.hexadecimal.are_hexadecimal.Goals as goal

pub loop-k-preserved : goal.loop-k-preserved
loop-k-preserved c = digits_more c.args.bytes.now c.loop-k.k c.loop-k.any c.distance-any.result (omega arith) c.loop-k.invariant c.distance-any.ensures
