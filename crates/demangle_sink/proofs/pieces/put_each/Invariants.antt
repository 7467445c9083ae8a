use Rattle.std.proofs.Common.{take, Ok}
use Rattle.demangle_sink.specs.Limit.{Prints}
use Rattle.demangle_sink.specs.Limit.{texts}
use Rattle.demangle_sink.proofs.pieces.put_each.Given as goal

abbrev pub invariant-loop-piece : goal.invariant-loop-piece
invariant-loop-piece g l = Prints g.S.TextSink l.fn.out (texts (take l.piece-index l.pieces)) (Ok tt) l.out
