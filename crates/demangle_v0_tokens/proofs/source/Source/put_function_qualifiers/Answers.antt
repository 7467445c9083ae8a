use Rattle.std.proofs.Common.{refl}
use Rattle.demangle_sink.proofs.PrintsPieces.{piece_then, piece_stop}
use Rattle.demangle_v0_tokens.proofs.source.Source.put_function_qualifiers.Goals as goal

pub returns-in_err-put-clause-prints : goal.returns-in_err-put-clause-prints
returns-in_err-put-clause-prints g c =
    rw c.if-not-is_unsafe.false
    (piece_stop g.S.TextSink _ _ _ _ _ _ c.in_err-put.ensures refl c.from_residual.ensures.0)

pub returns-clause-prints : goal.returns-clause-prints
returns-clause-prints g c =
    rw c.if-not-is_unsafe.false
    (piece_then g.S.TextSink _ _ _ _ _ _ _ c.in_ok-put.ensures refl c.put_abi-2.ensures.prints)
