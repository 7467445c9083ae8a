use Rattle.std.proofs.Common.{refl}
use Rattle.demangle_sink.proofs.PrintsPieces.{piece_then, piece_stop}
use Rattle.demangle_v0_tokens.proofs.render.names.put_special_suffix.Goals as goal

pub returns-in_err-put : goal.returns-in_err-put
returns-in_err-put g c = piece_stop g.S.TextSink _ _ _ _ _ _ c.in_err-put.ensures refl c.from_residual.ensures.0

pub returns-in_err-put_index : goal.returns-in_err-put_index
returns-in_err-put_index g c =
    piece_then g.S.TextSink _ _ _ _ _ _ _ c.in_ok-put.ensures refl
    (piece_stop g.S.TextSink _ _ _ _ _ _ c.in_err-put_index.ensures refl c.from_residual-in_err-put_index.ensures.0)

pub returns : goal.returns
returns g c =
    piece_then g.S.TextSink _ _ _ _ _ _ _ c.in_ok-put.ensures refl
    (piece_then g.S.TextSink _ _ _ _ _ _ _ c.in_ok-put_index.ensures refl c.put-2.ensures)
