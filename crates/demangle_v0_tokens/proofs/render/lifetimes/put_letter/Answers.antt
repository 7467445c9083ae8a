use Rattle.std.proofs.Common.{refl}
use Rattle.std.proofs.lemmas.Bool.{le-ltb}
use Rattle.demangle_sink.proofs.PrintsPieces.{piece_then, piece_stop}
use Rattle.demangle_v0_tokens.proofs.render.lifetimes.put_letter.Goals as goal

pub returns-in_err-put : goal.returns-in_err-put
returns-in_err-put g c = rw (le-ltb _ _ c.if-number-lt26.false)
    (piece_stop g.S.TextSink _ _ _ _ _ _ c.in_err-put.ensures refl c.from_residual.ensures.0)

pub returns : goal.returns
returns g c = rw (le-ltb _ _ c.if-number-lt26.false)
    (piece_then g.S.TextSink _ _ _ _ _ _ _ c.in_ok-put.ensures refl c.put_decimal.ensures)
