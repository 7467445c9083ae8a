use Rattle.std.proofs.Common.{refl, arith}
use Rattle.demangle_sink.proofs.PrintsPieces.{piece_then, piece_stop}
use Rattle.demangle_v0_tokens.proofs.TokenTexts.{brackets_some}
use Rattle.demangle_v0_tokens.proofs.render.names.put_disambiguator.Goals as goal

pub returns-in_err-put : goal.returns-in_err-put
returns-in_err-put g c =
    rw (brackets_some c.args.number c.args.form.include_hash (omega arith) c.if-not-form.false)
    (piece_stop g.S.TextSink _ _ _ _ _ _ c.in_err-put.ensures refl c.from_residual.ensures.0)

pub returns-in_err-put_hexadecimal : goal.returns-in_err-put_hexadecimal
returns-in_err-put_hexadecimal g c =
    rw (brackets_some c.args.number c.args.form.include_hash (omega arith) c.if-not-form.false)
    (piece_then g.S.TextSink _ _ _ _ _ _ _ c.in_ok-put.ensures refl
    (piece_stop g.S.TextSink _ _ _ _ _ _ c.in_err-put_hexadecimal.ensures refl c.from_residual-in_err-put_hexadecimal.ensures.0))

pub returns : goal.returns
returns g c =
    rw (brackets_some c.args.number c.args.form.include_hash (omega arith) c.if-not-form.false)
    (piece_then g.S.TextSink _ _ _ _ _ _ _ c.in_ok-put.ensures refl
    (piece_then g.S.TextSink _ _ _ _ _ _ _ c.in_ok-put_hexadecimal.ensures refl c.put-2.ensures))
