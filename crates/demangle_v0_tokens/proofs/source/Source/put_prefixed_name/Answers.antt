use Rattle.std.proofs.Common.{refl, sym, ◌∙◌}
use Rattle.demangle_sink.proofs.PrintsPieces.{piece_then, piece_stop}
use Rattle.demangle_v0_tokens.proofs.source.Source.put_prefixed_name.Goals as goal

pub returns-in_err-put-clause-prints : goal.returns-in_err-put-clause-prints
returns-in_err-put-clause-prints g c =
    rw (sym c.is_empty_name.ensures ∙ c.if-is_empty_name.false)
    (piece_stop g.S.TextSink _ _ _ _ _ _ c.in_err-put.ensures refl c.from_residual.ensures.0)

pub returns-clause-prints : goal.returns-clause-prints
returns-clause-prints g c =
    rw (sym c.is_empty_name.ensures ∙ c.if-is_empty_name.false)
    (piece_then g.S.TextSink _ _ _ _ _ _ _ c.in_ok-put.ensures refl c.write_to.ensures.prints)
