use Rattle.std.proofs.Common.{refl}
use Rattle.demangle_sink.proofs.PrintsLemmas.{prints_then, prints_stop}
use Rattle.demangle_sink.proofs.PrintsPieces.{piece_then, piece_stop}
use Rattle.demangle_v0_tokens.proofs.source.Source.put_special_name.Goals as goal

pub returns-in_err-put-clause-prints : goal.returns-in_err-put-clause-prints
returns-in_err-put-clause-prints g c = piece_stop g.S.TextSink _ _ _ _ _ _ c.in_err-put.ensures refl c.from_residual.ensures.0

pub returns-in_err-put_special_kind-clause-prints : goal.returns-in_err-put_special_kind-clause-prints
returns-in_err-put_special_kind-clause-prints g c =
    piece_then g.S.TextSink _ _ _ _ _ _ _ c.in_ok-put.ensures refl
    (piece_stop g.S.TextSink _ _ _ _ _ _ c.in_err-put_special_kind.ensures refl c.from_residual-in_err-put_special_kind.ensures.0)

pub returns-in_err-put_prefixed_name-clause-prints : goal.returns-in_err-put_prefixed_name-clause-prints
returns-in_err-put_prefixed_name-clause-prints g c =
    piece_then g.S.TextSink _ _ _ _ _ _ _ c.in_ok-put.ensures refl
    (piece_then g.S.TextSink _ _ _ _ _ _ _ c.in_ok-put_special_kind.ensures refl
    (prints_stop g.S.TextSink _ _ _ _ _ _ c.in_err-put_prefixed_name.ensures.prints refl c.from_residual-in_err-put_prefixed_name.ensures.0))

pub returns-clause-prints : goal.returns-clause-prints
returns-clause-prints g c =
    piece_then g.S.TextSink _ _ _ _ _ _ _ c.in_ok-put.ensures refl
    (piece_then g.S.TextSink _ _ _ _ _ _ _ c.in_ok-put_special_kind.ensures refl
    (prints_then g.S.TextSink _ _ _ _ _ _ _ c.in_ok-put_prefixed_name.ensures.prints refl c.put_special_suffix.ensures))
