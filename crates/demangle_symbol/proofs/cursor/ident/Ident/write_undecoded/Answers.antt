use Rattle.std.proofs.Common.{refl}
use Rattle.demangle_sink.proofs.PrintsLemmas.{prints_then, prints_stop}
use Rattle.demangle_sink.proofs.PrintsPieces.{piece_then, piece_stop}
use Rattle.demangle_symbol.proofs.cursor.ident.Ident.write_undecoded.Goals as goal

pub returns-in_err-put : goal.returns-in_err-put
returns-in_err-put g c = piece_stop g.S.TextSink _ _ _ _ _ _ c.in_err-put.ensures refl c.from_residual.ensures.0

pub returns-in_err-write_ascii : goal.returns-in_err-write_ascii
returns-in_err-write_ascii g c =
    piece_then g.S.TextSink _ _ _ _ _ _ _ c.in_ok-put.ensures refl
    (prints_stop g.S.TextSink _ _ _ _ _ _ c.in_err-write_ascii.ensures refl c.from_residual-in_err-write_ascii.ensures.0)

pub returns-in_err-write_to : goal.returns-in_err-write_to
returns-in_err-write_to g c =
    piece_then g.S.TextSink _ _ _ _ _ _ _ c.in_ok-put.ensures refl
    (prints_then g.S.TextSink _ _ _ _ _ _ _ c.in_ok-write_ascii.ensures refl
    (piece_stop g.S.TextSink _ _ _ _ _ _ (rw c.span.ensures at c.in_err-write_to.ensures) refl c.from_residual-in_err-write_to.ensures.0))

pub returns : goal.returns
returns g c =
    piece_then g.S.TextSink _ _ _ _ _ _ _ c.in_ok-put.ensures refl
    (prints_then g.S.TextSink _ _ _ _ _ _ _ c.in_ok-write_ascii.ensures refl
    (piece_then g.S.TextSink _ _ _ _ _ _ _ (rw c.span.ensures at c.in_ok-write_to.ensures) refl c.put-2.ensures))
