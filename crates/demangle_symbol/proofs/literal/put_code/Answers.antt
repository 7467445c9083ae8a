use Rattle.std.proofs.Common.{refl}
use Rattle.demangle_symbol.proofs.Escaping.{code_pieces}
use Rattle.demangle_sink.proofs.PrintsLemmas.{prints_then, prints_stop}
use Rattle.demangle_symbol.proofs.literal.put_code.Goals as goal

pub returns-in_err-put_chars : goal.returns-in_err-put_chars
returns-in_err-put_chars g c =
    rw code_pieces
    (prints_stop g.S.TextSink _ _ _ _ _ _ c.in_err-put_chars.ensures refl c.from_residual.ensures.0)

pub returns-in_err-put_chars-2 : goal.returns-in_err-put_chars-2
returns-in_err-put_chars-2 g c =
    rw (code_pieces, ← c.hexadecimal.ensures)
    (prints_then g.S.TextSink _ _ _ _ _ _ _ c.in_ok-put_chars.ensures refl
    (prints_stop g.S.TextSink _ _ _ _ _ _ (rw c.deref.ensures.0 at c.in_err-put_chars-2.ensures) refl c.from_residual-in_err-put_chars-2.ensures.0))

pub returns : goal.returns
returns g c =
    rw (code_pieces, ← c.hexadecimal.ensures)
    (prints_then g.S.TextSink _ _ _ _ _ _ _ c.in_ok-put_chars.ensures refl
    (prints_then g.S.TextSink _ _ _ _ _ _ _ (rw c.deref.ensures.0 at c.in_ok-put_chars-2.ensures) refl c.put_char.ensures))
