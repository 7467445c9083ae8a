use Rattle.std.proofs.Common.{refl}
use Rattle.demangle_symbol.proofs.Escaping.{literal_one}
use Rattle.demangle_sink.proofs.PrintsLemmas.{prints_then, prints_stop}
use Rattle.demangle_sink.proofs.PrintsPieces.{piece_then, piece_stop}
use Rattle.demangle_symbol.proofs.literal.put_char_literal.Goals as goal

pub returns-in_err-put_char : goal.returns-in_err-put_char
returns-in_err-put_char g c =
    rw (literal_one 39 c.args.c)
    (piece_stop g.S.TextSink _ _ _ _ _ _ c.in_err-put_char.ensures refl c.from_residual.ensures.0)

pub returns-in_err-put_escaped : goal.returns-in_err-put_escaped
returns-in_err-put_escaped g c =
    rw (literal_one 39 c.args.c)
    (piece_then g.S.TextSink _ _ _ _ _ _ _ c.in_ok-put_char.ensures refl
    (prints_stop g.S.TextSink _ _ _ _ _ _ c.in_err-put_escaped.ensures refl c.from_residual-in_err-put_escaped.ensures.0))

pub returns : goal.returns
returns g c =
    rw (literal_one 39 c.args.c)
    (piece_then g.S.TextSink _ _ _ _ _ _ _ c.in_ok-put_char.ensures refl
    (prints_then g.S.TextSink _ _ _ _ _ _ _ c.in_ok-put_escaped.ensures refl c.put_char-2.ensures))
