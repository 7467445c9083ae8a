use Rattle.std.proofs.Common.{refl}
use Rattle.demangle_symbol.specs.Nibbles.{nibbles_in, characters_of}
use Rattle.demangle_symbol.proofs.Escaping.{literal_pieces}
use Rattle.demangle_sink.proofs.PrintsLemmas.{prints_then, prints_stop}
use Rattle.demangle_sink.proofs.PrintsPieces.{piece_then, piece_stop}
use Rattle.demangle_symbol.proofs.literal.strings.put_string_literal.Goals as goal

pub returns-in_err-put_char-clause-prints : goal.returns-in_err-put_char-clause-prints
returns-in_err-put_char-clause-prints g c =
    rw (literal_pieces 34 (characters_of (nibbles_in c.args.symbol.now c.args.nibbles)))
    (piece_stop g.S.TextSink _ _ _ _ _ _ c.in_err-put_char.ensures refl c.from_residual.ensures.0)

pub returns-in_err-put_characters-clause-prints : goal.returns-in_err-put_characters-clause-prints
returns-in_err-put_characters-clause-prints g c =
    rw (literal_pieces 34 (characters_of (nibbles_in c.args.symbol.now c.args.nibbles)))
    (piece_then g.S.TextSink _ _ _ _ _ _ _ c.in_ok-put_char.ensures refl
    (prints_stop g.S.TextSink _ _ _ _ _ _ c.in_err-put_characters.ensures.prints refl c.from_residual-in_err-put_characters.ensures.0))

pub returns-clause-prints : goal.returns-clause-prints
returns-clause-prints g c =
    rw (literal_pieces 34 (characters_of (nibbles_in c.args.symbol.now c.args.nibbles)))
    (piece_then g.S.TextSink _ _ _ _ _ _ _ c.in_ok-put_char.ensures refl
    (prints_then g.S.TextSink _ _ _ _ _ _ _ c.in_ok-put_characters.ensures.prints refl c.put_char-2.ensures))
