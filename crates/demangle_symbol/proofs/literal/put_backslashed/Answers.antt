use Rattle.std.proofs.Common.{refl}
use Rattle.demangle_sink.proofs.PrintsPieces.{piece_then, piece_stop}
use Rattle.demangle_symbol.proofs.literal.put_backslashed.Goals as goal

pub returns-in_err-put_char : goal.returns-in_err-put_char
returns-in_err-put_char g c = piece_stop g.S.TextSink _ _ _ _ _ _ c.in_err-put_char.ensures refl c.from_residual.ensures.0

pub returns : goal.returns
returns g c = piece_then g.S.TextSink _ _ _ _ _ _ _ c.in_ok-put_char.ensures refl c.put_char-2.ensures
