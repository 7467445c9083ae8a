use Rattle.std.proofs.Common.{refl}
use Rattle.demangle_sink.proofs.PrintsPieces.{piece_then, piece_stop}
use Rattle.demangle_v0_tokens.proofs.source.Source.put_with_hyphen.Goals as goal

pub returns-in_err-write_to : goal.returns-in_err-write_to
returns-in_err-write_to g c = piece_stop g.S.TextSink _ _ _ _ _ _ (rw c.span.ensures at c.in_err-write_to.ensures) refl c.from_residual.ensures.0

pub returns : goal.returns
returns g c = piece_then g.S.TextSink _ _ _ _ _ _ _ (rw c.span.ensures at c.in_ok-write_to.ensures) refl c.put.ensures
