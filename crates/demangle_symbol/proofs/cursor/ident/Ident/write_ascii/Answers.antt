use Rattle.std.proofs.Common.{refl, arith}
use Rattle.demangle_sink.proofs.PrintsLemmas.{prints_nothing}
use Rattle.demangle_sink.proofs.PrintsPieces.{piece_then, piece_stop}
use Rattle.demangle_symbol.proofs.NamePieces.{prefix_none, prefix_some}
use Rattle.demangle_symbol.proofs.cursor.ident.Ident.write_ascii.Goals as goal

pub returns-then-self : goal.returns-then-self
returns-then-self g c = rw (prefix_none c.args.symbol.now c.args.self.now (omega arith)) (prints_nothing g.S.TextSink _ c.requires.ready)

pub returns-in_err-write_to : goal.returns-in_err-write_to
returns-in_err-write_to g c =
    rw (prefix_some c.args.symbol.now c.args.self.now (omega arith) (omega arith))
    (piece_stop g.S.TextSink _ _ _ _ _ _ (rw c.span.ensures at c.in_err-write_to.ensures) refl c.from_residual.ensures.0)

pub returns : goal.returns
returns g c =
    rw (prefix_some c.args.symbol.now c.args.self.now (omega arith) (omega arith))
    (piece_then g.S.TextSink _ _ _ _ _ _ _ (rw c.span.ensures at c.in_ok-write_to.ensures) refl c.put.ensures)
