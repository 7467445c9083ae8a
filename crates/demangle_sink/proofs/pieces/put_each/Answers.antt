use Rattle.std.proofs.Common.{refl}
use Rattle.demangle_sink.proofs.PrintsLemmas.{prints_then, prints_stop}
use Rattle.demangle_sink.proofs.TextPieces.{texts-take_more, texts-split}
use Rattle.demangle_sink.proofs.pieces.put_each.Goals as goal

pub returns-in_err-put : goal.returns-in_err-put
returns-in_err-put g c =
    rw (texts-split c.args.pieces.now c.loop-piece.piece-index c.loop-piece-test.true)
    (prints_stop g.S.TextSink _ _ _ _ _ _ (prints_then g.S.TextSink _ _ _ _ _ _ _ c.loop-piece.invariant refl c.in_err-put.ensures) refl c.from_residual.ensures.0)

pub loop-piece-preserved : goal.loop-piece-preserved
loop-piece-preserved g c =
    rw (texts-take_more c.args.pieces.now c.loop-piece.piece-index c.loop-piece-test.true)
    (prints_then g.S.TextSink _ _ _ _ _ _ _ c.loop-piece.invariant refl c.in_ok-put.ensures)
