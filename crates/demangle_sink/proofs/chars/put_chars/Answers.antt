use Rattle.std.proofs.Common.{refl}
use Rattle.demangle_sink.proofs.PrintsLemmas.{prints_then, prints_stop}
use Rattle.demangle_sink.proofs.Characters.{pieces-take_more, pieces-split}
use Rattle.demangle_sink.proofs.chars.put_chars.Goals as goal

pub returns-in_err-put_char : goal.returns-in_err-put_char
returns-in_err-put_char g c =
    rw (pieces-split c.args.characters.now c.loop-c.c-index c.c-item.result c.loop-c-test.true c.c-item.is)
    (prints_stop g.S.TextSink _ _ _ _ _ _ (prints_then g.S.TextSink _ _ _ _ _ _ _ c.loop-c.invariant refl c.in_err-put_char.ensures) refl c.from_residual.ensures.0)

pub loop-c-preserved : goal.loop-c-preserved
loop-c-preserved g c =
    rw (pieces-take_more c.args.characters.now c.loop-c.c-index c.c-item.result c.loop-c-test.true c.c-item.is)
    (prints_then g.S.TextSink _ _ _ _ _ _ _ c.loop-c.invariant refl c.in_ok-put_char.ensures)
