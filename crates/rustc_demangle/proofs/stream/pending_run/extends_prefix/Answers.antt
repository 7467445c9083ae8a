use Rattle.rustc_demangle.proofs.ByteStreamLemmas.{prefix_of, stops_name, stops_mark, stopped_prefix}
use Rattle.rustc_demangle.proofs.CandidateLemmas.{cuts_plain}
use Rattle.rustc_demangle.proofs.stream.pending_run.extends_prefix.Goals as goal

pub returns-then-last-eq90-clause-off : goal.returns-then-last-eq90-clause-off
returns-then-last-eq90-clause-off c = λ off more.
    let shape = prefix_of c.args.before c.args.pending.now c.requires.partial c.requires.some c.requires.none in
    cuts_plain _ _ _ (stopped_prefix c.args.before c.args.pending.now c.args.byte shape (stops_name _ _ _ shape c.if-last-eq90.true off) more)

pub returns-else-last-eq90-clause-off : goal.returns-else-last-eq90-clause-off
returns-else-last-eq90-clause-off c = λ off more.
    let shape = prefix_of c.args.before c.args.pending.now c.requires.partial c.requires.some c.requires.none in
    cuts_plain _ _ _ (stopped_prefix c.args.before c.args.pending.now c.args.byte shape (stops_mark _ _ _ c.is_outside.result c.if-last-eq90.false off c.is_outside.ensures.no) more)
