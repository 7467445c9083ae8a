use Rattle.std.proofs.Common.{rules}
use Rattle.std.proofs.lemmas.Result.{err_from_is_err_and}
use Rattle.rustc_demangle.proofs.LineStreamLemmas.{streaming_init, streaming_step, streaming_end, streaming_err, streaming_full}
use Rattle.rustc_demangle.proofs.stream.copy_lines.Goals.{else-loop-test, then-loop-test+in_ok-copy_line+else-not-branch+else-counter-lt18446744073709551615}
use Rattle.rustc_demangle.proofs.stream.copy_lines.Goals as goal

pub loop-init : goal.loop-init
loop-init g c = streaming_init _ _ _

pub returns-in_err-copy_line-clause-err : goal.returns-in_err-copy_line-clause-err
returns-in_err-copy_line-clause-err g c =
    let p = err_from_is_err_and c.from_residual.result c.from_residual.ensures.1 in
    rw (p.1, p.2) (streaming_err _ _ _ _ _ _ _ _ c.loop.invariant c.in_err-copy_line.ensures)

pub returns-then-not-branch-clause-ok : goal.returns-then-not-branch-clause-ok
returns-then-not-branch-clause-ok g c = streaming_end _ _ _ _ _ _ _ _ c.loop.invariant c.in_ok-copy_line.ensures c.if-not-branch.true

pub loop-preserved : goal.loop-preserved
loop-preserved g c = streaming_step _ _ _ _ _ _ _ _ c.loop.invariant c.in_ok-copy_line.ensures c.if-not-branch.false

pub returns-clause-err : goal.returns-clause-err
returns-clause-err g c = elim c.loop-test.branch [
  | else-loop-test w ↦ streaming_full g.W.Write.contents c.other.result _ _ _ _ _ _ c.loop.invariant (search rules) w.output-is
  | then-loop-test+in_ok-copy_line+else-not-branch+else-counter-lt18446744073709551615 w ↦
      streaming_full g.W.Write.contents c.other.result _ _ _ _ _ _ (streaming_step _ _ _ _ _ _ _ _ c.loop.invariant w.in_ok-copy_line.ensures w.if-not-branch.false) (search rules) w.output-is
]
