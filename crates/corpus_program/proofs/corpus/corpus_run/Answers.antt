use Rattle.std.proofs.Common.{arith}
use Rattle.corpus_program.proofs.LineCounts.{counting_init, counting_step, counting_end}
use Rattle.corpus_program.proofs.corpus.corpus_run.Goals as goal

pub loop-line-init : goal.loop-line-init
loop-line-init g c =
    (omega arith, counting_init _ _ (rw c.into_iter-line-iterator.ensures.into_iter_gives c.lines-line-items.ensures))

pub loop-line-preserved : goal.loop-line-preserved
loop-line-preserved g c = (
  omega (arith, c.loop-line.invariant.0, c.saturating_add.ensures, c.saturating_add-in-loop-line.ensures, c.in_ok-differences.ensures),
  rw c.saturating_add.ensures (counting_step _ _ _ _ _ c.loop-line.invariant.1 (rw c.in-Ok.is at c.in-Some.ensures.steps.1)),
)

pub returns-clause-most : goal.returns-clause-most
returns-clause-most g c = c.loop-line.invariant.0

pub returns-clause-lines : goal.returns-clause-lines
returns-clause-lines g c = counting_end _ _ _ c.loop-line.invariant.1 c.in-None.ensures.steps.1
