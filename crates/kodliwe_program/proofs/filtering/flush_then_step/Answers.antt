use Rattle.std.proofs.lemmas.Result.{err_from_is_err_and}
use Rattle.kodliwe_program.proofs.FilteringLemmas.{took_later, ended_later, turn_refused, writing_stopped}
use Rattle.kodliwe_program.proofs.filtering.flush_then_step.Goals as goal

pub returns-in_err-flush_pending-clause-refused : goal.returns-in_err-flush_pending-clause-refused
returns-in_err-flush_pending-clause-refused g c =
    let p = err_from_is_err_and c.from_residual.result c.from_residual.ensures.1 in
    rw (p.1, p.2) (writing_stopped _ _ _ _ _ _ c.in_err-flush_pending.ensures.named)

pub returns-clause-took : goal.returns-clause-took
returns-clause-took g c = λ e. took_later _ _ _ _ _ _ _ _ c.flush_pending.ensures.bytes (c.step.ensures.took e)

pub returns-clause-ended : goal.returns-clause-ended
returns-clause-ended g c = λ e. ended_later _ c.args.filter.now c.step.new.filter _ _ _ _ _ c.flush_pending.ensures.bytes (c.step.ensures.ended e)

pub returns-clause-refused : goal.returns-clause-refused
returns-clause-refused g c = turn_refused _ _ _ _ _ _ _ _ _ c.flush_pending.ensures.bytes c.step.ensures.refused
