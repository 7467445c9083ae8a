use Rattle.std.proofs.Common.{◌+◌, [], length, IfSome, rules, refl, ap, subst, Ok, ◌∙◌}
use Rattle.std.specs.Io.Buffered.{reader_remaining}
use Rattle.std.proofs.lemmas.Result.{err_from_is_err_and}
use Rattle.rustc_demangle.specs.ByteStream.{from_start}
use Rattle.rustc_demangle.specs.LinearLooks.{LooksLinear, StepPaid}
use Rattle.demangle_value.specs.declared.format.Format.{Format}
use Rattle.rustc_demangle.proofs.ByteStreamLemmas.{passing_init, passing_known, passing_end, passing_full}
use Rattle.rustc_demangle.proofs.LinearLooks.{grow_none, grow_more, paid_first, paid_join, paid_last, paid_stop}
use Rattle.rustc_demangle.proofs.MemoLemmas.{ended_same}
use Rattle.kodliwe_program.proofs.FilteringLemmas.{turning_err, passing_turn, wrote_end, turn_same, refused_same}
use Rattle.kodliwe_program.proofs.filtering.filter_steps.Goals.{else-loop-test, then-loop-test+in_ok-flush_then_step+else-not-branch+else-counter-lt18446744073709551615}
use Rattle.kodliwe_program.proofs.filtering.filter_steps.Goals as goal

pub loop-init : goal.loop-init
loop-init g c = (passing_init _ _ _ _ c.requires, refl, paid_first c.args.symbols.now.memo c.args.filter.now _ c.args.symbols.now.looks c.requires, grow_none c.args.symbols.now.looks)

pub returns-in_err-flush_then_step-clause-err : goal.returns-in_err-flush_then_step-clause-err
returns-in_err-flush_then_step-clause-err g c =
    let p = err_from_is_err_and c.from_residual.result c.from_residual.ensures.1 in
    rw (p.1, p.2) (turning_err _ _ _ _ _ _ _ _ c.loop.invariant.0 (refused_same c.loop.symbols.memo c.args.symbols.now.memo _ _ _ _ _ c.loop.invariant.1 c.in_err-flush_then_step.ensures.refused))

pub returns-then-not-branch-clause-ok : goal.returns-then-not-branch-clause-ok
returns-then-not-branch-clause-ok g c = wrote_end _ _ _ _ _ (passing_end _ _ c.loop.filter c.flush_then_step.new.filter _ _ _ _ _ c.loop.invariant.0 (ended_same c.loop.symbols.memo c.args.symbols.now.memo c.loop.filter c.flush_then_step.new.filter _ _ _ _ c.loop.invariant.1 (c.in_ok-flush_then_step.ensures.ended (ap Ok c.if-not-branch.true))))

pub loop-preserved : goal.loop-preserved
loop-preserved g c = (
  passing_turn _ _ _ _ _ _ _ _ _ c.loop.invariant.0 (turn_same c.loop.symbols.memo c.args.symbols.now.memo _ _ _ _ _ _ c.loop.invariant.1 (c.in_ok-flush_then_step.ensures.took (ap Ok c.if-not-branch.false))),
  c.in_ok-flush_then_step.ensures.same ∙ c.loop.invariant.1,
  paid_join c.args.symbols.now.memo (from_start []) c.loop.filter c.flush_then_step.new.filter _ _ _ c.args.symbols.now.looks c.loop.symbols.looks c.flush_then_step.new.symbols.looks (passing_known _ _ _ _ _ _ c.loop.invariant.0) c.loop.invariant.2
      (subst (λ (f : Format). StepPaid f c.loop.filter c.flush_then_step.new.filter (reader_remaining g.R.Read.remaining c.loop.input) (reader_remaining g.R.Read.remaining c.flush_then_step.new.input) c.loop.symbols.looks c.flush_then_step.new.symbols.looks) c.loop.invariant.1 c.in_ok-flush_then_step.ensures.paid),
  grow_more _ _ _ c.loop.invariant.3 c.in_ok-flush_then_step.ensures.grows,
)

pub returns-clause-err : goal.returns-clause-err
returns-clause-err g c = elim c.loop-test.branch [
  | else-loop-test w ↦ passing_full g.W.Write.contents c.other.result _ _ _ _ _ _ _ c.loop.invariant.0 (search rules) w.output-is
  | then-loop-test+in_ok-flush_then_step+else-not-branch+else-counter-lt18446744073709551615 w ↦
      passing_full g.W.Write.contents c.other.result _ _ _ _ _ _ _ (passing_turn _ _ _ _ _ _ _ _ _ c.loop.invariant.0 (turn_same c.loop.symbols.memo c.args.symbols.now.memo _ _ _ _ _ _ c.loop.invariant.1 (w.in_ok-flush_then_step.ensures.took (ap Ok w.if-not-branch.false)))) (search rules) w.output-is
]

pub returns-in_err-flush_then_step-clause-linear : goal.returns-in_err-flush_then_step-clause-linear
returns-in_err-flush_then_step-clause-linear g c =
    paid_last c.args.symbols.now.memo c.loop.filter _ _ c.args.symbols.now.looks c.loop.symbols.looks c.flush_then_step.new.symbols.looks (passing_known _ _ _ _ _ _ c.loop.invariant.0) c.loop.invariant.2
    (subst (λ (f : Format). IfSome (reader_remaining g.R.Read.remaining c.loop.input) (λ xs. LooksLinear f (length c.loop.filter.bytes + length xs) c.loop.symbols.looks c.flush_then_step.new.symbols.looks)) c.loop.invariant.1 c.flush_then_step.ensures.linear)

pub returns-then-not-branch-clause-linear : goal.returns-then-not-branch-clause-linear
returns-then-not-branch-clause-linear g c =
    paid_last c.args.symbols.now.memo c.loop.filter _ _ c.args.symbols.now.looks c.loop.symbols.looks c.flush_then_step.new.symbols.looks (passing_known _ _ _ _ _ _ c.loop.invariant.0) c.loop.invariant.2
    (subst (λ (f : Format). IfSome (reader_remaining g.R.Read.remaining c.loop.input) (λ xs. LooksLinear f (length c.loop.filter.bytes + length xs) c.loop.symbols.looks c.flush_then_step.new.symbols.looks)) c.loop.invariant.1 c.flush_then_step.ensures.linear)

pub returns-clause-linear : goal.returns-clause-linear
returns-clause-linear g c = elim c.loop-test.branch [
  | else-loop-test w ↦
      rw w.symbols-is (paid_stop c.args.symbols.now.memo c.loop.filter _ _ c.args.symbols.now.looks c.loop.symbols.looks (passing_known _ _ _ _ _ _ c.loop.invariant.0) c.loop.invariant.2)
  | then-loop-test+in_ok-flush_then_step+else-not-branch+else-counter-lt18446744073709551615 w ↦
      let took = turn_same c.loop.symbols.memo c.args.symbols.now.memo _ _ _ _ _ _ c.loop.invariant.1 (w.in_ok-flush_then_step.ensures.took (ap Ok w.if-not-branch.false)) in
      let paid = subst (λ (f : Format). StepPaid f c.loop.filter w.flush_then_step.new.filter (reader_remaining g.R.Read.remaining c.loop.input) (reader_remaining g.R.Read.remaining w.flush_then_step.new.input) c.loop.symbols.looks w.flush_then_step.new.symbols.looks) c.loop.invariant.1 w.in_ok-flush_then_step.ensures.paid in
      rw w.symbols-is (paid_stop c.args.symbols.now.memo w.flush_then_step.new.filter _ _ c.args.symbols.now.looks w.flush_then_step.new.symbols.looks
      (passing_known _ _ _ _ _ _ (passing_turn _ _ _ _ _ _ _ _ _ c.loop.invariant.0 took))
      (paid_join c.args.symbols.now.memo (from_start []) c.loop.filter w.flush_then_step.new.filter _ _ _ c.args.symbols.now.looks c.loop.symbols.looks w.flush_then_step.new.symbols.looks (passing_known _ _ _ _ _ _ c.loop.invariant.0) c.loop.invariant.2 paid))
]
