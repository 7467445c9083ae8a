use Rattle.std.proofs.Common.{◌+◌, [], length, IfSome, arith, rules, refl, ap, subst, Ok, ◌∙◌}
use Rattle.std.proofs.lemmas.Grind.{common_steps}
use Rattle.std.proofs.lemmas.Result.{err_from_is_err_and}
use Rattle.rustc_demangle.proofs.ByteStreamLemmas.{passing_init, passing_known, passing_step, passing_end, passing_err, passing_full}
use Rattle.rustc_demangle.specs.ByteStream.{from_start}
use Rattle.rustc_demangle.specs.LinearLooks.{LooksLinear, StepPaid}
use Rattle.demangle_value.specs.declared.format.Format.{Format}
use Rattle.rustc_demangle.proofs.LinearLooks.{grow_none, grow_more, paid_first, paid_join, paid_last, paid_stop}
use Rattle.rustc_demangle.proofs.MemoLemmas.{took_same, ended_same}
use Rattle.rustc_demangle.proofs.stream.bytes.demangle_bytes_counted.Goals.{else-loop-test, then-loop-test+in_ok-step_counted+else-not-branch+else-counter-lt18446744073709551615}
use Rattle.rustc_demangle.proofs.stream.bytes.demangle_bytes_counted.Goals as goal

pub loop-init : goal.loop-init
loop-init g c = (passing_init _ _ _ _ c.new-filter.ensures, refl, paid_first c.args.memo.now c.new-filter.result _ c.args.looks.now c.new-filter.ensures, grow_none c.args.looks.now)

pub returns-in_err-step_counted-clause-err : goal.returns-in_err-step_counted-clause-err
returns-in_err-step_counted-clause-err g c =
    let p = err_from_is_err_and c.from_residual.result c.from_residual.ensures.1 in
    rw (p.1, p.2) (passing_err _ _ _ _ _ _ _ _ _ _ c.loop.invariant.0 c.in_err-step_counted.ensures.refused)

pub returns-then-not-branch-clause-ok : goal.returns-then-not-branch-clause-ok
returns-then-not-branch-clause-ok g c = passing_end _ _ c.loop.filter c.step_counted.new.self _ _ _ _ _ c.loop.invariant.0 (ended_same c.loop.memo c.args.memo.now c.loop.filter c.step_counted.new.self _ _ _ _ c.loop.invariant.1 (c.in_ok-step_counted.ensures.ended (ap Ok c.if-not-branch.true)))

pub loop-preserved : goal.loop-preserved
loop-preserved g c = (
  passing_step _ _ _ _ _ _ _ _ _ c.loop.invariant.0 (took_same c.loop.memo c.args.memo.now _ _ _ _ _ _ c.loop.invariant.1 (c.in_ok-step_counted.ensures.took (ap Ok c.if-not-branch.false))),
  c.in_ok-step_counted.ensures.same ∙ c.loop.invariant.1,
  paid_join c.args.memo.now (from_start []) c.loop.filter c.step_counted.new.self _ _ _ c.args.looks.now c.loop.looks c.step_counted.new.looks (passing_known _ _ _ _ _ _ c.loop.invariant.0) c.loop.invariant.2
      (subst (λ (f : Format). StepPaid f c.loop.filter c.step_counted.new.self (g.R.Read.remaining c.loop.input) (g.R.Read.remaining c.step_counted.new.input) c.loop.looks c.step_counted.new.looks) c.loop.invariant.1 c.in_ok-step_counted.ensures.paid),
  grow_more _ _ _ c.loop.invariant.3 c.in_ok-step_counted.ensures.grows,
)

pub returns-clause-err : goal.returns-clause-err
returns-clause-err g c = elim c.loop-test.branch [
  | else-loop-test w ↦ passing_full g.W.Write.contents c.other.result _ _ _ _ _ _ _ c.loop.invariant.0 (search rules) w.output-is
  | then-loop-test+in_ok-step_counted+else-not-branch+else-counter-lt18446744073709551615 w ↦
      passing_full g.W.Write.contents c.other.result _ _ _ _ _ _ _ (passing_step _ _ _ _ _ _ _ _ _ c.loop.invariant.0 (took_same c.loop.memo c.args.memo.now _ _ _ _ _ _ c.loop.invariant.1 (w.in_ok-step_counted.ensures.took (ap Ok w.if-not-branch.false)))) (search rules) w.output-is
]

pub returns-then-not-branch-clause-grows : goal.returns-then-not-branch-clause-grows
returns-then-not-branch-clause-grows g c = grind (arith, common_steps)

pub returns-in_err-step_counted-clause-linear : goal.returns-in_err-step_counted-clause-linear
returns-in_err-step_counted-clause-linear g c =
    paid_last c.args.memo.now c.loop.filter _ _ c.args.looks.now c.loop.looks c.step_counted.new.looks (passing_known _ _ _ _ _ _ c.loop.invariant.0) c.loop.invariant.2
    (subst (λ (f : Format). IfSome (g.R.Read.remaining c.loop.input) (λ xs. LooksLinear f (length c.loop.filter.bytes + length xs) c.loop.looks c.step_counted.new.looks)) c.loop.invariant.1 c.step_counted.ensures.linear)

pub returns-then-not-branch-clause-linear : goal.returns-then-not-branch-clause-linear
returns-then-not-branch-clause-linear g c =
    paid_last c.args.memo.now c.loop.filter _ _ c.args.looks.now c.loop.looks c.step_counted.new.looks (passing_known _ _ _ _ _ _ c.loop.invariant.0) c.loop.invariant.2
    (subst (λ (f : Format). IfSome (g.R.Read.remaining c.loop.input) (λ xs. LooksLinear f (length c.loop.filter.bytes + length xs) c.loop.looks c.step_counted.new.looks)) c.loop.invariant.1 c.step_counted.ensures.linear)

pub returns-clause-linear : goal.returns-clause-linear
returns-clause-linear g c = elim c.loop-test.branch [
  | else-loop-test w ↦
      rw w.looks-is (paid_stop c.args.memo.now c.loop.filter _ _ c.args.looks.now c.loop.looks (passing_known _ _ _ _ _ _ c.loop.invariant.0) c.loop.invariant.2)
  | then-loop-test+in_ok-step_counted+else-not-branch+else-counter-lt18446744073709551615 w ↦
      let took = took_same c.loop.memo c.args.memo.now _ _ _ _ _ _ c.loop.invariant.1 (w.in_ok-step_counted.ensures.took (ap Ok w.if-not-branch.false)) in
      let paid = subst (λ (f : Format). StepPaid f c.loop.filter w.step_counted.new.self (g.R.Read.remaining c.loop.input) (g.R.Read.remaining w.step_counted.new.input) c.loop.looks w.step_counted.new.looks) c.loop.invariant.1 w.in_ok-step_counted.ensures.paid in
      rw w.looks-is (paid_stop c.args.memo.now w.step_counted.new.self _ _ c.args.looks.now w.step_counted.new.looks
      (passing_known _ _ _ _ _ _ (passing_step _ _ _ _ _ _ _ _ _ c.loop.invariant.0 took))
      (paid_join c.args.memo.now (from_start []) c.loop.filter w.step_counted.new.self _ _ _ c.args.looks.now c.loop.looks w.step_counted.new.looks (passing_known _ _ _ _ _ _ c.loop.invariant.0) c.loop.invariant.2 paid))
]
