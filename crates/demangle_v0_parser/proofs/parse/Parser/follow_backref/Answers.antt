use Rattle.std.proofs.Common.{ap, arith, refl, sym, ◌∙◌}
use Rattle.demangle_v0_parser.specs.Frames.{Stack}
use Rattle.demangle_v0_parser.specs.Targets.{target_of}
use Rattle.demangle_v0_parser.proofs.StepErrors.{stops}
use Rattle.demangle_v0_parser.proofs.BackrefSteps.{target_production, target_stops, target_hidden, target_refused, target_shown}
use Rattle.demangle_v0_parser.proofs.Pace.{refers, refers_most}
use Rattle.demangle_v0_parser.proofs.parse.Parser.follow_backref.Goals as goal

pub returns-in-NotFollowed-clause-performs : goal.returns-in-NotFollowed-clause-performs
returns-in-NotFollowed-clause-performs g c = λ closed k value unit. record {
  does = target_stops closed k value _ c.in-NotFollowed.ensures.value (record {
    grows = omega arith;
    within = omega
        (arith, c.in-NotFollowed.ensures.looks);
  }) c.requires.can_step.no_pending_text;
  same = (refl, refl, refl);
}

pub returns-then-not-is_printing-clause-performs : goal.returns-then-not-is_printing-clause-performs
returns-then-not-is_printing-clause-performs g c = λ closed k value unit. record {
  does = target_hidden closed k value _ _ c.in-Target.ensures.value (record {
    grows = omega arith;
    within = omega
        (arith, c.in-Target.ensures.looks);
  }) (sym c.is_printing.ensures ∙ c.if-not-is_printing.true)
      c.requires.can_step.no_pending_text;
  same = (refl, refl, refl);
}

pub enter-requires : goal.enter-requires
enter-requires g c =
    let m = c.args.self.now in
    let r = refers m.source.symbol.now m.state.depth_left m.state.place c.in-Target.target c.in-Target.next c.in-Target.ensures.value in
    omega (arith, r.back)

pub returns-in_err-follow-in-Target-clause-performs : goal.returns-in_err-follow-in-Target-clause-performs
returns-in_err-follow-in-Target-clause-performs g c = λ closed k value unit. record {
  does = rw (stops c.from_residual.result c.from_residual.ensures.1 refl) (target_refused closed k value c.in-Target.target c.in-Target.next c.in-Target.ensures.value
      (record { grows = omega arith; within = omega (arith, c.in-Target.ensures.looks) }) (sym c.is_printing.ensures
      ∙ c.if-not-is_printing.false) (rw (c.saturating_sub.ensures, c.len.ensures) at c.in_err-follow-in-Target.ensures.follows));
  same = (refl, refl, refl);
}

pub returns-then-looks_up-clause-performs : goal.returns-then-looks_up-clause-performs
returns-then-looks_up-clause-performs g c = λ closed k value unit. rw c.target_of.ensures (record {
  does = target_shown (target_of c.args.unit) closed k value c.in-Target.target c.in-Target.next (target_production c.args.self.now.source.symbol.now c.args.self.now.source.form c.args.unit c.args.self.now.state.in_value c.args.self.now.state.letter c.args.self.now.state.lifetimes closed k value unit) c.in-Target.ensures.value
      (record { grows = omega arith; within = omega (arith, c.in-Target.ensures.looks) }) (sym c.is_printing.ensures
      ∙ c.if-not-is_printing.false) (rw (c.saturating_sub.ensures, c.len.ensures) at c.in_ok-follow-in-Target.ensures.follows) c.in_ok-follow-in-Target.ensures.ready
      c.in-Target.ensures.deep (omega arith) c.requires.can_step
      (ap (λ (s : Stack). s.frames) (rw c.frame-frame.ensures at c.push.ensures.pushed (omega arith)));
  same = (refl, refl, c.push.ensures.room);
})

pub returns-else-looks_up-clause-performs : goal.returns-else-looks_up-clause-performs
returns-else-looks_up-clause-performs g c = λ closed k value unit. record {
  does = target_shown c.args.unit closed k value c.in-Target.target c.in-Target.next unit c.in-Target.ensures.value
      (record { grows = omega arith; within = omega (arith, c.in-Target.ensures.looks) }) (sym c.is_printing.ensures
      ∙ c.if-not-is_printing.false) (rw (c.saturating_sub.ensures, c.len.ensures) at c.in_ok-follow-in-Target.ensures.follows) c.in_ok-follow-in-Target.ensures.ready
      c.in-Target.ensures.deep (omega arith) c.requires.can_step
      (ap (λ (s : Stack). s.frames) (rw c.frame-frame.ensures at c.push.ensures.pushed (omega arith)));
  same = (refl, refl, c.push.ensures.room);
}

-- A reference that is not followed reads on.

pub returns-then-not-is_printing-clause-reads : goal.returns-then-not-is_printing-clause-reads
returns-then-not-is_printing-clause-reads g c =
    let m = c.args.self.now in
    let r = refers m.source.symbol.now m.state.depth_left m.state.place c.in-Target.target c.in-Target.next c.in-Target.ensures.value in
    λ _ _. omega (arith, c.in-Target.ensures.looks, r.slow)

pub returns-then-not-is_printing-clause-most : goal.returns-then-not-is_printing-clause-most
returns-then-not-is_printing-clause-most g c =
    let m = c.args.self.now in
    λ _. omega (arith, c.in-Target.ensures.looks, refers_most m.source.symbol.now m.state.depth_left m.state.place)

pub returns-in-NotFollowed-clause-most : goal.returns-in-NotFollowed-clause-most
returns-in-NotFollowed-clause-most g c =
    let m = c.args.self.now in
    λ _. omega (arith, c.in-NotFollowed.ensures.looks, refers_most m.source.symbol.now m.state.depth_left m.state.place)
