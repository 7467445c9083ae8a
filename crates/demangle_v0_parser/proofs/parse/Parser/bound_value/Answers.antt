use Rattle.std.proofs.Common.{refl, sym, ◌∙◌}
use Rattle.demangle_v0_parser.proofs.DynTraitSteps.{bound_unread, bound_constant_on, bound_type_on}
use Rattle.demangle_v0_parser.proofs.parse.Parser.bound_value.Goals as goal

pub returns-in_default : goal.returns-in_default
returns-in_default c = λ p. rw c.push.ensures (record {
  does = bound_unread (rw c.push.ensures at c.in_default.is) c.requires.can_step.no_pending_text c.requires.can_step.fits refl;
  same = (refl, refl, refl);
})

pub returns-then-is_at : goal.returns-then-is_at
returns-then-is_at c = λ p. rw c.push.ensures (record {
  does = bound_constant_on c.in-Some.at (rw c.push.ensures at c.in-Some.is)
      (rw c.push.ensures at (sym c.is_at.ensures.there ∙ c.if-is_at.true)) (rw c.push.ensures at c.is_at.ensures.look)
      c.requires.can_step.no_pending_text c.requires.can_step.fits refl;
  same = (refl, refl, refl);
})

pub returns : goal.returns
returns c = λ p. rw c.push.ensures (record {
  does = bound_type_on c.in-Some.at (rw c.push.ensures at c.in-Some.is)
      (rw c.push.ensures at (sym c.is_at.ensures.there ∙ c.if-is_at.false)) (rw c.push.ensures at c.is_at.ensures.look)
      c.requires.can_step.no_pending_text c.requires.can_step.fits refl;
  same = (refl, refl, refl);
})
