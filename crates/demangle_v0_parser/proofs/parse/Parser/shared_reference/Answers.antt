use Rattle.std.proofs.Common.{refl}
use Rattle.demangle_v0_parser.proofs.TaggedConstantSteps.{shared_failed, shared_continues, shared_text}
use Rattle.demangle_v0_parser.proofs.parse.Parser.shared_reference.Goals as goal

pub returns-in_default : goal.returns-in_default
returns-in_default c = λ p. rw (c.with_braces.ensures.continuation, c.with_braces.ensures.parser) (record {
  does = shared_failed c.in_default.is c.requires.can_step.fits (refl, refl);
  same = (refl, refl, refl);
})

pub returns-then-is_at : goal.returns-then-is_at
returns-then-is_at c = λ p. record {
  does = shared_text c.in-Some.at c.in-Some.is c.if-is_at.ensures.there c.is_at.ensures.look
      c.requires.can_step.no_pending_text c.requires.can_step.fits;
  same = (refl, refl, refl);
}

pub returns : goal.returns
returns c = λ p. rw (c.with_braces-2.ensures.continuation, c.with_braces-2.ensures.parser) (record {
  does = shared_continues c.in-Some.at c.in-Some.is c.if-is_at.ensures.there c.is_at.ensures.look c.requires.can_step.fits
      (refl, refl);
  same = (refl, refl, refl);
})
