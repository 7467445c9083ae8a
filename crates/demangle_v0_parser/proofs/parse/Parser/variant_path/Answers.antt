use Rattle.std.proofs.Common.{true, false, refl}
use Rattle.demangle_v0_parser.proofs.TaggedConstantSteps.{variant_continues}
use Rattle.demangle_v0_parser.proofs.parse.Parser.variant_path.Goals as goal

pub returns-then-self : goal.returns-then-self
returns-then-self c = λ p. rw c.push.ensures (record {
  does = variant_continues true (rw c.push.ensures at c.if-self.true) c.requires.can_step.no_pending_text c.requires.can_step.fits
      (rw (rw c.push.ensures at c.if-self.true, c.requires.can_step.no_pending_text) refl) refl;
  same = (refl, refl, refl);
})

pub returns : goal.returns
returns c = λ p. rw (c.put.ensures, c.push.ensures) (record {
  does = variant_continues false (rw c.push.ensures at c.if-self.false) c.requires.can_step.no_pending_text c.requires.can_step.fits refl
      refl;
  same = (refl, refl, refl);
})
