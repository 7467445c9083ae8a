use Rattle.std.proofs.Common.{refl, sym, ◌∙◌, true, false}
use Rattle.demangle_v0_parser.proofs.TypeSteps.{reference_failed, reference_continues, reference_named}
use Rattle.demangle_v0_parser.proofs.parse.Parser.reference_type.Goals as goal

pub returns-in_default : goal.returns-in_default
returns-in_default c = λ p. rw (c.after_reference_lifetime.ensures, c.put.ensures) (record {
  does = reference_failed c.args.is_mut (rw c.put.ensures at c.in_default.is) c.requires.fits;
  same = (refl, refl, refl);
})

pub returns-then-not-is_at : goal.returns-then-not-is_at
returns-then-not-is_at c = λ p. rw (c.after_reference_lifetime-then-not-is_at.ensures, c.put.ensures) (record {
  does = reference_continues c.args.is_mut c.in-Some.at (rw c.put.ensures at c.in-Some.is)
      (rw c.put.ensures at (sym c.is_at.ensures.there ∙ c.if-not-is_at.true)) (rw c.put.ensures at c.is_at.ensures.look)
      c.requires.fits;
  same = (refl, refl, refl);
})

pub returns-then-is_mut : goal.returns-then-is_mut
returns-then-is_mut c = λ p. rw (c.if-is_mut.true, c.put.ensures) (record {
  does = reference_named true c.in-Some.at (rw c.put.ensures at c.in-Some.is)
      (rw c.put.ensures at (sym c.is_at.ensures.there ∙ c.if-not-is_at.false)) (rw c.put.ensures at c.is_at.ensures.look)
      c.requires.fits;
  same = (refl, refl, refl);
})

pub returns-else-is_mut : goal.returns-else-is_mut
returns-else-is_mut c = λ p. rw (c.if-is_mut.false, c.put.ensures) (record {
  does = reference_named false c.in-Some.at (rw c.put.ensures at c.in-Some.is)
      (rw c.put.ensures at (sym c.is_at.ensures.there ∙ c.if-not-is_at.false)) (rw c.put.ensures at c.is_at.ensures.look)
      c.requires.fits;
  same = (refl, refl, refl);
})
