use Rattle.std.proofs.Common.{refl}
use Rattle.demangle_v0_parser.proofs.DynTraitSteps.{binding_unread, binding_over, binding_on}
use Rattle.demangle_v0_parser.proofs.parse.Parser.binding.Goals as goal

pub returns-in_default : goal.returns-in_default
returns-in_default c = λ p. record {
  does = binding_unread c.args.is_bracket_open c.in_default.is c.closing_text-self.ensures;
  same = (refl, refl, refl);
}

pub returns-then-not-is_at : goal.returns-then-not-is_at
returns-then-not-is_at c = λ p. record {
  does = binding_over c.args.is_bracket_open c.in-Some.at c.in-Some.is (rw c.is_at.ensures.there at c.if-not-is_at.true)
      c.is_at.ensures.look c.closing_text-self-then-not-is_at.ensures c.requires.can_step.fits;
  same = (refl, refl, refl);
}

pub returns : goal.returns
returns c = λ p. record {
  does = binding_on c.args.is_bracket_open c.in-Some.at c.in-Some.is (rw c.is_at.ensures.there at c.if-not-is_at.false)
      c.is_at.ensures.look c.opening_text.ensures c.requires.can_step.fits;
  same = (refl, refl, refl);
}
