use Rattle.std.proofs.Common.{true, false, arith, refl}
use Rattle.demangle_symbol.proofs.IntegerEnds.{end_read, end_unread}
use Rattle.demangle_v0_parser.proofs.ImplSteps.{impl_unread, impl_stops, impl_continues}
use Rattle.demangle_v0_parser.proofs.parse.Parser.impl_disambiguator.Goals as goal

pub returns-in_default : goal.returns-in_default
returns-in_default c = λ p. record {
  does = impl_unread c.args.is_trait c.in_default.is
      c.requires.can_step.no_pending_text;
  same = (refl, refl, refl);
}

pub returns-in_default-after_disambiguator : goal.returns-in_default-after_disambiguator
returns-in_default-after_disambiguator c = λ p. record {
  does = impl_stops c.args.is_trait c.in-Some.at c.in-Some.is
      (end_unread _ c.in_default-after_disambiguator.ensures.read)
      (record { grows = omega arith; within = omega (arith, c.in_default-after_disambiguator.ensures.err_looks) })
      c.requires.can_step.no_pending_text;
  same = (refl, refl, refl);
}

pub returns-then-is_trait : goal.returns-then-is_trait
returns-then-is_trait c = λ p. rw c.if-is_trait.true (record {
  does = impl_continues true c.in-Some.at _ c.in-Ok.next c.in-Some.is (end_read _ _ c.in-Ok.ensures.read).1 (record {
    grows = omega arith;
    within = omega (arith, c.in-Ok.ensures.ok_looks);
  }) c.requires.can_step.no_pending_text c.requires.can_step.fits;
  same = (refl, refl, refl);
})

pub returns : goal.returns
returns c = λ p. rw c.if-is_trait.false (record {
  does = impl_continues false c.in-Some.at _ c.in-Ok.next c.in-Some.is (end_read _ _ c.in-Ok.ensures.read).1
      (record { grows = omega arith; within = omega (arith, c.in-Ok.ensures.ok_looks) }) c.requires.can_step.no_pending_text
      c.requires.can_step.fits;
  same = (refl, refl, refl);
})
