use Rattle.std.proofs.Common.{arith, refl}
use Rattle.demangle_v0_grammar.specs.Reading.{parse}
use Rattle.demangle_v0_parser.proofs.StepErrors.{stops}
use Rattle.demangle_v0_parser.proofs.StepCases.{after_error}
use Rattle.demangle_v0_parser.proofs.TaggedConstantSteps.{signed_minus, signed_plus}
use Rattle.demangle_v0_parser.proofs.parse.Parser.signed_number.Goals as goal

pub returns-in_err-at : goal.returns-in_err-at
unfolding parse
returns-in_err-at g c = record {
  does = rw (stops c.from_residual.result c.from_residual.ensures.1 c.in_err-at.ensures.failed.1)
      (after_error c.requires.can_step.no_pending_text (rw c.in_err-at.ensures.failed.0 refl) (omega arith));
  same = (refl, refl, refl);
}

pub returns-then-is_at : goal.returns-then-is_at
returns-then-is_at g c = rw c.put.ensures (record {
  does = signed_minus c.args.tag c.in_ok-at.at c.in_ok-at.ensures.ok c.if-is_at.ensures.there c.is_at.ensures.look
      c.requires.can_step.fits;
  same = (refl, refl, refl);
})

pub returns : goal.returns
returns g c = record {
  does = signed_plus c.args.tag c.in_ok-at.at c.in_ok-at.ensures.ok c.if-is_at.ensures.there c.is_at.ensures.look
      (rw c.in_ok-at.ensures.ok (omega (
        arith,
        c.is_at.ensures.look,
        rw c.in_ok-at.ensures.ok at c.number.ensures.own_looks,
      ))) c.number.ensures.performs.does;
  same = c.number.ensures.performs.same;
}
