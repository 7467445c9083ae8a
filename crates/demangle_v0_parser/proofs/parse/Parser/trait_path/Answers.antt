use Rattle.std.proofs.Common.{false, arith, refl, sym, ◌∙◌}
use Rattle.demangle_v0_grammar.specs.Items.{a_trait_path}
use Rattle.demangle_v0_parser.specs.Traces.{trace_at}
use Rattle.demangle_v0_parser.proofs.StepErrors.{stops}
use Rattle.demangle_v0_parser.proofs.DynTraitSteps.{trait_refers, generic_trait, plain_trait}
use Rattle.demangle_v0_parser.proofs.BackrefSteps.{unit_trait}
use Rattle.demangle_v0_parser.proofs.StepCases.{after_error}
use Rattle.demangle_v0_parser.proofs.parse.Parser.trait_path.Goals as goal

pub returns-in_err-at : goal.returns-in_err-at
unfolding trace_at
returns-in_err-at g c = let failed = c.in_err-at.ensures.failed in rw (stops c.from_residual.result c.from_residual.ensures.1 failed.1) (record {
  does = after_error c.requires.can_step.no_pending_text (rw failed.0 refl) (omega arith);
  same = (refl, refl, refl);
})

pub returns-then-is_at : goal.returns-then-is_at
returns-then-is_at g c =
    let d = c.follow_backref.ensures.performs false a_trait_path false (unit_trait _ c.args.self.now.source.form _ _ _) in
    record {
      does = trait_refers c.in_ok-at.at c.in_ok-at.ensures.ok (rw c.is_at.ensures.there at c.if-is_at.true)
          c.is_at.ensures.look (c.is_at.ensures.within c.if-is_at.true) d.does;
      same = d.same;
    }

pub returns-then-is_at-2 : goal.returns-then-is_at-2
returns-then-is_at-2 g c = rw c.push.ensures (record {
  does = generic_trait c.in_ok-at.at c.in_ok-at.ensures.ok (sym c.is_at.ensures.there ∙ c.if-is_at.false)
      (sym c.is_at-2.ensures.there ∙ c.if-is_at-2.true) (omega (arith, c.is_at.ensures.look, c.is_at-2.ensures.look))
      c.requires.can_step.no_pending_text c.requires.can_step.fits refl;
  same = (refl, refl, refl);
})

pub returns : goal.returns
returns g c = record {
  does = plain_trait c.in_ok-at.at c.in_ok-at.ensures.ok (sym c.is_at.ensures.there ∙ c.if-is_at.false)
      (sym c.is_at-2.ensures.there ∙ c.if-is_at-2.false) (omega (arith, c.is_at.ensures.look, c.is_at-2.ensures.look))
      c.requires.can_step.no_pending_text c.requires.can_step.fits;
  same = (refl, refl, refl);
}
