use Rattle.std.proofs.Common.{refl, sym, ◌∙◌}
use Rattle.demangle_v0_parser.proofs.DynTraitSteps.{traits_over, trait_on}
use Rattle.demangle_v0_parser.proofs.ListSteps.{on}
use Rattle.demangle_v0_parser.proofs.parse.Parser.dyn_trait.Goals as goal

pub returns-then-ends_list-clause-performs : goal.returns-then-ends_list-clause-performs
returns-then-ends_list-clause-performs c = λ p. rw c.ends_list.ensures.place (record {
  does = traits_over c.args.is_first (sym c.ends_list.ensures.over ∙ c.if-ends_list.true) refl c.ends_list.ensures.within_budget
      c.requires.can_step.no_pending_text;
  same = (refl, refl, refl);
})

pub returns-clause-performs : goal.returns-clause-performs
returns-clause-performs c = λ p. rw (c.push.ensures, c.ends_list.ensures.place) (record {
  does = trait_on c.args.is_first (on _ _ (sym c.ends_list.ensures.over ∙ c.if-ends_list.false)) refl
      c.ends_list.ensures.within_budget c.separator-self.ensures c.requires.can_step.fits refl;
  same = (refl, refl, refl);
})
