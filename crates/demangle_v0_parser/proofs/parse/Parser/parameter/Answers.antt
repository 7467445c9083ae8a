use Rattle.std.proofs.Common.{refl, sym, ◌∙◌}
use Rattle.demangle_v0_parser.proofs.FunctionSteps.{parameter_types, parameters_close}
use Rattle.demangle_v0_parser.proofs.ListSteps.{list_continues}
use Rattle.demangle_v0_parser.proofs.parse.Parser.parameter.Goals as goal

pub returns-then-ends_list : goal.returns-then-ends_list
returns-then-ends_list c = λ p. rw (c.put.ensures, c.ends_list.ensures.place) (record {
  does = parameters_close c.args.is_first (sym c.ends_list.ensures.over ∙ c.if-ends_list.true) refl
      c.ends_list.ensures.within_budget c.requires.can_step.fits;
  same = (refl, refl, refl);
})

pub returns : goal.returns
returns c = λ p. rw (c.push.ensures, c.ends_list.ensures.place) (record {
  does = list_continues (parameter_types _ c.args.is_first) (sym c.ends_list.ensures.over ∙ c.if-ends_list.false) refl
      c.ends_list.ensures.within_budget c.separator-self.ensures c.requires.can_step.fits refl;
  same = (refl, refl, refl);
})
