use Rattle.std.proofs.Common.{false, arith, refl, sym, ◌∙◌}
use Rattle.demangle_v0_grammar.specs.Table.{constant_inside}
use Rattle.demangle_v0_parser.specs.Traces.{trace_at}
use Rattle.demangle_v0_parser.specs.declared.constant_lists.ConstantList.TheVariants as list
use Rattle.demangle_v0_parser.proofs.ConstantListSteps.{constants}
use Rattle.demangle_v0_parser.proofs.ListSteps.{second_closes, second_continues}
use Rattle.demangle_v0_parser.proofs.parse.Parser.second_tuple_constant.Goals as goal

pub returns-then-ends_list : goal.returns-then-ends_list
unfolding trace_at
returns-then-ends_list c = λ p. rw (c.put.ensures, c.ends_list.ensures.place) (record {
  does = second_closes constant_inside refl (sym c.ends_list.ensures.over ∙ c.if-ends_list.true) refl
      c.ends_list.ensures.within_budget (omega arith) (omega arith) c.requires.can_step.fits;
  same = (refl, refl, refl);
})

pub returns : goal.returns
unfolding trace_at
returns c = λ p. rw (c.put-2.ensures, c.push.ensures, c.ends_list.ensures.place) (record {
  does = second_continues (constants _ false list.Tuple) refl (sym c.ends_list.ensures.over ∙ c.if-ends_list.false) refl
      c.ends_list.ensures.within_budget (omega arith) c.requires.can_step.fits refl;
  same = (refl, refl, refl);
})
