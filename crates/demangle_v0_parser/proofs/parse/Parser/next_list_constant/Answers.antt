use Rattle.std.proofs.Common.{false, refl, sym, ◌∙◌}
use Rattle.demangle_v0_parser.proofs.ConstantListSteps.{constants}
use Rattle.demangle_v0_parser.proofs.ListSteps.{list_continues, list_shuts}
use Rattle.demangle_v0_parser.proofs.parse.Parser.next_list_constant.Goals as goal

pub returns-then-ends_list : goal.returns-then-ends_list
returns-then-ends_list c = λ p. rw (c.end_with.ensures.end, c.end_with.ensures.with_text, c.close.ensures, c.ends_list.ensures.place) (record {
  does = list_shuts (constants _ false c.args.list) (sym c.ends_list.ensures.over ∙ c.if-ends_list.true) refl
      c.ends_list.ensures.within_budget;
  same = (refl, refl, refl);
})

pub returns : goal.returns
returns c = λ p. rw (c.element.ensures, c.put.ensures, c.push.ensures, c.after_next.ensures, c.ends_list.ensures.place)
    (record {
      does = list_continues (constants _ false c.args.list) (sym c.ends_list.ensures.over ∙ c.if-ends_list.false) refl
          c.ends_list.ensures.within_budget refl c.requires.can_step.fits refl;
      same = (refl, refl, refl);
    })
