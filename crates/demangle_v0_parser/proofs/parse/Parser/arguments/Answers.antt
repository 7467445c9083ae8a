use Rattle.std.proofs.Common.{arith, refl}
use Rattle.demangle_v0_parser.proofs.ArgumentSteps.{arguments_close, argument_continues}
use Rattle.demangle_v0_parser.proofs.ListSteps.{paid_on}
use Rattle.demangle_v0_parser.proofs.parse.Parser.arguments.Goals as goal

pub returns-in_default : goal.returns-in_default
returns-in_default c = λ p w. rw (c.end_with.ensures.end, c.end_with.ensures.with_text, c.element_place.ensures.place) (record {
  does = arguments_close c.args.is_first w c.in_default.ensures.over refl c.element_place.ensures.within_budget;
  same = (refl, refl, refl);
})

pub returns : goal.returns
returns c =
    let element = c.in-Some.ensures.element in
    let looked = paid_on _ c.element_place.ensures.within_budget in
    let grows = rw (c.push.ensures, c.element_place.ensures.place) at c.argument.ensures.grows in
    let looks = rw (c.push.ensures, c.element_place.ensures.place) at c.argument.ensures.looks in
    λ p w. rw (c.argument.ensures.continuation, c.argument.ensures.parser, c.separator-self.ensures, c.push.ensures, c.element_place.ensures.place)
    (record {
      does = argument_continues c.args.is_first c.in-Some.at w element.0 element.1
          (record {
            grows = omega (arith, looked.grows, grows);
            within = omega (arith, looked.within, looks);
          }) c.requires.can_step.fits refl;
      same = (refl, refl, refl);
    })
