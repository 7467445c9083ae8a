use Rattle.std.proofs.Common.{arith, refl}
use Rattle.demangle_v0_parser.proofs.DynTraitSteps.{open_over, open_on}
use Rattle.demangle_v0_parser.proofs.ListSteps.{paid_on}
use Rattle.demangle_v0_parser.proofs.parse.Parser.trait_argument.Goals as goal

pub returns-in_default : goal.returns-in_default
returns-in_default c = λ p w. rw c.element_place.ensures.place (record {
  does = open_over c.args.is_first w c.in_default.ensures.over refl c.element_place.ensures.within_budget
      c.requires.can_step.no_pending_text;
  same = (refl, refl, refl);
})

pub returns : goal.returns
returns c =
    let element = c.in-Some.ensures.element in
    let looked = paid_on _ c.element_place.ensures.within_budget in
    λ p w. rw (c.argument.ensures.continuation, c.argument.ensures.parser, c.push.ensures, c.element_place.ensures.place) (record {
      does = open_on c.args.is_first c.in-Some.at w element.0 element.1
          (record {
            grows = omega (arith, looked.grows, rw (c.push.ensures, c.element_place.ensures.place) at c.argument.ensures.grows);
            within = omega (arith, looked.within, rw (c.push.ensures, c.element_place.ensures.place) at c.argument.ensures.looks);
          })
          c.separator-self.ensures c.requires.can_step.fits refl;
      same = (refl, refl, refl);
    })
