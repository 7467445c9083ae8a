use Rattle.std.proofs.Common.{refl}
use Rattle.demangle_v0_parser.proofs.ImplSteps.{as_continues}
use Rattle.demangle_v0_parser.proofs.parse.Parser.as_trait.Goals as goal

pub returns : goal.returns
returns c = λ p. rw (c.put.ensures, c.push.ensures) (record {
  does = as_continues c.requires.can_step.fits
      refl;
  same = (refl, refl, refl);
})
