use Rattle.std.proofs.Common.{refl}
use Rattle.demangle_v0_parser.proofs.DynTraitSteps.{dyn_opens}
use Rattle.demangle_v0_parser.proofs.parse.Parser.dyn_type.Goals as goal

pub returns : goal.returns
returns c = λ p. rw (c.put.ensures, c.push.ensures) (record { does = dyn_opens c.requires.can_step.fits refl; same = (refl, refl, refl) })
