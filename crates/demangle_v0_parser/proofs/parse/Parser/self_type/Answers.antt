use Rattle.std.proofs.Common.{refl}
use Rattle.demangle_v0_parser.proofs.ImplSteps.{self_continues, inherent_continues}
use Rattle.demangle_v0_parser.proofs.parse.Parser.self_type.Goals as goal

pub returns-then-is_trait : goal.returns-then-is_trait
returns-then-is_trait c = λ p. rw (c.if-is_trait.true, c.push.ensures, c.put.ensures)
    (record { does = self_continues c.requires.can_step.fits refl; same = (refl, refl, refl) })

pub returns : goal.returns
returns c = λ p. rw (c.if-is_trait.false, c.push-2.ensures, c.put.ensures)
    (record { does = inherent_continues c.requires.can_step.fits refl; same = (refl, refl, refl) })
