use Rattle.std.proofs.Common.{refl}
use Rattle.demangle_v0_parser.proofs.PathSteps.{generic_continues}
use Rattle.demangle_v0_parser.proofs.parse.Parser.generic_path.Goals as goal

pub returns : goal.returns
returns c = λ p. rw c.push.ensures (record { does = generic_continues c.requires.can_step refl; same = (refl, refl, refl) })
