use Rattle.std.proofs.Common.{true, false, refl}
use Rattle.demangle_v0_parser.proofs.VariantSteps.{unit_ends}
use Rattle.demangle_v0_parser.proofs.parse.Parser.unit_variant.Goals as goal

pub returns-then-self : goal.returns-then-self
returns-then-self c = λ p. record { does = unit_ends true c.if-self.true (rw c.requires.no_pending_text refl); same = (refl, refl, refl) }

pub returns : goal.returns
returns c = λ p. rw c.put.ensures (record { does = unit_ends false c.if-self.false refl; same = (refl, refl, refl) })
