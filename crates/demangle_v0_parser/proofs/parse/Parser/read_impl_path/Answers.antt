use Rattle.std.proofs.Common.{true, false, refl}
use Rattle.demangle_v0_parser.proofs.ImplSteps.{skip_continues}
use Rattle.demangle_v0_parser.proofs.parse.Parser.read_impl_path.Goals as goal
use Rattle.demangle_v0_parser.proofs.parse.Parser.read_impl_path.Goals.{then-is_trait, else-is_trait}

pub returns : goal.returns
returns c = elim c.if-is_trait.branch [
  | then-is_trait w ↦ rw (c.push.ensures, w.if-is_trait.true, w.next-is)
      (record { does = skip_continues true refl c.requires.can_step.no_pending_text c.requires.can_step.fits refl; same = (refl, refl, refl) })
  | else-is_trait w ↦ rw (c.push.ensures, w.if-is_trait.false, w.next-is)
      (record { does = skip_continues false refl c.requires.can_step.no_pending_text c.requires.can_step.fits refl; same = (refl, refl, refl) })
]
