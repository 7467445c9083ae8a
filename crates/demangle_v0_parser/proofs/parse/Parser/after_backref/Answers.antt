use Rattle.std.proofs.Common.{refl}
use Rattle.demangle_v0_parser.proofs.BackrefSteps.{continues_after}
use Rattle.demangle_v0_parser.proofs.parse.Parser.after_backref.Goals as goal

pub returns : goal.returns
returns g c = record {
  does = continues_after c.requires.can_step.no_pending_text (rw (c.bytes_after.ensures, c.place-end.ensures) at c.give_back.ensures.back) c.give_back.ensures.ready;
  same = (refl, refl, refl);
}
