use Rattle.std.proofs.Common.{refl}
use Rattle.demangle_v0_parser.proofs.StepErrors.{stops_none}
use Rattle.demangle_v0_parser.proofs.PatternSteps.{or_failed, or_over, or_on}
use Rattle.demangle_v0_parser.proofs.parse.Parser.next_pattern.Goals as goal

pub returns-in_err-at : goal.returns-in_err-at
returns-in_err-at c = λ p. record {
  does = rw (stops_none c.from_residual.result c.from_residual.ensures.1 c.in_err-at.ensures.value
      c.in_err-at.ensures.ok_part) (or_failed c.in_err-at.ensures.ok_part c.requires.can_step.no_pending_text);
  same = (refl, refl, refl);
}

pub returns-then-is_at : goal.returns-then-is_at
returns-then-is_at c = λ p. record {
  does = or_over c.in_ok-at.at c.in_ok-at.ensures.ok_part c.if-is_at.ensures.there c.is_at.ensures.look
      c.requires.can_step.no_pending_text;
  same = (refl, refl, refl);
}

pub returns : goal.returns
returns c = λ p. rw (c.put.ensures, c.push.ensures) (record {
  does = or_on c.in_ok-at.at c.in_ok-at.ensures.ok_part c.if-is_at.ensures.there c.is_at.ensures.look
      c.requires.can_step.fits refl;
  same = (refl, refl, refl);
})
