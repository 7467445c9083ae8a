use Rattle.std.proofs.Common.{refl, arith}
use Rattle.demangle_v0_parser.specs.Traces.{trace_at}
use Rattle.demangle_v0_parser.proofs.StepErrors.{stops, stops_invalid, stops_none}
use Rattle.demangle_v0_parser.proofs.PatternSteps.{pattern_untagged, pattern_wrong, range_continues, not_null, or_too_deep, or_continues}
use Rattle.demangle_v0_parser.proofs.StepCases.{after_error}
use Rattle.demangle_v0_parser.proofs.parse.Parser.pattern.Goals as goal

pub returns-in_err-at : goal.returns-in_err-at
unfolding trace_at
returns-in_err-at c = λ p. record {
  does = rw (stops c.from_residual.result c.from_residual.ensures.1 c.in_err-at.ensures.failed.1)
      (after_error c.requires.can_step.no_pending_text (rw c.in_err-at.ensures.failed.0 refl) (omega arith));
  same = (refl, refl, refl);
}

pub returns-in_err-tag : goal.returns-in_err-tag
returns-in_err-tag c = λ p. record {
  does = rw (stops_invalid c.from_residual-in_err-tag.result c.from_residual-in_err-tag.ensures.1
      c.in_err-tag.ensures.fault) (pattern_untagged c.in_ok-at.at c.in_ok-at.ensures.ok c.in_err-tag.ensures.read
      c.tag.ensures.look c.requires.can_step.no_pending_text);
  same = (refl, refl, refl);
}

pub returns-in_err-kind : goal.returns-in_err-kind
returns-in_err-kind c = λ p. record {
  does = rw (stops_none c.from_residual-in_err-kind.result c.from_residual-in_err-kind.ensures.1
      c.in_err-kind.ensures.value c.in_err-kind.ensures.ok_part) (pattern_wrong c.in_ok-at.at c.in_ok-tag.tag
      c.in_ok-tag.next c.in_ok-at.ensures.ok c.in_ok-tag.ensures.read
      (rw c.in_err-kind.ensures.ok_part at c.pattern_kind.ensures) c.tag.ensures.look c.requires.can_step.no_pending_text);
  same = (refl, refl, refl);
}

pub returns-in-Range : goal.returns-in-Range
returns-in-Range c = λ p. rw c.push.ensures (record {
  does = range_continues c.in_ok-at.at c.in_ok-tag.tag c.in_ok-tag.next c.in_ok-at.ensures.ok c.in_ok-tag.ensures.read
      (rw (c.in_ok-kind.ensures.ok_part, c.in-Range.is) at c.pattern_kind.ensures) c.tag.ensures.look
      c.requires.can_step.no_pending_text c.requires.can_step.fits refl;
  same = (refl, refl, refl);
})

pub returns-in_err-enter-in-Or : goal.returns-in_err-enter-in-Or
returns-in_err-enter-in-Or c = let deep = c.in_err-enter-in-Or.ensures.deep in λ p. rw deep.2 (record {
  does = rw (stops c.from_residual-in_err-enter-in-Or.result c.from_residual-in_err-enter-in-Or.ensures.1 deep.1)
      (or_too_deep c.in_ok-at.at c.in_ok-tag.tag c.in_ok-tag.next c.in_ok-at.ensures.ok c.in_ok-tag.ensures.read
      (rw (c.in_ok-kind.ensures.ok_part, c.in-Or.is) at c.pattern_kind.ensures) deep.0 c.tag.ensures.look
      c.requires.can_step.no_pending_text);
  same = (refl, refl, refl);
})

pub returns-in_ok-enter-in-Or : goal.returns-in_ok-enter-in-Or
returns-in_ok-enter-in-Or c = let ok = c.in_ok-enter-in-Or.ensures.ok in λ p. rw (c.push-in-Or.ensures, ok.1) (record {
  does = or_continues c.in_ok-at.at c.in_ok-tag.tag c.in_ok-tag.next c.in_ok-at.ensures.ok c.in_ok-tag.ensures.read
      (rw (c.in_ok-kind.ensures.ok_part, c.in-Or.is) at c.pattern_kind.ensures) ok.0 c.tag.ensures.look
      c.requires.can_step.no_pending_text c.requires.can_step.fits refl;
  same = (refl, refl, refl);
})

pub returns-in-NotNull : goal.returns-in-NotNull
returns-in-NotNull c = λ p. rw (c.end_with.ensures.end, c.end_with.ensures.with_text) (record {
  does = not_null c.in_ok-at.at c.in_ok-tag.tag c.in_ok-tag.next c.in_ok-at.ensures.ok c.in_ok-tag.ensures.read
      (rw (c.in_ok-kind.ensures.ok_part, c.in-NotNull.is) at c.pattern_kind.ensures) c.tag.ensures.look;
  same = (refl, refl, refl);
})
