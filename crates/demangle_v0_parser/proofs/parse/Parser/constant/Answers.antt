use Rattle.std.proofs.Common.{arith, refl}
use Rattle.demangle_v0_parser.specs.Traces.{trace_at}
use Rattle.demangle_v0_parser.proofs.StepErrors.{stops, stops_invalid}
use Rattle.demangle_v0_parser.proofs.StepCases.{after_error}
use Rattle.demangle_v0_parser.proofs.TaggedConstantSteps.{constant_untagged, constant_too_deep, constant_tagged}
use Rattle.demangle_v0_parser.proofs.parse.Parser.constant.Goals as goal

pub returns-in_err-at : goal.returns-in_err-at
unfolding trace_at
returns-in_err-at g c = record {
  does = rw (stops c.from_residual.result c.from_residual.ensures.1 c.in_err-at.ensures.failed.1)
      (after_error c.requires.can_step.no_pending_text (rw c.in_err-at.ensures.failed.0 refl) (omega arith));
  same = (refl, refl, refl);
}

pub returns-in_err-tag : goal.returns-in_err-tag
returns-in_err-tag g c = record {
  does = rw (stops_invalid c.from_residual-in_err-tag.result c.from_residual-in_err-tag.ensures.1
      c.in_err-tag.ensures.fault) (constant_untagged c.in_ok-at.at c.in_ok-at.ensures.ok c.in_err-tag.ensures.read
      c.tag.ensures.look c.requires.can_step.no_pending_text);
  same = (refl, refl, refl);
}

pub returns-in_err-enter : goal.returns-in_err-enter
returns-in_err-enter g c = let deep = c.in_err-enter.ensures.deep in rw deep.2 (record {
  does = rw (stops c.from_residual-in_err-enter.result c.from_residual-in_err-enter.ensures.1 deep.1)
      (constant_too_deep c.in_ok-at.at c.in_ok-tag.tag c.in_ok-tag.next c.in_ok-at.ensures.ok deep.0
      c.in_ok-tag.ensures.read c.tag.ensures.look c.requires.can_step.no_pending_text);
  same = (refl, refl, refl);
})

pub returns : goal.returns
returns g c =
    let ok = c.in_ok-enter.ensures.ok in
    let d = rw ok.1 at c.tagged_constant.ensures in
    record {
      does = constant_tagged c.in_ok-at.at c.in_ok-tag.tag c.in_ok-tag.next c.in_ok-at.ensures.ok ok.0
          c.in_ok-tag.ensures.read c.tag.ensures.look (rw c.in_ok-at.ensures.ok
          (omega (arith, c.tag.ensures.look, c.in_ok-tag.ensures.within, d.does.own_looks))) d.does;
      same = d.same;
    }
