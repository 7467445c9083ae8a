use Rattle.std.proofs.Common.{IfErr, arith, map, subst}
use Rattle.std.proofs.lemmas.Grind.{common_steps}
use Rattle.kodliwe_program.specs.Parts.{part_of, RunStopped}
use Rattle.kodliwe_program.proofs.PartLemmas.{prefix_kept, prefix_joined, not_writing}
use Rattle.kodliwe_program.proofs.filtering.filter_all_counted.Goals.{then-eq, else-eq}
use Rattle.kodliwe_program.proofs.ProgramOutput.{parts_linear, whole_linear, output_linear}
use Rattle.kodliwe_program.proofs.filtering.filter_all_counted.Goals as goal

pub returns-then-ne-clause-read_failed : goal.returns-then-ne-clause-read_failed
returns-then-ne-clause-read_failed g c = λ e.
    let format = c.args.settings.format in
    let all = map (part_of g.R.Read.remaining) c.args.parts.items in
    let old = g.W.Write.contents c.args.output.now in
    let mid = g.W.Write.contents c.write_parts-written.new.output in
    let fault = c.in-Err.stop.fault in
    let err = subst (λ r. IfErr r (λ stop. RunStopped stop.fault format all old mid)) c.in-Err.is c.write_parts-written.ensures.err in
    let stopped = not_writing fault format all old mid (c.outcome_of-outcome.ensures.read_failed e) err in
    elim c.if-eq.branch [
      | then-eq w ↦
          let kept = prefix_kept format all old mid (g.W.Write.contents w.flush.new.output) stopped w.flush.ensures.bytes in
          prefix_joined g.W.Write.contents format all old w.flush.new.output c.if-eq.output w.output-is kept
      | else-eq w ↦
          prefix_joined g.W.Write.contents format all old c.write_parts-written.new.output c.if-eq.output w.output-is stopped
    ]

pub returns-in_default-clause-prints : goal.returns-in_default-clause-prints
returns-in_default-clause-prints g c = parts_linear c.args.settings.format

pub returns-then-ne-clause-prints : goal.returns-then-ne-clause-prints
returns-then-ne-clause-prints g c = parts_linear c.args.settings.format

pub returns-else-ne-clause-prints : goal.returns-else-ne-clause-prints
returns-else-ne-clause-prints g c = parts_linear c.args.settings.format

pub returns-in_default-clause-output : goal.returns-in_default-clause-output
returns-in_default-clause-output g c = λ e. whole_linear c.args.settings.format _ _ _ e c.in_default.ensures.ok

pub returns-then-ne-clause-output : goal.returns-then-ne-clause-output
returns-then-ne-clause-output g c = λ e.
    output_linear c.outcome_of-outcome.result c.args.settings.format _ _ _ e c.outcome_of-outcome.ensures.stopped (returns-then-ne-clause-read_failed g c)

-- Bodies that look, or set the counter back, fail at the goals below, which need no answer otherwise.
pub returns-in_default-clause-grows : goal.returns-in_default-clause-grows
returns-in_default-clause-grows g c = grind (arith, common_steps)

pub returns-then-ne-clause-grows : goal.returns-then-ne-clause-grows
returns-then-ne-clause-grows g c = grind (arith, common_steps)

pub returns-else-ne-clause-grows : goal.returns-else-ne-clause-grows
returns-else-ne-clause-grows g c = grind (arith, common_steps)

pub returns-in_default-clause-linear : goal.returns-in_default-clause-linear
returns-in_default-clause-linear g c = c.write_parts-written.ensures.linear

pub returns-then-ne-clause-linear : goal.returns-then-ne-clause-linear
returns-then-ne-clause-linear g c = c.write_parts-written.ensures.linear

pub returns-else-ne-clause-linear : goal.returns-else-ne-clause-linear
returns-else-ne-clause-linear g c = c.write_parts-written.ensures.linear
