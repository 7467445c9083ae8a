use Rattle.std.proofs.Common.{arith, refl, ◌∙◌}
use Rattle.std.proofs.lemmas.Bool.{false≢true}
use Rattle.demangle_v0_parser.specs.Loops.{no_output_env}
use Rattle.demangle_v0_parser.proofs.StepRuns.{steps_as, steps_fail, steps_less, steps_reads, steps_valid}
use Rattle.demangle_v0_parser.proofs.LoopLemmas.{valid_resumes, resumes_length}
use Rattle.demangle_v0.proofs.reading.read_steps.Goals as goal

pub steps-requires : goal.steps-requires
steps-requires c =
    let v = valid_resumes c.steps.invariant.valid c.in-Some.ensures.some in
    record {
      can_step = record {
        ascii = λ z. absurd (false≢true z);
        ready = tt;
        no_pending_text = v.no_pending_text;
        room = omega (arith, resumes_length c.in-Some.ensures.some, c.has_room.ensures.0 c.steps-test.true, c.in-Some.ensures.same.2);
        fits = v.fits;
      };
      unskipped = λ z. absurd (false≢true z);
    }

pub steps-smaller : goal.steps-smaller
steps-smaller c =
    let d = steps_as (no_output_env c.args.parser.now.source.symbol.now c.args.parser.now.source.form).output c.args.parser.now c.resume.new.self (c.in-Some.ensures.same.0 ∙ c.steps.invariant.same.0, c.in-Some.ensures.same.1 ∙ c.steps.invariant.same.1, c.in-Some.ensures.same.2 ∙ c.steps.invariant.same.2) c.in-Ok.ensures.stepped in
    steps_less c.in-Some.ensures.some d

pub steps-preserved : goal.steps-preserved
steps-preserved c =
    let d = steps_as (no_output_env c.args.parser.now.source.symbol.now c.args.parser.now.source.form).output c.args.parser.now c.resume.new.self (c.in-Some.ensures.same.0 ∙ c.steps.invariant.same.0, c.in-Some.ensures.same.1 ∙ c.steps.invariant.same.1, c.in-Some.ensures.same.2 ∙ c.steps.invariant.same.2) c.in-Ok.ensures.stepped in
    record {
      valid = steps_valid (valid_resumes c.steps.invariant.valid c.in-Some.ensures.some) d;
      reads = λ below above e l i. steps_reads refl (c.steps.invariant.reads below above e l i) l c.in-Some.ensures.some (rw c.in-Some.ensures.looks at d);
      same = (c.in-Ok.ensures.same.0 ∙ (c.in-Some.ensures.same.0 ∙ c.steps.invariant.same.0), c.in-Ok.ensures.same.1 ∙ (c.in-Some.ensures.same.1 ∙ c.steps.invariant.same.1), c.in-Ok.ensures.same.2 ∙ (c.in-Some.ensures.same.2 ∙ c.steps.invariant.same.2));
      grows = omega (arith, c.steps.invariant.grows, c.in-Some.ensures.looks, c.in-Ok.ensures.grows);
    }

pub returns-in-Err-clause-reads : goal.returns-in-Err-clause-reads
returns-in-Err-clause-reads c =
    let d = steps_as (no_output_env c.args.parser.now.source.symbol.now c.args.parser.now.source.form).output c.args.parser.now c.resume.new.self (c.in-Some.ensures.same.0 ∙ c.steps.invariant.same.0, c.in-Some.ensures.same.1 ∙ c.steps.invariant.same.1, c.in-Some.ensures.same.2 ∙ c.steps.invariant.same.2) c.in-Err.ensures.stepped in
    λ below above e l i. steps_fail refl (c.steps.invariant.reads below above e l i) l c.in-Some.ensures.some (rw c.in-Some.ensures.looks at d)
