use Rattle.std.proofs.lemmas.Bool.{false≢true}
use Rattle.demangle_v0_parser.specs.Skips.{is_skipped}
use Rattle.demangle_v0_parser.specs.Targets.{is_target}
use Rattle.demangle_v0_parser.specs.Measure.{measure}
use Rattle.std.proofs.Common.{◌≡◌, ◌<◌, ℕ, List, Option, Result, Ok, Err, Some, None, length, true, inl, inr, arith, refl, sym, ap, ◌∙◌, subst}
use Rattle.demangle_v0_parser.specs.Parsers.{Same, checkpoint_of}
use Rattle.demangle_v0_grammar.specs.Reading.{Form}
use Rattle.demangle_v0_parser.specs.Loops.{Valid, ValidUnfinished, printing}
use Rattle.demangle_v0_parser.specs.declared.Continuation.TheVariants as continuation
use Rattle.demangle_v0_parser.specs.declared.parse.Parser.{Parser}
use Rattle.demangle_v0_parser.specs.declared.frames.Frame.{Frame}
use Rattle.demangle_v0_parser.specs.declared.stops.Checkpoint.{Checkpoint}
use Rattle.demangle_v0_parser.specs.declared.stops.Unfinished.{Unfinished}
use Rattle.demangle_v0_parser.specs.declared.stops.Unfinished.TheVariants as left
use Rattle.demangle_sink.specs.declared.SinkRefused.{SinkRefused}
use Rattle.demangle_v0.proofs.Above.{above_broke, above_fail, above_left, above_over, above_put, above_resume, above_skips, above_steps}
use Rattle.demangle_v0.proofs.NotedTexts.{held_along}
use Rattle.demangle_v0_parser.proofs.Parsers.{left_as}
use Rattle.demangle_v0_parser.proofs.LoopLemmas.{valid_resumes, resumes_length, first_resumes}
use Rattle.demangle_v0_parser.proofs.StepRuns.{steps_as, steps_less, steps_valid}
use Rattle.demangle_v0.proofs.SkipSteps.{resumes_less, skip_unread, skipped_valid, skipped_less, skips_valid}
use Rattle.demangle_v0.proofs.Targets.{neither, put_less, put_valid, skipped_of, split_frames, target_unread, unit_less, unit_runs, unit_valid}
use Rattle.demangle_v0.proofs.printer.print_above.Goals as goal

-- the stack need not be full
not_full : (b : List ℕ) (form : Form) (n : ℕ) (result : Result (Option Unfinished) SinkRefused) (r : Checkpoint) (stack : List Frame) (looks : ℕ) → ValidUnfinished b form n result r stack looks → ValidUnfinished b form 0 result r stack looks
not_full b form n (Ok None) r stack looks v = v
not_full b form n (Ok (Some left.Printing)) r stack looks v = (v.0, omega arith)
not_full b form n (Ok (Some (left.Skipping base at))) r stack looks v = (v.0, v.1, v.2, omega arith)
not_full b form n (Err e) r stack looks v = v

pub skip_part-requires : goal.skip_part-requires
skip_part-requires g c = record { skipped = skipped_of (is_skipped c.resume.new.self.source.form c.in-Some.next) (is_target c.in-Some.next) (sym c.is_aside.ensures ∙ c.if-not-is_aside.false) (sym c.is_target.ensures ∙ c.if-is_target.false); valid = valid_resumes c.steps.invariant.valid c.in-Some.ensures.some }

pub returns-then-is_used_up-clause-ran : goal.returns-then-is_used_up-clause-ran
returns-then-is_used_up-clause-ran g c = λ below above k l. record { ran = c.steps.invariant.ran below above k l }

pub returns-in_default-clause-ran : goal.returns-in_default-clause-ran
returns-in_default-clause-ran g c = λ below above k l.
    let none = c.in_default.ensures.none in
    rw none.2 (record { ran = above_over (rw none.0 at c.steps.invariant.ran below above k l) l none.1 })

pub returns-in-Some-skip_part-clause-full : goal.returns-in-Some-skip_part-clause-full
returns-in-Some-skip_part-clause-full g c = λ _.
    inr (left_as c.skip_part.new.parser.stack.room c.resume.new.self c.skip_part.new.parser (Ok (Some c.in-Some-skip_part.left)) c.skip_part.ensures.same (skips_valid (skipped_of (is_skipped c.resume.new.self.source.form c.in-Some.next) (is_target c.in-Some.next) (sym c.is_aside.ensures ∙ c.if-not-is_aside.false) (sym c.is_target.ensures ∙ c.if-is_target.false)) (valid_resumes c.steps.invariant.valid c.in-Some.ensures.some) c.in-Some-skip_part.ensures.unfinished))

pub returns-in-Some-skip_part-clause-valid : goal.returns-in-Some-skip_part-clause-valid
returns-in-Some-skip_part-clause-valid g c =
    let k = c.skip_part.new.parser in
    not_full k.source.symbol.now k.source.form k.stack.room (Ok (Some c.in-Some-skip_part.left)) (checkpoint_of k) k.stack.frames k.looks (left_as c.skip_part.new.parser.stack.room c.resume.new.self c.skip_part.new.parser (Ok (Some c.in-Some-skip_part.left)) c.skip_part.ensures.same (skips_valid (skipped_of (is_skipped c.resume.new.self.source.form c.in-Some.next) (is_target c.in-Some.next) (sym c.is_aside.ensures ∙ c.if-not-is_aside.false) (sym c.is_target.ensures ∙ c.if-is_target.false)) (valid_resumes c.steps.invariant.valid c.in-Some.ensures.some) c.in-Some-skip_part.ensures.unfinished))

pub returns-in-Some-skip_part-clause-ran : goal.returns-in-Some-skip_part-clause-ran
returns-in-Some-skip_part-clause-ran g c = λ below above k l.
    let same : Same c.args.parser.now c.resume.new.self = (c.in-Some.ensures.same.0 ∙ c.steps.invariant.same.0, c.in-Some.ensures.same.1 ∙ c.steps.invariant.same.1, c.in-Some.ensures.same.2 ∙ c.steps.invariant.same.2) in
    above_left (rw same.1 at (skipped_of (is_skipped c.resume.new.self.source.form c.in-Some.next) (is_target c.in-Some.next) (sym c.is_aside.ensures ∙ c.if-not-is_aside.false) (sym c.is_target.ensures ∙ c.if-is_target.false))) (valid_resumes c.steps.invariant.valid c.in-Some.ensures.some) (rw (same.0, same.1, c.in-Some.ensures.looks) at c.in-Some-skip_part.ensures.unfinished) (above_resume (c.steps.invariant.ran below above k l) l c.in-Some.ensures.some)

pub steps-smaller : goal.steps-smaller
steps-smaller g c =
    let same : Same c.args.parser.now c.resume.new.self = (c.in-Some.ensures.same.0 ∙ c.steps.invariant.same.0, c.in-Some.ensures.same.1 ∙ c.steps.invariant.same.1, c.in-Some.ensures.same.2 ∙ c.steps.invariant.same.2) in
    skipped_less (rw same.1 at (skipped_of (is_skipped c.resume.new.self.source.form c.in-Some.next) (is_target c.in-Some.next) (sym c.is_aside.ensures ∙ c.if-not-is_aside.false) (sym c.is_target.ensures ∙ c.if-is_target.false))) c.in-Some.ensures.some (rw (same.0, same.1) at c.in_default-skip_part.ensures.following)

pub steps-preserved : goal.steps-preserved
steps-preserved g c =
    let same : Same c.args.parser.now c.resume.new.self = (c.in-Some.ensures.same.0 ∙ c.steps.invariant.same.0, c.in-Some.ensures.same.1 ∙ c.steps.invariant.same.1, c.in-Some.ensures.same.2 ∙ c.steps.invariant.same.2) in
    let skips = rw same.1 at (skipped_of (is_skipped c.resume.new.self.source.form c.in-Some.next) (is_target c.in-Some.next) (sym c.is_aside.ensures ∙ c.if-not-is_aside.false) (sym c.is_target.ensures ∙ c.if-is_target.false)) in
    let z = rw (same.0, same.1, c.in-Some.ensures.looks) at c.in_default-skip_part.ensures.following in
    record {
      ready = c.steps.invariant.ready;
      valid = skipped_valid skips z (valid_resumes c.steps.invariant.valid c.in-Some.ensures.some);
      ran = λ below above k l. above_skips g.S.TextSink c.args.parser.now.source.symbol.now c.args.parser.now.source.form skips (above_resume (c.steps.invariant.ran below above k l) l c.in-Some.ensures.some) z;
      same = (c.skip_part.ensures.same.0 ∙ same.0, c.skip_part.ensures.same.1 ∙ same.1, c.skip_part.ensures.same.2 ∙ same.2);
      less = omega (arith, c.steps.invariant.less, skipped_less skips c.in-Some.ensures.some z);
      grows = omega (arith, c.steps.invariant.grows, c.in-Some.ensures.looks, c.skip_part.ensures.grows);
      least = omega (arith, c.steps.invariant.least, c.in-Some.ensures.looks, c.skip_part.ensures.grows, first_resumes c.in-Some.ensures.some, skip_unread c.args.parser.now.source.form _ c.resume.new.self.state skips);
    }

pub steps-requires-clause-can_step : goal.steps-requires-clause-can_step
steps-requires-clause-can_step g c =
    let same : Same c.args.parser.now c.resume.new.self = (c.in-Some.ensures.same.0 ∙ c.steps.invariant.same.0, c.in-Some.ensures.same.1 ∙ c.steps.invariant.same.1, c.in-Some.ensures.same.2 ∙ c.steps.invariant.same.2) in
    let v = valid_resumes c.steps.invariant.valid c.in-Some.ensures.some in
    record {
      ascii = λ _. rw same.0 c.requires.ascii;
      ready = c.steps.invariant.ready;
      no_pending_text = v.no_pending_text;
      room = omega (arith, resumes_length c.in-Some.ensures.some, c.has_room.ensures.0 c.steps-test.true, c.in-Some.ensures.same.2);
      fits = v.fits;
    }

pub steps-requires-clause-unskipped : goal.steps-requires-clause-unskipped
steps-requires-clause-unskipped g c = λ z. neither _ _ (sym c.is_aside.ensures ∙ c.if-not-is_aside.true)

pub returns-in_err-continuation-clause-ran : goal.returns-in_err-continuation-clause-ran
returns-in_err-continuation-clause-ran g c = λ below above k l.
    let d = steps_as (printing g.S.TextSink c.args.parser.now.source.symbol.now c.args.parser.now.source.form).output c.args.parser.now c.resume.new.self (c.in-Some.ensures.same.0 ∙ c.steps.invariant.same.0, c.in-Some.ensures.same.1 ∙ c.steps.invariant.same.1, c.in-Some.ensures.same.2 ∙ c.steps.invariant.same.2) c.in_err-continuation.ensures.stepped in
    above_fail c.from_residual.ensures.0 (above_broke (c.steps.invariant.ran below above k l) l c.in-Some.ensures.some (rw c.in-Some.ensures.looks at d))

pub steps-smaller-then-not-is_aside : goal.steps-smaller-then-not-is_aside
steps-smaller-then-not-is_aside g c =
    let d = steps_as (printing g.S.TextSink c.args.parser.now.source.symbol.now c.args.parser.now.source.form).output c.args.parser.now c.resume.new.self (c.in-Some.ensures.same.0 ∙ c.steps.invariant.same.0, c.in-Some.ensures.same.1 ∙ c.steps.invariant.same.1, c.in-Some.ensures.same.2 ∙ c.steps.invariant.same.2) c.in_ok-continuation.ensures.stepped in
    steps_less c.in-Some.ensures.some d

pub steps-preserved-then-not-is_aside : goal.steps-preserved-then-not-is_aside
steps-preserved-then-not-is_aside g c =
    let same : Same c.args.parser.now c.resume.new.self = (c.in-Some.ensures.same.0 ∙ c.steps.invariant.same.0, c.in-Some.ensures.same.1 ∙ c.steps.invariant.same.1, c.in-Some.ensures.same.2 ∙ c.steps.invariant.same.2) in
    let d = steps_as (printing g.S.TextSink c.args.parser.now.source.symbol.now c.args.parser.now.source.form).output c.args.parser.now c.resume.new.self (c.in-Some.ensures.same.0 ∙ c.steps.invariant.same.0, c.in-Some.ensures.same.1 ∙ c.steps.invariant.same.1, c.in-Some.ensures.same.2 ∙ c.steps.invariant.same.2) c.in_ok-continuation.ensures.stepped in
    record {
      ready = c.in_ok-continuation.ensures.ready refl;
      valid = steps_valid (valid_resumes c.steps.invariant.valid c.in-Some.ensures.some) d;
      ran = λ below above k l. above_steps (c.steps.invariant.ran below above k l) l c.in-Some.ensures.some (rw c.in-Some.ensures.looks at d);
      same = (c.in_ok-continuation.ensures.same.0 ∙ same.0, c.in_ok-continuation.ensures.same.1 ∙ same.1, c.in_ok-continuation.ensures.same.2 ∙ same.2);
      less = omega (arith, c.steps.invariant.less, steps_less c.in-Some.ensures.some d);
      grows = omega (arith, c.steps.invariant.grows, c.in-Some.ensures.looks, c.in_ok-continuation.ensures.grows);
      least = omega (arith, c.steps.invariant.least, c.in-Some.ensures.looks, c.in_ok-continuation.ensures.least, first_resumes c.in-Some.ensures.some);
    }

pub run_target-requires-clause-ready : goal.run_target-requires-clause-ready
run_target-requires-clause-ready g c = c.steps.invariant.ready

pub run_target-requires-clause-valid : goal.run_target-requires-clause-valid
run_target-requires-clause-valid g c = valid_resumes c.steps.invariant.valid c.in-Some.ensures.some

pub run_target-requires-clause-held : goal.run_target-requires-clause-held
run_target-requires-clause-held g c =
    let same : Same c.args.parser.now c.resume.new.self = (c.in-Some.ensures.same.0 ∙ c.steps.invariant.same.0, c.in-Some.ensures.same.1 ∙ c.steps.invariant.same.1, c.in-Some.ensures.same.2 ∙ c.steps.invariant.same.2) in
    let laws = g.met.S.TextSink in
    let split = split_frames c.args.parser.now.stack.frames c.args.scope.base c.requires.above in
    rw (same.0, same.1) (held_along g.S.TextSink c.args.parser.now.source.symbol.now c.args.parser.now.source.form laws.took_nothing laws.took_joined c.args.scope.texts.now c.requires.ready c.requires.held (c.steps.invariant.ran split.0 split.1 split.2 split.3))

pub steps-smaller-then-is_target : goal.steps-smaller-then-is_target
steps-smaller-then-is_target g c =
    let same : Same c.args.parser.now c.resume.new.self = (c.in-Some.ensures.same.0 ∙ c.steps.invariant.same.0, c.in-Some.ensures.same.1 ∙ c.steps.invariant.same.1, c.in-Some.ensures.same.2 ∙ c.steps.invariant.same.2) in
    let b = c.args.parser.now.source.symbol.now in
    let form = c.args.parser.now.source.form in
    let target = (sym c.is_target.ensures ∙ c.if-is_target.true) in
    elim c.in-Some-run_target.ensures.ran [
      | inl x ↦
          let z = rw (same.0, same.1, c.in-Some.ensures.looks) at x.1 in
          let frames : c.run_target.new.parser.stack.frames ≡ c.resume.new.self.stack.frames = ap (λ (y : Parser). y.stack.frames) z.is in
          rw (x.0, frames) (put_less g.S.TextSink b form c.in-Some.ensures.some target (z.ran c.resume.new.self.stack.frames))
      | inr x ↦ rw (x.0, x.1) (unit_less b form c.in-Some.next c.in-Some.ensures.some target)
    ]

pub steps-preserved-then-is_target : goal.steps-preserved-then-is_target
steps-preserved-then-is_target g c =
    let same : Same c.args.parser.now c.resume.new.self = (c.in-Some.ensures.same.0 ∙ c.steps.invariant.same.0, c.in-Some.ensures.same.1 ∙ c.steps.invariant.same.1, c.in-Some.ensures.same.2 ∙ c.steps.invariant.same.2) in
    let b = c.args.parser.now.source.symbol.now in
    let form = c.args.parser.now.source.form in
    let target = (sym c.is_target.ensures ∙ c.if-is_target.true) in
    let valid = valid_resumes c.steps.invariant.valid c.in-Some.ensures.some in
    let new = c.run_target.new.parser in
    elim c.in-Some-run_target.ensures.ran [
      | inl x ↦
          let z = rw (same.0, same.1, c.in-Some.ensures.looks) at x.1 in
          let frames : new.stack.frames ≡ c.resume.new.self.stack.frames = ap (λ (y : Parser). y.stack.frames) z.is in
          let looks = ap (λ (y : Parser). y.looks) z.is in
          rw x.0 (record {
            ready = c.run_target.ensures.ready;
            valid = subst (λ (y : Parser). Valid continuation.End y.state y.stack.frames) (sym z.is) (put_valid new.state.place new.state.is_bracket_open valid);
            ran = λ below above k l. rw frames (above_put (c.steps.invariant.ran below above k l) l c.in-Some.ensures.some z.ran);
            same = (ap (λ (y : Parser). y.source.symbol) z.is, ap (λ (y : Parser). y.source.form) z.is, ap (λ (y : Parser). y.stack.room) z.is ∙ same.2);
            less = omega (arith, c.steps.invariant.less, put_less g.S.TextSink b form c.in-Some.ensures.some target (z.ran c.resume.new.self.stack.frames), ap (λ (zs : List Frame). measure b form true continuation.End new.state zs) frames);
            grows = omega (arith, c.steps.invariant.grows, looks);
            least = omega (arith, c.steps.invariant.least, looks, first_resumes c.in-Some.ensures.some, target_unread c.in-Some.next c.resume.new.self.state target);
          })
      | inr x ↦ rw (x.0, x.1, x.2) (record {
        ready = c.steps.invariant.ready;
        valid = unit_valid c.in-Some.next c.resume.new.self.state c.resume.new.self.stack.frames target valid;
        ran = λ below above k l. rw c.in-Some.ensures.looks (unit_runs g.S.TextSink b form c.in-Some.next target (above_resume (c.steps.invariant.ran below above k l) l c.in-Some.ensures.some));
        same = same;
        less = omega (arith, c.steps.invariant.less, unit_less b form c.in-Some.next c.in-Some.ensures.some target);
        grows = omega (arith, c.steps.invariant.grows, c.in-Some.ensures.looks);
        least = omega (arith, c.steps.invariant.least, c.in-Some.ensures.looks, first_resumes c.in-Some.ensures.some, target_unread c.in-Some.next c.resume.new.self.state target);
      })
    ]

pub returns-in_default-run_target-clause-ran : goal.returns-in_default-run_target-clause-ran
returns-in_default-run_target-clause-ran g c = λ below above k l.
    let z = c.in_default-run_target.ensures.noted in
    rw (z.0, z.1, c.in-Some.ensures.looks) (record { ran = above_resume (c.steps.invariant.ran below above k l) l c.in-Some.ensures.some })

pub returns-in_default-run_target-clause-valid : goal.returns-in_default-run_target-clause-valid
returns-in_default-run_target-clause-valid g c =
    let z = c.in_default-run_target.ensures.noted in
    rw z.0 (valid_resumes c.steps.invariant.valid c.in-Some.ensures.some, omega arith)

pub returns-in_default-run_target-clause-full : goal.returns-in_default-run_target-clause-full
returns-in_default-run_target-clause-full g c = λ _.
    let z = c.in_default-run_target.ensures.noted in
    rw z.0 (inl (record { left = refl; target = (sym c.is_target.ensures ∙ c.if-is_target.true); room = omega (arith, resumes_length c.in-Some.ensures.some, c.has_room.ensures.0 c.steps-test.true, c.in-Some.ensures.same.2) }, z.2))

pub returns-clause-ran : goal.returns-clause-ran
returns-clause-ran g c = λ below above k l. record { ran = c.steps.invariant.ran below above k l }

pub returns-clause-full : goal.returns-clause-full
returns-clause-full g c = λ b.
    let full : (length c.steps.parser.stack.frames < c.steps.parser.stack.room) → ⊥ = λ u. false≢true (sym c.steps-test.false ∙ c.has_room.ensures.1 u) in
    inr (c.steps.invariant.valid, omega (arith, full))

pub returns-then-is_used_up-clause-falls : goal.returns-then-is_used_up-clause-falls
returns-then-is_used_up-clause-falls g c = λ _. rw (c.steps.invariant.same.0, c.steps.invariant.same.1) c.steps.invariant.less

pub returns-clause-falls : goal.returns-clause-falls
returns-clause-falls g c = λ _. rw (c.steps.invariant.same.0, c.steps.invariant.same.1) c.steps.invariant.less

pub returns-in_default-run_target-clause-falls : goal.returns-in_default-run_target-clause-falls
returns-in_default-run_target-clause-falls g c = λ _.
    let same : Same c.args.parser.now c.resume.new.self = (c.in-Some.ensures.same.0 ∙ c.steps.invariant.same.0, c.in-Some.ensures.same.1 ∙ c.steps.invariant.same.1, c.in-Some.ensures.same.2 ∙ c.steps.invariant.same.2) in
    let z = c.in_default-run_target.ensures.noted in
    rw (z.0, same.0, same.1) (omega (arith, c.steps.invariant.less, resumes_less c.args.parser.now.source.symbol.now c.args.parser.now.source.form true c.in-Some.ensures.some))

pub returns-in-Some-skip_part-clause-falls : goal.returns-in-Some-skip_part-clause-falls
returns-in-Some-skip_part-clause-falls g c = λ q. absurd (skipping_left _ c.in-Some-skip_part.left _ _ refl c.in-Some-skip_part.ensures.unfinished.is_left q)
  where
    skipping_left : (q : Result (Option Unfinished) SinkRefused) (x : Unfinished) (base : ℕ) (r : Checkpoint) → q ≡ Ok (Some x) → x ≡ left.Skipping base r → q ≡ Ok (Some left.Printing) → ⊥
    skipping_left q x base r d e z = cc
