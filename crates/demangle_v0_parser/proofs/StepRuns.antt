-- Steps that one method performs in sequence.
use Rattle.std.proofs.Common.{◌≡◌, ℕ, ◌+◌, ◌≤◌, ◌<◌, false, List, [], ◌∷◌, ◌++◌, length, Result, Ok, Err, refl, arith, sym, ap, ◌∙◌, subst, append_assoc, length-append}
use Rattle.std.proofs.lemmas.Bool.{false≢true}
use Rattle.std.proofs.lemmas.List.{append-nil}
use Rattle.demangle_v0_grammar.specs.LookTotals.{allowed_in}
use Rattle.demangle_v0_grammar.specs.Traces.{Trace}
use Rattle.demangle_v0_parser.specs.Loops.{RanSteps, StepDone, StoppedAfter, ResumesAt, pops, Valid, Reads, ReadDone, trace_left}
use Rattle.demangle_v0_parser.specs.Measure.{measure, weight_at, weight_left, AllInner}
use Rattle.demangle_v0_parser.specs.Steps.{Env, Machine, resumed_of}
use Rattle.demangle_v0_parser.specs.StepRuns.{full_measure, raised, bare, Runs, starts, then_step, then_resumes, StepsDone, runs_on}
use Rattle.demangle_v0_parser.specs.Parsers.{Same, env_of}
use Rattle.demangle_v0_parser.specs.Traces.{pushed_on}
use Rattle.demangle_v0_parser.specs.declared.parse.Parser.{Parser}
use Rattle.demangle_v0_tokens.specs.declared.output.Output.{Ghosts}
use Rattle.demangle_v0_parser.specs.declared.Continuation.{Continuation}
use Rattle.demangle_v0_parser.specs.declared.Continuation.TheVariants as continuation
use Rattle.demangle_v0_parser.specs.declared.State.{State}
use Rattle.demangle_v0_parser.specs.declared.frames.Frame.{Frame}
use Rattle.demangle_v0_parser.specs.declared.stops.ReadOutcome.TheVariants as halt
use Rattle.demangle_sink.specs.declared.SinkRefused.{SinkRefused}
use Rattle.demangle_v0_parser.proofs.LoopLemmas.{valid_steps, ran_stepped, ran_none, ran_then, ran_resumes, ran_step, step_trace, bits_of, bits_total, allowed_bits, weights_pushed, pushed_above, inner_pushed, inner_below, valid_push, valid_resumes, resume_light, resumes_trace, reads_resume}

-- the stack of a machine may be written otherwise
restacked_ran : {V : Type 0} {e : Env V} {p q : Continuation} {t : Machine V} (u : Machine V) {xs ys : List Frame} → xs ≡ ys → RanSteps e p t q (record u { stack = xs }) → RanSteps e p t q (record u { stack = ys })
restacked_ran {e = e} {p = p} {q = q} {t = t} u k d = subst (λ (zs : List Frame). RanSteps e p t q (record u { stack = zs })) k d

inner_joined : (xs ys : List Frame) → AllInner xs → AllInner ys → AllInner (xs ++ ys)
inner_joined [] ys h k = k
inner_joined (f ∷ xs) ys h k = (h.0, inner_joined xs ys h.1 k)

pub at_top : (stack : List Frame) → stack ++ [] ≡ stack
at_top stack = append-nil stack

full_weight : (p : Continuation) → weight_at p ≤ weight_left p + 1
full_weight continuation.End = omega arith
full_weight p = omega arith

-- the frame on top resumes, above the frames below
top_resumes : {V : Type 0} (u : Machine V) (now : List Frame) (f : Frame) → u.stack ≡ now ++ f ∷ [] → (below : List Frame) → ResumesAt 0 continuation.End u.state (below ++ u.stack) f.continuation (resumed_of u.state f) (below ++ now)
top_resumes u now f k below =
    let over : below ++ u.stack ≡ (below ++ now) ++ f ∷ [] = ap (λ (ys : List Frame). below ++ ys) k ∙ sym (append_assoc below now (f ∷ [])) in
    pops f refl (omega (arith, ap length over, length-append {A = Frame} (below ++ now) (f ∷ []))) over refl refl

module _ {V : Type 0} {e : Env V} where
  -- a step lowers the measure
  step_lighter : {p q : Continuation} {t u : Machine V} (z : StepDone e p t (Ok q) u) (above : List Frame) → measure e.symbol e.form e.output.is_printed q u.state (pushed_on above z.steps.0.pushed) < full_measure e p t.state above
  step_lighter {p} {q} {t} {u} z above =
      let d = z.steps.0 in
      omega (
        arith,
        ap (λ (h : Trace). allowed_in h.events) (step_trace z above),
        allowed_bits e.output.is_printed (bits_of e d.prefix d.emitted d.back) (trace_left e q (record u { stack = pushed_on above d.pushed })),
        weights_pushed above d.pushed,
        d.lighter,
        bits_total e d.prefix d.emitted d.back,
      )

  -- what one more step leaves on the stack
  stack_after : {p q : Continuation} {t u : Machine V} (z : StepDone e p t (Ok q) u) (below : List Frame) → pushed_on (below ++ t.stack) z.steps.0.pushed ≡ below ++ u.stack
  stack_after {t = t} z below = pushed_above below t.stack z.steps.0.pushed ∙ ap (λ (ys : List Frame). below ++ ys) (sym z.steps.0.is_stack)

  -- What a run does, whatever frames are below those of both.

  pub run_steps : {p : Continuation} {t : Machine V} {q : Continuation} {u : Machine V} → Runs e p t q u → (below : List Frame) → RanSteps e p (raised below t) q (raised below u)
  run_steps starts below = ran_none
  run_steps (then_step {mid = mid} {after = after} x on z ready) below = ran_then (run_steps x below) (restacked_ran after (stack_after z below) (ran_step z (below ++ mid.stack)))
  run_steps (then_resumes {mid = mid} now f x k) below = ran_then (run_steps x below) (ran_resumes (top_resumes mid now f k below))

  pub run_valid : {p : Continuation} {t : Machine V} {q : Continuation} {u : Machine V} → Runs e p t q u → (below : List Frame) → Valid p t.state (below ++ t.stack) → Valid q u.state (below ++ u.stack)
  run_valid starts below v = v
  run_valid (then_step {at = at} {q = q} {mid = mid} {after = after} x on z ready) below v =
      let d = z.steps.0 in
      subst (Valid q after.state) (stack_after z below) (valid_push at q mid.state after.state (below ++ mid.stack) d.pushed (run_valid x below v) d.outer_height d.inner_height d.outer_fits d.inner_fits z.steps.1)
  run_valid (then_resumes {mid = mid} now f x k) below v = valid_resumes (run_valid x below v) (top_resumes mid now f k below)

  pub run_lighter : {p : Continuation} {t : Machine V} {q : Continuation} {u : Machine V} → Runs e p t q u → (below : List Frame) → full_measure e q u.state (below ++ u.stack) ≤ full_measure e p t.state (below ++ t.stack)
  run_lighter starts below = omega arith
  run_lighter (then_step {q = q} {mid = mid} {after = after} x on z ready) below = omega (arith, run_lighter x below, step_lighter z (below ++ mid.stack), full_weight q, ap (measure e.symbol e.form e.output.is_printed q after.state) (stack_after z below))
  run_lighter (then_resumes {mid = mid} now f x k) below =
      let resumes = top_resumes mid now f k below in
      omega (arith, run_lighter x below, resume_light resumes, ap (λ (h : Trace). allowed_in h.events) (resumes_trace e.symbol e.form e.output.is_printed resumes))

  pub run_inner : {p : Continuation} {t : Machine V} {q : Continuation} {u : Machine V} → Runs e p t q u → e.output.is_printed ≡ false → AllInner t.stack → AllInner u.stack
  run_inner starts n i = i
  run_inner (then_step {mid = mid} x on z ready) n i =
      let d = z.steps.0 in
      subst AllInner (sym d.is_stack) (inner_pushed mid.stack d.pushed (run_inner x n i) (d.no_output n))
  run_inner (then_resumes now f x k) n i = inner_below now f (subst AllInner k (run_inner x n i))

  pub run_ready : {p : Continuation} {t : Machine V} {q : Continuation} {u : Machine V} → Runs e p t q u → e.output.ready t.output → e.output.ready u.output
  run_ready starts r = r
  run_ready (then_step x on z ready) r = ready (run_ready x r)
  run_ready (then_resumes now f x k) r = run_ready x r

  -- The last step, and the loops.

  pub runs_ran : {p q : Continuation} {t u : Machine V} → Runs e p (bare t) q u → RanSteps e p t q (raised t.stack u)
  runs_ran {p} {q} {t} {u} x = subst (λ (zs : List Frame). RanSteps e p (record t { stack = zs }) q (raised t.stack u)) (at_top t.stack) (run_steps x t.stack)

  pub runs_valid : {p q : Continuation} {t u : Machine V} → Runs e p (bare t) q u → Valid p t.state t.stack → Valid q u.state (t.stack ++ u.stack)
  runs_valid {p} {q} {t} {u} x v = run_valid x t.stack (subst (Valid p t.state) (sym (at_top t.stack)) v)

  pub steps_valid : {p q : Continuation} {t u : Machine V} → Valid p t.state t.stack → StepsDone e p t (Ok q) u → Valid q u.state u.stack
  steps_valid v z = valid_steps (runs_valid z.runs v) z.done

  run_alone : (t : Machine V) {p q : Continuation} {u : Machine V} → Runs e p (bare t) q u → runs_on p ≡ false → (q ≡ p) × (u ≡ bare t)
  run_alone t starts n = (refl, refl)
  run_alone t (then_step x on z ready) n = let k = run_alone t x n in absurd (false≢true (sym n ∙ (ap runs_on (sym k.0) ∙ on)))
  run_alone t (then_resumes now f x k) n = absurd (omega (arith, ap (λ (m : Machine V). length m.stack) (run_alone t x n).1, ap length k, length-append {A = Frame} now (f ∷ [])))

  -- any other continuation than a path or a name is run in one step
  pub steps_alone : {p : Continuation} {t u : Machine V} {r : Result Continuation SinkRefused} → runs_on p ≡ false → StepsDone e p t r u → StepDone e p t r u
  steps_alone {p} {t} {u} {r} n z =
      let k = run_alone t z.runs n in
      subst (λ (zs : List Frame). StepDone e p (record t { stack = zs }) r u) (at_top t.stack)
      (subst (λ (m : Machine V). StepDone e p (raised t.stack m) r u) k.1 (subst (λ (a : Continuation). StepDone e a (raised t.stack z.mid) r u) k.0 z.done))

  -- one iteration lowers the measure
  pub steps_less : {base : ℕ} {p q r : Continuation} {s : State} {stack : List Frame} {t u : Machine V} → ResumesAt base p s stack q t.state t.stack → StepsDone e q t (Ok r) u
      → measure e.symbol e.form e.output.is_printed r u.state u.stack < measure e.symbol e.form e.output.is_printed p s stack
  steps_less {q = q} {r = r} {t = t} {u = u} x z =
      let below = t.stack ++ z.mid.stack in
      omega (
        arith,
        resume_light x,
        ap (λ (h : Trace). allowed_in h.events) (resumes_trace e.symbol e.form e.output.is_printed x),
        run_lighter z.runs t.stack,
        ap (full_measure e q t.state) (at_top t.stack),
        step_lighter z.done below,
        ap (measure e.symbol e.form e.output.is_printed r u.state) z.done.steps.0.is_stack,
      )

  -- one iteration of printing
  pub steps_ran : {base : ℕ} {o p q r : Continuation} {first t w : Machine V} {s : State} {mid : List Frame} → RanSteps e o first p t → ResumesAt base p t.state t.stack q s mid → StepsDone e q (record t { state = s; stack = mid }) (Ok r) w → RanSteps e o first r w
  steps_ran x k z = ran_then x (ran_then (ran_resumes k) (ran_then (runs_ran z.runs) (ran_stepped z.done)))

  -- the output rejected a text
  pub steps_broke : {base : ℕ} {o p q : Continuation} {first t w : Machine V} {s : State} {mid : List Frame} {f : SinkRefused} → RanSteps e o first p t → ResumesAt base p t.state t.stack q s mid → StepsDone e q (record t { state = s; stack = mid }) (Err f) w → StoppedAfter e o first w.output w.looks
  steps_broke {w = w} {mid = mid} x k z = record { at = z.at; mid = raised mid z.mid; stack = mid ++ z.mid.stack; end = w; ran = ran_then x (ran_then (ran_resumes k) (runs_ran z.runs)); halts = z.done.steps.0; same_output = refl; same_looks = refl }

  -- one iteration of a parse above other frames
  pub steps_reads : {base : ℕ} {below : List Frame} {o p q r : Continuation} {first t w : Machine V} {s : State} {mid : List Frame} → e.output.is_printed ≡ false → Reads e below o first p t → length below ≡ base → ResumesAt base p t.state t.stack q s mid
      → StepsDone e q (record t { state = s; stack = mid }) (Ok r) w → Reads e below o first r w
  steps_reads {below = below} {q = q} {r = r} {t = t} {w = w} {s = s} {mid = mid} without_output x l k z =
      let y = reads_resume x l k in
      let d = z.done.steps.0 in
      let own = y.frames ++ z.mid.stack in
      let split : mid ++ z.mid.stack ≡ below ++ own = ap (λ (ys : List Frame). ys ++ z.mid.stack) y.is_stack ∙ append_assoc below y.frames z.mid.stack in
      let before : RanSteps e q (record t { state = s; stack = y.frames }) z.at (raised y.frames z.mid) = subst (λ (zs : List Frame). RanSteps e q (record t { state = s; stack = zs }) z.at (raised y.frames z.mid)) (at_top y.frames) (run_steps z.runs y.frames) in
      record {
        frames = pushed_on own d.pushed;
        is_stack = d.is_stack ∙ (ap (λ (ys : List Frame). pushed_on ys d.pushed) split ∙ pushed_above below own d.pushed);
        inner = inner_pushed own d.pushed (inner_joined y.frames z.mid.stack y.inner (run_inner z.runs without_output tt)) (d.no_output without_output);
        ran = ran_then y.ran (ran_then before (ran_step z.done own));
      }

  -- the parse failed
  pub steps_fail : {base : ℕ} {below : List Frame} {o p q end : Continuation} {first t w : Machine V} {s u : State} {mid : List Frame} {f : SinkRefused} → e.output.is_printed ≡ false → Reads e below o first p t → length below ≡ base → ResumesAt base p t.state t.stack q s mid
      → StepsDone e q (record t { state = s; stack = mid }) (Err f) w → ReadDone e below o first halt.Failed end (record w { state = u })
  steps_fail {below = below} {q = q} {t = t} {w = w} {s = s} {mid = mid} without_output x l k z =
      let y = reads_resume x l k in
      let d = z.done.steps in
      let own = y.frames ++ z.mid.stack in
      let split : mid ++ z.mid.stack ≡ below ++ own = ap (λ (ys : List Frame). ys ++ z.mid.stack) y.is_stack ∙ append_assoc below y.frames z.mid.stack in
      let before : RanSteps e q (record t { state = s; stack = y.frames }) z.at (raised y.frames z.mid) = subst (λ (zs : List Frame). RanSteps e q (record t { state = s; stack = zs }) z.at (raised y.frames z.mid)) (at_top y.frames) (run_steps z.runs y.frames) in
      record {
        reads = (
          record { at = z.at; mid = raised mid z.mid; stack = own; end = w; ran = ran_then y.ran before; halts = d.0; same_output = refl; same_looks = refl },
          inner_joined y.frames z.mid.stack y.inner (run_inner z.runs without_output tt),
          (own ++ d.1.0, d.1.1 ∙ (ap (λ (ys : List Frame). ys ++ d.1.0) split ∙ append_assoc below own d.1.0)),
        );
      }

-- Steps of a parser that was at another step before, with the same source.
pub steps_as : {V : Type 0} (output : Ghosts V) (m k : Parser) {p : Continuation} {t u : Machine V} {r : Result Continuation SinkRefused} → Same m k → StepsDone (env_of output k) p t r u → StepsDone (env_of output m) p t r u
steps_as output m k (e, h, n) d = rw (← e, ← h) d
