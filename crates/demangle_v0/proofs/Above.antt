-- Prints above other frames.
use Rattle.std.proofs.Common.{◌≡◌, ℕ, ◌+◌, ◌≤◌, ◌<◌, true, Option, Some, None, List, [], ◌∷◌, ◌++◌, length, Result, Ok, Err, IsErr, refl, arith, sym, ap, ◌∙◌, subst, append_assoc, length-append}
use Rattle.std.proofs.lemmas.Bool.{false≢true}
use Rattle.std.proofs.lemmas.List.{append-nil}
use Rattle.demangle_v0_grammar.specs.Reading.{Form, Place}
use Rattle.demangle_v0_grammar.specs.Traces.{Trace, and_then}
use Rattle.demangle_v0_grammar.proofs.TraceLemmas.{and_then_assoc, and_then_ended}
use Rattle.demangle_sink.specs.declared.SinkRefused.{SinkRefused}
use Rattle.demangle_v0.specs.Above.{RunsAbove, AboveDone}
use Rattle.demangle_sink.specs.declared.TextSink.{Ghosts as Sinks}
use Rattle.demangle_sink.specs.declared.limit.SizeLimitedFmtAdapter.{SizeLimitedFmtAdapter}
use Rattle.demangle_v0_parser.specs.Loops.{RanSteps, ResumesAt, Skipped, StopsInPart, Valid, stays, pops, StoppedAfter, PrintDone, printing, trace_left}
use Rattle.demangle_v0_parser.specs.Skips.{is_skipped}
use Rattle.demangle_v0.proofs.PrintLoop.{ran_skips}
use Rattle.demangle_v0_parser.specs.StepRuns.{StepsDone, raised}
use Rattle.demangle_v0_parser.specs.Steps.{Env, Machine, machine}
use Rattle.demangle_v0_parser.specs.Traces.{pushed_on, trace_of_frame, trace_of_stack, trace_of_state}
use Rattle.demangle_v0_parser.specs.declared.Continuation.{Continuation}
use Rattle.demangle_v0_parser.specs.declared.Continuation.TheVariants as continuation
use Rattle.demangle_v0_parser.specs.declared.State.{State}
use Rattle.demangle_v0_parser.specs.declared.frames.Frame.{Frame}
use Rattle.demangle_v0_parser.specs.declared.stops.Checkpoint.{Checkpoint}
use Rattle.demangle_v0_parser.specs.declared.stops.Unfinished.{Unfinished}
use Rattle.demangle_v0_parser.specs.declared.stops.Unfinished.TheVariants as left
use Rattle.demangle_v0_parser.proofs.LoopLemmas.{bits_then, pushed_above, ran_none, ran_resumes, ran_step, ran_then}
use Rattle.demangle_v0_parser.proofs.StackSplit.{above_pop}
use Rattle.demangle_v0_parser.proofs.StepRuns.{at_top, run_steps}

-- the trace of frames above other ones
stack_above : (b : List ℕ) (form : Form) (out : Rattle.std.proofs.Common.Bool) (below above : List Frame) (i : Place) (o : Rattle.std.proofs.Common.Bool) → trace_of_stack b form out (below ++ above) i o ≡ and_then (trace_of_stack b form out above i o) (trace_of_stack b form out below)
unfolding trace_of_stack
stack_above b form out [] above i o = sym (and_then_ended (trace_of_stack b form out above i o))
stack_above b form out (f ∷ below) above i o =
    ap (λ (h : Trace). and_then h (trace_of_frame b form out f)) (stack_above b form out below above i o)
    ∙ and_then_assoc (trace_of_stack b form out above i o) (trace_of_stack b form out below) (trace_of_frame b form out f)

module _ {V : Type 0} where
  left_above : (e : Env V) (p : Continuation) (t : Machine V) (below above : List Frame) → trace_left e p (record t { stack = below ++ above }) ≡ and_then (trace_left e p (record t { stack = above })) (trace_of_stack e.symbol e.form e.output.is_printed below)
  left_above e p t below above =
      let out = e.output.is_printed in
      let own : Trace = trace_of_state e.symbol e.form out p t.state in
      ap (λ (h : Trace). and_then own (λ _ _. h)) (stack_above e.symbol e.form out below above own.place own.is_bracket_open)
      ∙ sym (and_then_assoc own (trace_of_stack e.symbol e.form out above) (trace_of_stack e.symbol e.form out below))

  -- steps above other frames are steps
  pub lifted : (e : Env V) (p q : Continuation) (t u : Machine V) (below above now : List Frame) → RanSteps e p (record t { stack = above }) q (record u { stack = now }) → RanSteps e p (record t { stack = below ++ above }) q (record u { stack = below ++ now })
  lifted e p q t u below above now x =
      let out = e.output.is_printed in
      record {
        bits = x.bits;
        emits = x.emits;
        reads = left_above e p t below above ∙ ap (λ (h : Trace). and_then h (trace_of_stack e.symbol e.form out below)) x.reads ∙ bits_then out x.bits (trace_left e q (record u { stack = now })) (trace_of_stack e.symbol e.form out below) ∙ ap (Rattle.demangle_v0_parser.specs.Traces.with_actions out x.bits) (sym (left_above e q u below now));
        paid_looks = x.paid_looks;
      }

  pub above_none : {e : Env V} {below above : List Frame} {p : Continuation} {t : Machine V} → t.stack ≡ below ++ above → RunsAbove e below p (record t { stack = above }) p t
  above_none {above = above} k = record { frames = above; is_stack = k; ran = ran_none }

  pub above_resume : {e : Env V} {base : ℕ} {below : List Frame} {o p q : Continuation} {first t : Machine V} {s : State} {mid : List Frame} → RunsAbove e below o first p t → length below ≡ base → ResumesAt base p t.state t.stack q s mid → RunsAbove e below o first q (record t { state = s; stack = mid })
  above_resume x l (stays other k r m) = rw (k, r, m) x
  above_resume {below = below} {p = p} {q = q} {t = t} {s = s} {mid = mid} x l (pops f k h r d m) =
      let split = above_pop below x.frames mid f (sym r ∙ x.is_stack) (omega (arith, l, h, ap length r, length-append {A = Frame} mid (f ∷ []))) in
      let over : ResumesAt 0 p t.state x.frames q s split.0 = pops f k (omega (arith, ap length split.1, length-append {A = Frame} split.0 (f ∷ []))) split.1 d m in
      record { frames = split.0; is_stack = split.2; ran = ran_then x.ran (ran_resumes over) }

  -- a target was put again
  pub above_put : {e : Env V} {base : ℕ} {below : List Frame} {o p q r : Continuation} {first t : Machine V} {s u : State} {mid : List Frame} {w : V} {n : ℕ} → RunsAbove e below o first p t → length below ≡ base → ResumesAt base p t.state t.stack q s mid
      → ((stack : List Frame) → RanSteps e q (machine s stack t.output t.looks) r (machine u stack w n)) → RunsAbove e below o first r (machine u mid w n)
  above_put x l k z =
      let y = above_resume x l k in
      record { frames = y.frames; is_stack = y.is_stack; ran = ran_then y.ran (z y.frames) }

  -- nothing is left above
  pub above_over : {e : Env V} {base : ℕ} {below : List Frame} {o : Continuation} {first t : Machine V} → RunsAbove e below o first continuation.End t → length below ≡ base → length t.stack ≤ base → (t.stack ≡ below) × RanSteps e o first continuation.End (record t { stack = [] })
  above_over {e = e} {below = below} {o = o} {first = first} {t = t} x l h = go x.frames x.is_stack x.ran
    where
      go : (frames : List Frame) → t.stack ≡ below ++ frames → RanSteps e o first continuation.End (record t { stack = frames }) → (t.stack ≡ below) × RanSteps e o first continuation.End (record t { stack = [] })
      go [] k r = (k ∙ append-nil below, r)
      go (f ∷ frames) k r = absurd (omega (arith, l, h, ap length k, length-append {A = Frame} below (f ∷ frames)))

  -- one iteration
  pub above_steps : {e : Env V} {base : ℕ} {below : List Frame} {o p q r : Continuation} {first t w : Machine V} {s : State} {mid : List Frame} → RunsAbove e below o first p t → length below ≡ base → ResumesAt base p t.state t.stack q s mid
      → StepsDone e q (record t { state = s; stack = mid }) (Ok r) w → RunsAbove e below o first r w
  above_steps {e = e} {below = below} {q = q} {r = r} {t = t} {w = w} {s = s} {mid = mid} x l k z =
      let y = above_resume x l k in
      let d = z.done.steps.0 in
      let own = y.frames ++ z.mid.stack in
      let split : mid ++ z.mid.stack ≡ below ++ own = ap (λ (ys : List Frame). ys ++ z.mid.stack) y.is_stack ∙ append_assoc below y.frames z.mid.stack in
      let before : RanSteps e q (record t { state = s; stack = y.frames }) z.at (raised y.frames z.mid) = subst (λ (zs : List Frame). RanSteps e q (record t { state = s; stack = zs }) z.at (raised y.frames z.mid)) (at_top y.frames) (run_steps z.runs y.frames) in
      record {
        frames = pushed_on own d.pushed;
        is_stack = d.is_stack ∙ (ap (λ (ys : List Frame). pushed_on ys d.pushed) split ∙ pushed_above below own d.pushed);
        ran = ran_then y.ran (ran_then before (ran_step z.done own));
      }

  -- the output rejected a text
  pub above_broke : {e : Env V} {base : ℕ} {below : List Frame} {o p q : Continuation} {first t w : Machine V} {s : State} {mid : List Frame} {f : SinkRefused} → RunsAbove e below o first p t → length below ≡ base → ResumesAt base p t.state t.stack q s mid
      → StepsDone e q (record t { state = s; stack = mid }) (Err f) w → StoppedAfter e o first w.output w.looks
  above_broke {e = e} {q = q} {t = t} {w = w} {s = s} {mid = mid} x l k z =
      let y = above_resume x l k in
      let own = y.frames ++ z.mid.stack in
      let before : RanSteps e q (record t { state = s; stack = y.frames }) z.at (raised y.frames z.mid) = subst (λ (zs : List Frame). RanSteps e q (record t { state = s; stack = zs }) z.at (raised y.frames z.mid)) (at_top y.frames) (run_steps z.runs y.frames) in
      record { at = z.at; mid = raised mid z.mid; stack = own; end = w; ran = ran_then y.ran before; halts = z.done.steps.0; same_output = refl; same_looks = refl }

  -- The whole parse, of which the part above other frames was printed.

  pub whole_done : (e : Env V) (p : Continuation) (t : Machine V) (below above : List Frame) (result : Result (Option Unfinished) SinkRefused) (r : Checkpoint) (now : List Frame) (w : V) (n : ℕ) → (result ≡ Ok None → below ≡ []) → AboveDone e below p (record t { stack = above }) result r now w n → PrintDone e p (record t { stack = below ++ above }) result r now w n
  whole_done e p t below above (Ok None) r now w n k d = rw (k refl) (record { ran = d.ran.1 })
  whole_done e p t below above (Ok (Some left.Printing)) r now w n k d =
      let end : Machine V = machine r.state [] w n in
      record { ran = subst (λ (zs : List Frame). RanSteps e p (record t { stack = below ++ above }) r.continuation (machine r.state zs w n)) (sym d.ran.is_stack) (lifted e p r.continuation t end below above d.ran.frames d.ran.ran) }
  whole_done e p t below above (Ok (Some (left.Skipping base inner))) r now w n k d =
      let x = d.ran in
      let end : Machine V = machine inner.state [] w x.began in
      record { ran = record { began = x.began; skips = x.skips; ran = subst (λ (zs : List Frame). RanSteps e p (record t { stack = below ++ above }) inner.continuation (machine inner.state zs w x.began)) (sym x.runs.is_stack) (lifted e p inner.continuation t end below above x.runs.frames x.runs.ran) } }
  whole_done e p t below above (Err f) r now w n k d =
      let z = d.ran in
      record { ran = record { at = z.at; mid = z.mid; stack = below ++ z.stack; end = z.end; ran = lifted e p z.at t z.mid below above z.stack z.ran; halts = z.halts; same_output = z.same_output; same_looks = z.same_looks } }

  -- the output rejected a text, in a result
  pub above_fail : {e : Env V} {below : List Frame} {p : Continuation} {t : Machine V} {result : Result (Option Unfinished) SinkRefused} {r : Checkpoint} {now : List Frame} {w : V} {n : ℕ} → IsErr result → StoppedAfter e p t w n → AboveDone e below p t result r now w n
  above_fail {result = Ok x} h d = absurd (false≢true h)
  above_fail {result = Err f} h d = record { ran = d }

  -- the stack is full in a part that is not printed
  pub above_left : {e : Env V} {below : List Frame} {o : Continuation} {first : Machine V} {r to : Checkpoint} {stack now : List Frame} {w : V} {began k n : ℕ} {x : Unfinished} → is_skipped e.form r.continuation ≡ true → Valid r.continuation r.state stack → StopsInPart e.symbol e.form r stack began x k to now n
      → RunsAbove e below o first r.continuation (machine r.state stack w began) → AboveDone e below o first (Ok (Some x)) to now w n
  above_left {stack = stack} {began = began} i v k runs = rw k.is_left (record {
    ran = record { began = began; skips = record { below = stack; height = sym k.height; skips = i; valid = v; reads = k.reads }; runs = runs };
  })

module _ {S : Type 0} (sink : Sinks S) (b : List ℕ) (form : Form) where
  -- a part that is not printed was read
  pub above_skips : {below : List Frame} {o p q : Continuation} {first t : Machine (SizeLimitedFmtAdapter S)} {s : State} {now : List Frame} {n : ℕ} (k : is_skipped form p ≡ true) → RunsAbove (printing sink b form) below o first p t → Skipped b form p t.state t.stack t.looks q s now n
      → RunsAbove (printing sink b form) below o first q (record t { state = s; stack = now; looks = n })
  above_skips {p = p} {q = q} {t = t} {s = s} {n = n} k x z =
      let own : Skipped b form p t.state x.frames t.looks q s x.frames n = record { at = z.at; place = z.place; ends = z.ends; state = z.state; is_stack = refl; paid_looks = z.paid_looks } in
      record { frames = x.frames; is_stack = z.is_stack ∙ x.is_stack; ran = ran_skips sink b form k x.ran own }
