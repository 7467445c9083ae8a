-- The steps of the loop of printing at a target.
use Rattle.std.specs.Prelude.{◌||◌}
use Rattle.std.proofs.Common.{◌≡◌, ◌⊎◌, inl, inr, ℕ, ◌≤◌, ◌<◌, Bool, true, false, Option, Some, None, Result, Ok, Err, IsErr, List, [], length, subst, ◌++◌, refl, arith, sym, ap, ◌∙◌}
use Rattle.std.proofs.Math.ListN.{drop, take}
use Rattle.std.proofs.lemmas.Bool.{false≢true}
use Rattle.std.proofs.lemmas.List.{append-nil, length-take, take-append-drop}
use Rattle.demangle_sink.specs.declared.TextSink.{Ghosts as Sinks}
use Rattle.demangle_sink.specs.declared.limit.SizeLimitedFmtAdapter.{SizeLimitedFmtAdapter}
use Rattle.demangle_v0_grammar.specs.LookTotals.{allowed_in}
use Rattle.demangle_v0_grammar.specs.Reading.{Form, Place}
use Rattle.demangle_v0_grammar.specs.Traces.{Trace}
use Rattle.demangle_v0.specs.Above.{AboveDone, RunsAbove, printing_on}
use Rattle.demangle_v0.specs.HeldTexts.{HoldsTexts}
use Rattle.demangle_v0.specs.declared.held_texts.StoredText.{StoredText}
use Rattle.demangle_sink.specs.Limit.{Ready}
use Rattle.std.specs.List.{concat}
use Rattle.demangle_v0_grammar.specs.Traces.{texts_in}
use Rattle.demangle_v0.proofs.Above.{lifted, whole_done}
use Rattle.demangle_v0.proofs.NotedTexts.{JoinedTaken, NothingTaken, all_held, events_of, taken}
use Rattle.demangle_sink.specs.declared.SinkRefused.{SinkRefused}
use Rattle.demangle_v0_parser.specs.declared.stops.Checkpoint.{Checkpoint}
use Rattle.demangle_v0_parser.specs.declared.stops.Unfinished.{Unfinished}
use Rattle.demangle_v0_parser.specs.declared.stops.Unfinished.TheVariants as left
use Rattle.demangle_v0_parser.specs.Loops.{PrintDone, first_looks, RanSteps, ResumesAt, Valid, frame_height, printing}
use Rattle.demangle_v0_parser.specs.Measure.{height_at, measure, most_frames, weight_left, weights}
use Rattle.demangle_v0_parser.specs.Steps.{Machine, machine}
use Rattle.demangle_v0_parser.specs.Targets.{is_target, unit_of}
use Rattle.demangle_v0_parser.specs.Traces.{remaining_trace, trace_at}
use Rattle.demangle_v0_parser.specs.declared.Continuation.{Continuation}
use Rattle.demangle_v0_parser.specs.declared.Continuation.TheVariants as continuation
use Rattle.demangle_v0_parser.specs.declared.State.{State}
use Rattle.demangle_v0_parser.specs.declared.frames.Frame.{Frame}
use Rattle.demangle_v0_parser.proofs.Heights.{has_room_on}
use Rattle.demangle_v0_parser.proofs.LoopLemmas.{allowed_bits}
use Rattle.demangle_v0.proofs.SkipSteps.{resumes_less}

-- a print stopped at a target, or is valid
pub stops_or : {A B C : Type 0} → (A × B) ⊎ C → A ⊎ C
stops_or (inl x) = inl x.0
stops_or (inr y) = inr y

pub skipped_of : (a b : Bool) → (a || b) ≡ true → b ≡ false → a ≡ true
skipped_of true b h k = refl
skipped_of false b h k = absurd (false≢true (sym k ∙ h))

pub neither : (a b : Bool) → (a || b) ≡ false → a ≡ false
neither true b h = absurd (false≢true (sym h))
neither false b h = refl

-- after the text of the target was put again
pub put_valid : {p : Continuation} {s : State} {stack : List Frame} (i : Place) (o : Bool) → Valid p s stack → Valid continuation.End (record s { place = i; is_bracket_open = o }) stack
put_valid {p} {s} {stack} i o v = record { has_room = has_room_on frame_height most_frames (height_at p s.depth_left) 0 stack v.has_room (omega arith); fits = tt; all_fit = v.all_fit; no_pending_text = v.no_pending_text }

pub unit_valid : (p : Continuation) (s : State) (stack : List Frame) → is_target p ≡ true → Valid p s stack → Valid (unit_of p) s stack
unit_valid continuation.TargetPath s stack k v = record { has_room = has_room_on frame_height most_frames (height_at continuation.TargetPath s.depth_left) (height_at continuation.Path s.depth_left) stack v.has_room (omega arith); fits = v.fits; all_fit = v.all_fit; no_pending_text = v.no_pending_text }
unit_valid continuation.TargetType s stack k v = record { has_room = has_room_on frame_height most_frames (height_at continuation.TargetType s.depth_left) (height_at continuation.«Type» s.depth_left) stack v.has_room (omega arith); fits = v.fits; all_fit = v.all_fit; no_pending_text = v.no_pending_text }
unit_valid continuation.TargetConstant s stack k v = record { has_room = has_room_on frame_height most_frames (height_at continuation.TargetConstant s.depth_left) (height_at continuation.Constant s.depth_left) stack v.has_room (omega arith); fits = v.fits; all_fit = v.all_fit; no_pending_text = v.no_pending_text }
unit_valid p s stack k v = absurd (false≢true k)

-- Each of the two ends.

target_weight : (p : Continuation) → is_target p ≡ true → 1 ≤ weight_left p
target_weight continuation.TargetPath k = omega arith
target_weight continuation.TargetType k = omega arith
target_weight continuation.TargetConstant k = omega arith
target_weight p k = absurd (false≢true k)

pub put_less : {S : Type 0} (sink : Sinks S) (b : List ℕ) (form : Form) {base : ℕ} {o q : Continuation} {r s u : State} {stack mid : List Frame} {v w : SizeLimitedFmtAdapter S} {m n : ℕ} → ResumesAt base o r stack q s mid → is_target q ≡ true
    → RanSteps (printing sink b form) q (machine s mid v m) continuation.End (machine u mid w n) → measure b form true continuation.End u mid < measure b form true o r stack
put_less sink b form {q = q} {u = u} {mid = mid} x k z =
    omega (arith, resumes_less b form true x, target_weight q k, ap (λ (h : Trace). allowed_in h.events) z.reads, allowed_bits true z.bits (remaining_trace b form true continuation.End u mid))

pub unit_less : (b : List ℕ) (form : Form) {base : ℕ} {o : Continuation} (q : Continuation) {r s : State} {stack mid : List Frame} → ResumesAt base o r stack q s mid → is_target q ≡ true → measure b form true (unit_of q) s mid < measure b form true o r stack
unfolding trace_at
unit_less b form continuation.TargetPath x k = omega (arith, resumes_less b form true x)
unit_less b form continuation.TargetType x k = omega (arith, resumes_less b form true x)
unit_less b form continuation.TargetConstant x k = omega (arith, resumes_less b form true x)
unit_less b form p x k = absurd (false≢true k)

pub target_less : (b : List ℕ) (form : Form) (p : Continuation) (s : State) (stack : List Frame) → is_target p ≡ true → measure b form true (unit_of p) s stack < measure b form true p s stack
unfolding trace_at
target_less b form continuation.TargetPath s stack k = omega arith
target_less b form continuation.TargetType s stack k = omega arith
target_less b form continuation.TargetConstant s stack k = omega arith
target_less b form p s stack k = absurd (false≢true k)

-- after the target was printed
pub over_less : {S : Type 0} (sink : Sinks S) (b : List ℕ) (form : Form) {p : Continuation} {s u : State} {stack now : List Frame} {v w : SizeLimitedFmtAdapter S} {m n : ℕ} → is_target p ≡ true → now ≡ stack
    → RanSteps (printing sink b form) p (machine s stack v m) continuation.End (machine u now w n) → measure b form true continuation.End u now < measure b form true p s stack
over_less sink b form {p = p} {u = u} {now = now} k e z =
    omega (arith, target_weight p k, ap weights e, ap (λ (h : Trace). allowed_in h.events) z.reads, allowed_bits true z.bits (remaining_trace b form true continuation.End u now))

pub target_unread : (p : Continuation) (s : State) → is_target p ≡ true → first_looks p s ≡ 0
target_unread continuation.TargetPath s k = refl
target_unread continuation.TargetType s k = refl
target_unread continuation.TargetConstant s k = refl
target_unread p s k = absurd (false≢true k)

-- the production of the target has its trace
pub unit_runs : {S : Type 0} (sink : Sinks S) (b : List ℕ) (form : Form) {below : List Frame} {o : Continuation} (q : Continuation) {first t : Machine (SizeLimitedFmtAdapter S)} → is_target q ≡ true → RunsAbove (printing sink b form) below o first q t → RunsAbove (printing sink b form) below o first (unit_of q) t
unfolding trace_at
unit_runs sink b form continuation.TargetPath k x = record { frames = x.frames; is_stack = x.is_stack; ran = record { bits = x.ran.bits; emits = x.ran.emits; reads = x.ran.reads; paid_looks = x.ran.paid_looks } }
unit_runs sink b form continuation.TargetType k x = record { frames = x.frames; is_stack = x.is_stack; ran = record { bits = x.ran.bits; emits = x.ran.emits; reads = x.ran.reads; paid_looks = x.ran.paid_looks } }
unit_runs sink b form continuation.TargetConstant k x = record { frames = x.frames; is_stack = x.is_stack; ran = record { bits = x.ran.bits; emits = x.ran.emits; reads = x.ran.reads; paid_looks = x.ran.paid_looks } }
unit_runs sink b form p k x = absurd (false≢true k)

-- the frames below and above
pub split_frames : (stack : List Frame) (n : ℕ) → n ≤ length stack → (below : List Frame) × (above : List Frame) × (stack ≡ below ++ above) × (length below ≡ n)
split_frames stack n l = (take n stack, drop n stack, sym (take-append-drop n stack), omega (arith, l, length-take n stack))

-- Steps from the production of a target are steps from the target.

target_steps : {S : Type 0} (sink : Sinks S) (b : List ℕ) (form : Form) (p : Continuation) {q : Continuation} {t u : Machine (SizeLimitedFmtAdapter S)} → is_target p ≡ true → RanSteps (printing sink b form) (unit_of p) t q u → RanSteps (printing sink b form) p t q u
unfolding trace_at
target_steps sink b form continuation.TargetPath k x = record { bits = x.bits; emits = x.emits; reads = x.reads; paid_looks = x.paid_looks }
target_steps sink b form continuation.TargetType k x = record { bits = x.bits; emits = x.emits; reads = x.reads; paid_looks = x.paid_looks }
target_steps sink b form continuation.TargetConstant k x = record { bits = x.bits; emits = x.emits; reads = x.reads; paid_looks = x.paid_looks }
target_steps sink b form p k x = absurd (false≢true k)

pub target_above : {S : Type 0} (sink : Sinks S) (b : List ℕ) (form : Form) (p : Continuation) {below : List Frame} {t : Machine (SizeLimitedFmtAdapter S)} (result : Result (Option Unfinished) SinkRefused) {r : Checkpoint} {now : List Frame} {w : SizeLimitedFmtAdapter S} {n : ℕ} → is_target p ≡ true → AboveDone (printing sink b form) below (unit_of p) t result r now w n → AboveDone (printing sink b form) below p t result r now w n
target_above sink b form p (Ok None) k d = record { ran = (d.ran.0, target_steps sink b form p k d.ran.1) }
target_above sink b form p (Ok (Some left.Printing)) k d = record { ran = record { frames = d.ran.frames; is_stack = d.ran.is_stack; ran = target_steps sink b form p k d.ran.ran } }
target_above sink b form p (Ok (Some (left.Skipping base r))) k d =
    let x = d.ran in
    record { ran = record { began = x.began; skips = x.skips; runs = record { frames = x.runs.frames; is_stack = x.runs.is_stack; ran = target_steps sink b form p k x.runs.ran } } }
target_above sink b form p (Err f) k d =
    let z = d.ran in
    record { ran = record { at = z.at; mid = z.mid; stack = z.stack; end = z.end; ran = target_steps sink b form p k z.ran; halts = z.halts; same_output = z.same_output; same_looks = z.same_looks } }

module _ {S : Type 0} (sink : Sinks S) (b : List ℕ) (form : Form) where
  -- what a print above the frames of a target says
  abbrev pub AboveFrames : Continuation → State → SizeLimitedFmtAdapter S → ℕ → List Frame → ℕ → Result (Option Unfinished) SinkRefused → Checkpoint → List Frame → SizeLimitedFmtAdapter S → ℕ → Type 0
  AboveFrames q s v looks frames base result r now w n = (below above : List Frame) → frames ≡ below ++ above → length below ≡ base → AboveDone (printing sink b form) below q (machine s above v looks) result r now w n

  own_above : (p : Continuation) (s : State) (v w : SizeLimitedFmtAdapter S) (looks base n : ℕ) (frames now : List Frame) (result : Result (Option Unfinished) SinkRefused) (r : Checkpoint) → is_target p ≡ true → base ≡ length frames → AboveFrames (unit_of p) s v looks frames base result r now w n → AboveDone (printing sink b form) frames p (machine s [] v looks) result r now w n
  own_above p s v w looks base n frames now result r k l h = target_above sink b form p result k (h frames [] (sym (append-nil frames)) (sym l))

  -- the target was not printed to its end
  pub target_done : (p : Continuation) (s : State) (v w : SizeLimitedFmtAdapter S) (looks base n : ℕ) (frames now : List Frame) (result : Result (Option Unfinished) SinkRefused) (r : Checkpoint) → is_target p ≡ true → base ≡ length frames → (result ≡ Ok None → ⊥) → AboveFrames (unit_of p) s v looks frames base result r now w n
      → PrintDone (printing sink b form) p (machine s frames v looks) result r now w n
  target_done p s v w looks base n frames now result r k l never h =
      subst (λ (zs : List Frame). PrintDone (printing sink b form) p (machine s zs v looks) result r now w n) (append-nil frames)
      (whole_done (printing sink b form) p (machine s [] v looks) frames [] result r now w n (λ q. absurd (never q)) (own_above p s v w looks base n frames now result r k l h))

  -- the target was printed
  pub target_over : (p : Continuation) (s : State) (v w : SizeLimitedFmtAdapter S) (looks base n : ℕ) (frames now : List Frame) (r : Checkpoint) → is_target p ≡ true → base ≡ length frames → AboveFrames (unit_of p) s v looks frames base (Ok None) r now w n
      → (now ≡ frames) × RanSteps (printing sink b form) p (machine s [] v looks) continuation.End (machine r.state [] w n)
  target_over p s v w looks base n frames now r k l h = (own_above p s v w looks base n frames now (Ok None) r k l h).ran

  pub target_on : (p : Continuation) (s : State) (v w : SizeLimitedFmtAdapter S) (looks base n : ℕ) (frames now : List Frame) (r : Checkpoint) → is_target p ≡ true → base ≡ length frames → r.continuation ≡ continuation.End → AboveFrames (unit_of p) s v looks frames base (Ok None) r now w n
      → PrintDone (printing sink b form) p (machine s frames v looks) (Ok (Some left.Printing)) r now w n
  target_on p s v w looks base n frames now r k l q h =
      let x = target_over p s v w looks base n frames now r k l h in
      let on : RanSteps (printing sink b form) p (machine s (frames ++ []) v looks) continuation.End (machine r.state (frames ++ []) w n) = lifted (printing sink b form) p continuation.End (machine s [] v looks) (machine r.state [] w n) frames [] [] x.1 in
      let here : RanSteps (printing sink b form) p (machine s frames v looks) continuation.End (machine r.state frames w n) = subst (λ (zs : List Frame). RanSteps (printing sink b form) p (machine s zs v looks) continuation.End (machine r.state zs w n)) (append-nil frames) on in
      record { ran = rw (q, x.0) here }

  pub print_fails : {p : Continuation} {t : Machine (SizeLimitedFmtAdapter S)} (result : Result (Option Unfinished) SinkRefused) {r : Checkpoint} {now : List Frame} {w : SizeLimitedFmtAdapter S} {n : ℕ} {f : SinkRefused} → IsErr result → PrintDone (printing sink b form) p t (Err f) r now w n → PrintDone (printing sink b form) p t (printing_on result) r now w n
  print_fails (Ok x) h d = absurd (false≢true h)
  print_fails (Err g) h d = record { ran = d.ran }

  pub held_ran : NothingTaken sink b form → JoinedTaken sink b form → {p q : Continuation} {t u : Machine (SizeLimitedFmtAdapter S)} (ts : List StoredText) → Ready sink t.output → HoldsTexts sink b form t.output ts → RanSteps (printing sink b form) p t q u → HoldsTexts sink b form u.output ts
  held_ran nothing joined {t = t} {u = u} ts r h x = all_held sink b form (concat (texts_in (events_of x.bits))) t.output u.output ts (taken sink b form nothing joined x.bits t.output u.output r x.emits) h

  pub held_left : NothingTaken sink b form → JoinedTaken sink b form → {p : Continuation} {t : Machine (SizeLimitedFmtAdapter S)} (x : Unfinished) {r : Checkpoint} {now : List Frame} {w : SizeLimitedFmtAdapter S} {n : ℕ} (ts : List StoredText) → Ready sink t.output → HoldsTexts sink b form t.output ts → PrintDone (printing sink b form) p t (Ok (Some x)) r now w n → HoldsTexts sink b form w ts
  held_left nothing joined left.Printing ts r h d = held_ran nothing joined ts r h d.ran
  held_left nothing joined (left.Skipping base at) ts r h d = held_ran nothing joined ts r h d.ran.ran
