-- Parses of a whole path.
use Rattle.std.specs.Prelude.{◌*◌}
use Rattle.std.proofs.Common.{inl, inr, ◌⊎◌, ◌≡◌, ℕ, ◌+◌, ◌≤◌, Bool, true, false, None, Some, List, [], ◌∷◌, ◌++◌, length, refl, arith, sym, ap, ◌∙◌, subst}
use Rattle.demangle_v0_grammar.specs.ValidationLooks.{looks_in}
use Rattle.demangle_v0_grammar.specs.Traces.{Event, Trace, allows, events}
use Rattle.demangle_v0_grammar.specs.Items.{a_path}
use Rattle.demangle_v0_grammar.specs.Reading.{Form, Tree, nothing, piece, plain_piece, node, looked, unprinted, referred, max_depth, unit_end, read_at}
use Rattle.demangle_v0_grammar.specs.LookTotals.{allowed_in}
use Rattle.demangle_v0_parser.specs.Measure.{most_frames, AllInner}
use Rattle.demangle_v0_parser.specs.Steps.{Machine, machine}
use Rattle.demangle_v0_parser.specs.Traces.{trace_at, trace_of_state, trace_of_stack, remaining_trace}
use Rattle.demangle_v0_parser.specs.Loops.{Valid, frame_height, EndedAt, RanSteps, ReadDone, first_state, printing, no_output_env, no_output_machine}
use Rattle.demangle_sink.specs.declared.TextSink.{Ghosts as Sinks}
use Rattle.demangle_sink.specs.declared.limit.SizeLimitedFmtAdapter.{SizeLimitedFmtAdapter}
use Rattle.demangle_v0_parser.specs.declared.Continuation.{Continuation}
use Rattle.demangle_v0_parser.specs.declared.Continuation.TheVariants as continuation
use Rattle.demangle_v0_parser.specs.declared.frames.Frame.{Frame}
use Rattle.demangle_v0_parser.specs.declared.State.{State}
use Rattle.demangle_v0_parser.specs.declared.stops.ReadOutcome.{ReadOutcome}
use Rattle.demangle_v0_parser.specs.declared.stops.ReadOutcome.TheVariants as halt
use Rattle.demangle_v0_grammar.proofs.ParsedIffSpelled.{printing_is_spelling, reading_is_spelling}
use Rattle.demangle_v0_grammar.proofs.FailedRows.{allowed_looks}
use Rattle.demangle_v0_grammar.proofs.Rules.{spelled_freely}
use Rattle.demangle_v0_grammar.proofs.TraceLemmas.{and_then_ended}
use Rattle.demangle_v0_tokens.specs.declared.output.NoOutput.{NoOutput}
use Rattle.demangle_v0_parser.proofs.Heights.{stands_first}
use Rattle.demangle_v0_parser.proofs.LoopLemmas.{ran_place, ran_looks, broke_fails}

pub valid_first : (i : ℕ) → Valid continuation.Path (first_state i) []
valid_first i = record { has_room = stands_first frame_height most_frames (8 * max_depth + 1) (omega arith); fits = omega arith; all_fit = tt; no_pending_text = refl }

-- a stack with room for every frame that can follow is never full
pub valid_length : (p : Continuation) (s : State) (stack : List Frame) → Valid p s stack → length stack ≤ most_frames
valid_length p s stack v = omega (arith, v.has_room.above)

pub remaining_trace-empty_stack : (b : List ℕ) (form : Form) (out : Bool) (p : Continuation) (s : State) → remaining_trace b form out p s [] ≡ trace_of_state b form out p s
unfolding trace_of_stack
remaining_trace-empty_stack b form out p s = and_then_ended (trace_of_state b form out p s)

pub over_place : (b : List ℕ) (form : Form) (s : State) → (remaining_trace b form false continuation.End s []).place ≡ s.place
unfolding trace_at trace_of_stack
over_place b form s = refl

pub first_place : (b : List ℕ) (form : Form) (i : ℕ) → form.fold_arguments ≡ false → (remaining_trace b form false continuation.Path (first_state i) []).place ≡ unit_end b a_path i 0
unfolding trace_at unit_end read_at
first_place b form i e =
    ap (λ (h : Trace). h.place) (remaining_trace-empty_stack b form false continuation.Path (first_state i))
    ∙ ap (λ (folds : Bool). (read_at b folds false a_path i 0 0 true).place) e

-- a tree that is not printed has the same events in either form
silent_events : (plain : Bool) (t : Tree) → events plain false t ≡ events true false t
silent_events true t = refl
silent_events false nothing = refl
silent_events false (piece t rest) = silent_events false rest
silent_events false (plain_piece t rest) = silent_events false rest
silent_events false (node inside rest) =
    ap (λ xs. xs ++ events false false rest) (silent_events false inside) ∙ ap (λ xs. events true false inside ++ xs) (silent_events false rest)
silent_events false (looked k rest) = ap (λ (xs : List Event). allows k ∷ xs) (silent_events false rest)
silent_events false (unprinted inside rest) =
    ap (λ xs. xs ++ events false false rest) (silent_events false inside) ∙ ap (λ xs. events true false inside ++ xs) (silent_events false rest)
silent_events false (referred t j end inside) = silent_events false inside
silent_events false _ = refl

pub first_allowed : (b : List ℕ) (form : Form) (i : ℕ) → form.fold_arguments ≡ false → allowed_in (remaining_trace b form false continuation.Path (first_state i) []).events ≡ looks_in (read_at b false false a_path i 0 0 true)
unfolding trace_at read_at
first_allowed b form i e =
    let tree = (read_at b form.fold_arguments false a_path i 0 0 true).tree in
    ap (λ (h : Trace). allowed_in h.events) (remaining_trace-empty_stack b form false continuation.Path (first_state i))
    ∙ (ap allowed_in (silent_events form.include_hash tree) ∙ (allowed_looks true false tree ∙ ap (λ (folds : Bool). looks_in (read_at b folds false a_path i 0 0 true)) e))

-- The place and the looks of a parse without output.

pub failed_of : {r : ReadOutcome} → (r ≡ halt.StackFull) ⊎ (r ≡ halt.Failed) → (r ≡ halt.StackFull → ⊥) → r ≡ halt.Failed
failed_of (inl k) h = absurd (h k)
failed_of (inr k) h = k

module _ {b : List ℕ} {form : Form} {p q : Continuation} {s : State} {stack : List Frame} {m : ℕ} {u : Machine NoOutput} where
  -- the parse ended
  pub over_value : ReadDone (no_output_env b form) [] p (no_output_machine s stack m) halt.Complete q u → u.state.place ≡ (remaining_trace b form false p s stack).place
  over_value r = sym (over_place b form u.state) ∙ ran_place r.reads.1

  pub over_looks : ReadDone (no_output_env b form) [] p (no_output_machine s stack m) halt.Complete q u → u.looks ≤ m + allowed_in (remaining_trace b form false p s stack).events
  over_looks r = omega (arith, ran_looks r.reads.1)

  -- the parse failed
  pub failed_value : ReadDone (no_output_env b form) [] p (no_output_machine s stack m) halt.Failed q u → None ≡ (remaining_trace b form false p s stack).place
  failed_value r = sym (broke_fails refl r.reads.0 r.reads.1).0

  pub failed_looks : ReadDone (no_output_env b form) [] p (no_output_machine s stack m) halt.Failed q u → u.looks ≤ m + allowed_in (remaining_trace b form false p s stack).events
  failed_looks r = (broke_fails refl r.reads.0 r.reads.1).1

  -- the stack is full
  pub full_inner : ReadDone (no_output_env b form) [] p (no_output_machine s stack m) halt.StackFull q u → AllInner u.stack
  full_inner r = subst AllInner (sym r.reads.is_stack) r.reads.inner

  full_ran : ReadDone (no_output_env b form) [] p (no_output_machine s stack m) halt.StackFull q u → RanSteps (no_output_env b form) p (no_output_machine s stack m) q u
  full_ran r = subst (λ (ys : List Frame). RanSteps (no_output_env b form) p (no_output_machine s stack m) q (record u { stack = ys })) (sym r.reads.is_stack) r.reads.ran

  pub full_value : ReadDone (no_output_env b form) [] p (no_output_machine s stack m) halt.StackFull q u → (remaining_trace b form false q u.state u.stack).place ≡ (remaining_trace b form false p s stack).place
  full_value r = ran_place (full_ran r)

  pub full_looks : ReadDone (no_output_env b form) [] p (no_output_machine s stack m) halt.StackFull q u → u.looks + allowed_in (remaining_trace b form false q u.state u.stack).events ≤ m + allowed_in (remaining_trace b form false p s stack).events
  full_looks r = ran_looks (full_ran r)

-- Printing ends at the place where a parse without output ends.

printed_place : (b : List ℕ) (form : Form) (s : State) → (remaining_trace b form true continuation.End s []).place ≡ s.place
unfolding trace_at trace_of_stack
printed_place b form s = refl

first_printed : (b : List ℕ) (form : Form) → (remaining_trace b form true continuation.Path (first_state 0) []).place ≡ (read_at b form.fold_arguments true a_path 0 0 0 true).place
unfolding trace_at read_at
first_printed b form = ap (λ (h : Trace). h.place) (remaining_trace-empty_stack b form true continuation.Path (first_state 0))

read_end : (b : List ℕ) (folds : Bool) (j : ℕ) → (read_at b folds true a_path 0 0 0 true).place ≡ Some j → Some j ≡ unit_end b a_path 0 0
unfolding unit_end
read_end b folds j e =
    sym ((reading_is_spelling b false a_path true 0 j 0 0 (omega arith) (omega arith)).1 (spelled_freely ((printing_is_spelling b folds a_path true 0 j 0 0 (omega arith) (omega arith)).0 e)))

pub printed_end : {S : Type 0} (sink : Sinks S) (b : List ℕ) (form : Form) {v w : SizeLimitedFmtAdapter S} {m n place : ℕ} →
    EndedAt (printing sink b form) continuation.Path (machine (first_state 0) [] v m) place w n → Some place ≡ unit_end b a_path 0 0
printed_end sink b form {place = place} z =
    read_end b form.fold_arguments place (sym (first_printed b form) ∙ (sym (ran_place z.ran) ∙ (printed_place b form z.state ∙ z.at)))
