-- Parts that a printing parse reads and does not print. They are read above the current frames, and printing continues
-- after them.
use Rattle.std.specs.Prelude.{◌*◌, codes, take, IfSome, IfNone}
use Rattle.std.proofs.Common.{◌≡◌, ℕ, ◌+◌, ◌≤◌, ◌<◌, Bool, true, false, Option, Some, None, Ok, List, [], ◌∷◌, length, refl, arith, sym, ap, ◌∙◌, subst}
use Rattle.std.proofs.lemmas.Bool.{false≢true}
use Rattle.std.proofs.lemmas.List.{append-nil}
use Rattle.std.proofs.Math.Seq.{take-append_seam}
use Rattle.demangle_v0_grammar.specs.Traces.{Trace, of, and_then, with_looks, with_texts, context_at}
use Rattle.demangle_v0_parser.specs.Skips.{is_skipped, skipped_continuation, after_skip}
use Rattle.demangle_v0_grammar.specs.Items.{Items, a_path, a_type, done, child, leave_open}
use Rattle.demangle_v0_grammar.specs.Table.{print_str}
use Rattle.demangle_v0_grammar.specs.Reading.{Form, Place, unit_outcome, parse}
use Rattle.demangle_v0_grammar.specs.LookTotals.{allowed_in}
use Rattle.demangle_v0_parser.specs.Measure.{most_frames, weight_left, weights, measure}
use Rattle.demangle_v0_parser.specs.Steps.{Machine}
use Rattle.demangle_v0_parser.specs.Traces.{allows_looks, with_actions, trace_at, trace_of_state, trace_of_stack, remaining_trace, with_closed_bracket}
use Rattle.demangle_v0_parser.specs.Loops.{ResumesAt, Valid, frame_height, Reads, ReadDone, no_output_env, no_output_machine, Skipped, StopsInPart, ReadsPart, ValidUnfinished, part_state, part_checkpoint, part_trace, state_at, first_looks}
use Rattle.demangle_v0_parser.specs.Parsers.{FinishesSkip, IsValid, UnfinishedIsValid, SkipsFull, SkipsOver, checked_at, checkpoint_of}
use Rattle.demangle_v0_parser.specs.declared.parse.Parser.{Parser}
use Rattle.demangle_v0_tokens.specs.declared.output.NoOutput.{NoOutput}
use Rattle.demangle_v0_parser.specs.declared.Continuation.{Continuation}
use Rattle.demangle_v0_parser.specs.declared.Continuation.TheVariants as continuation
use Rattle.demangle_v0_parser.specs.declared.frames.Frame.{Frame}
use Rattle.demangle_v0_parser.specs.declared.State.{State}
use Rattle.demangle_v0_parser.specs.declared.stops.ReadOutcome.TheVariants as halt
use Rattle.demangle_v0_parser.specs.declared.stops.Checkpoint.{Checkpoint}
use Rattle.demangle_v0_parser.specs.declared.stops.Unfinished.{Unfinished}
use Rattle.demangle_v0_parser.specs.declared.stops.Unfinished.TheVariants as left
use Rattle.demangle_v0_grammar.proofs.Folded.{folded_reads, silently_closed, silently_open}
use Rattle.demangle_v0_grammar.proofs.TraceLemmas.{allowing_then}
use Rattle.demangle_v0_parser.proofs.Heights.{has_room_on}
use Rattle.demangle_v0_parser.proofs.LoopLemmas.{allowed_bits, reads_none, resumes_trace, resume_light, ran_then, ran_place, ran_looks, broke_fails}
use Rattle.demangle_v0.proofs.WholePaths.{remaining_trace-empty_stack, over_place}
use Rattle.demangle_v0_grammar.proofs.SkippedPaths.{allowances, skip_reads, skip_failed}
use Rattle.demangle_v0_parser.proofs.StepRules.{way_light}

-- The start of a part that is not printed, and the continuation after it.

-- no tag was looked at so far
pub skip_unread : (form : Form) (p : Continuation) (s : State) → is_skipped form p ≡ true → first_looks p s ≤ 0
skip_unread form continuation.InherentImplPath s e = omega arith
skip_unread form continuation.TraitImplPath s e = omega arith
skip_unread form continuation.FirstArgument s e = omega arith
skip_unread form continuation.FirstTraitArgument s e = omega arith
skip_unread form p s e = absurd (false≢true e)

pub resumes_less : (b : List ℕ) (form : Form) (out : Bool) {base : ℕ} {p q : Continuation} {s t : State} {stack now : List Frame} → ResumesAt base p s stack q t now → measure b form out q t now ≤ measure b form out p s stack
resumes_less b form out {q = q} x = omega (arith, resume_light x, way_light q, ap (λ (h : Trace). allowed_in h.events) (resumes_trace b form out x))

-- The trace of the part.

abbrev pub read_own : List ℕ → Form → Continuation → ℕ → ℕ → ℕ → Place → Bool → Trace
read_own b form p c left n i o = trace_at b form false (skipped_continuation p) false c left n i o

pub own_is : (b : List ℕ) (form : Form) (p : Continuation) (s : State) → part_trace b form p s ≡ read_own b form p s.letter s.depth_left s.lifetimes s.place s.is_bracket_open
own_is b form p s = remaining_trace-empty_stack b form false (skipped_continuation p) (part_state s)

abbrev pub read_path : List ℕ → Form → ℕ → ℕ → Place → Trace
read_path b form left n i = with_closed_bracket (of form false (unit_outcome (context_at b form false left n) a_path false i))

skip_items : (b : List ℕ) (form : Form) (p : Items) (left n : ℕ) (i : Place)
    → with_closed_bracket (of form true (parse (Rattle.demangle_v0_grammar.specs.Items.skip p) (context_at b form true left n) i))
    ≡ with_looks (allowances (read_path b form left n i).events) (with_closed_bracket (of form true (parse p (context_at b form true left n) (read_path b form left n i).place)))
skip_items b form p left n None = ap with_closed_bracket (skip_failed form true p (context_at b form true left n))
skip_items b form p left n (Some i) = ap with_closed_bracket (skip_reads form true b left n false n p i)

skip_at : (p : Continuation) (b : List ℕ) (form : Form) (v : Bool) (c left n : ℕ) (i : Place) (o : Bool) → is_skipped form p ≡ true
    → trace_at b form true p v c left n i o ≡ with_looks (allowances (read_own b form p c left n i o).events) (trace_at b form true (after_skip p) v c left n (read_own b form p c left n i o).place o)
unfolding trace_at parse
skip_at continuation.InherentImplPath b form v c left n i o k = skip_items b form (print_str "<" (child a_type false (print_str ">" done))) left n i
skip_at continuation.TraitImplPath b form v c left n i o k = skip_items b form (print_str "<" (child a_type false (print_str " as " (child a_path false (print_str ">" done))))) left n i
skip_at continuation.FirstArgument b form v c left n i o k =
    ap with_closed_bracket (folded_reads form b left n (print_str ">" done) i k)
    ∙ ap (λ (h : Trace). with_looks (allowances h.events) (with_closed_bracket (with_texts true (codes "_" ∷ []) (of form true (parse (print_str ">" done) (context_at b form true left n) h.place))))) (sym (silently_closed form b left n i))
skip_at continuation.FirstTraitArgument b form v c left n i o k =
    folded_reads form b left n (leave_open done) i k
    ∙ ap (λ (h : Trace). with_looks (allowances h.events) (with_texts true (codes "_" ∷ []) (of form true (parse (leave_open done) (context_at b form true left n) h.place)))) (sym (silently_open form b left n i))
skip_at p b form v c left n i o k = absurd (false≢true k)

skip_owed : (p : Continuation) (b : List ℕ) (form : Form) (s : State) (stack : List Frame) → is_skipped form p ≡ true
    → remaining_trace b form true p s stack ≡ with_actions true (allows_looks (allowances (part_trace b form p s).events) ∷ []) (remaining_trace b form true (after_skip p) (state_at s (part_trace b form p s).place) stack)
skip_owed p b form s stack k =
    let own_looks = read_own b form p s.letter s.depth_left s.lifetimes s.place s.is_bracket_open in
    subst (λ (h : Trace). remaining_trace b form true p s stack ≡ with_looks (allowances h.events) (remaining_trace b form true (after_skip p) (state_at s h.place) stack)) (sym (own_is b form p s))
    (ap (λ (h : Trace). and_then h (trace_of_stack b form true stack)) (skip_at p b form s.in_value s.letter s.depth_left s.lifetimes s.place s.is_bracket_open k)
    ∙ allowing_then (allowances own_looks.events) (trace_of_state b form true (after_skip p) (state_at s own_looks.place)) (trace_of_stack b form true stack))

-- The invariant in such a part.

own_valid : (form : Form) (p : Continuation) (s : State) (stack : List Frame) → is_skipped form p ≡ true → Valid p s stack → Valid (skipped_continuation p) (part_state s) stack
own_valid form continuation.TraitImplPath s stack k v = record { has_room = has_room_on frame_height most_frames (8 * s.depth_left + 2) (8 * s.depth_left + 1) stack v.has_room (omega arith); fits = v.fits; all_fit = v.all_fit; no_pending_text = v.no_pending_text }
own_valid form continuation.InherentImplPath s stack k v = record { has_room = has_room_on frame_height most_frames (8 * s.depth_left + 2) (8 * s.depth_left + 1) stack v.has_room (omega arith); fits = v.fits; all_fit = v.all_fit; no_pending_text = v.no_pending_text }
own_valid form continuation.FirstArgument s stack k v = record { has_room = v.has_room; fits = v.fits; all_fit = v.all_fit; no_pending_text = v.no_pending_text }
own_valid form continuation.FirstTraitArgument s stack k v = record { has_room = v.has_room; fits = v.fits; all_fit = v.all_fit; no_pending_text = v.no_pending_text }
own_valid form p s stack k v = absurd (false≢true k)

after_valid : (form : Form) (p : Continuation) (s : State) (i : Place) (stack : List Frame) → is_skipped form p ≡ true → Valid p s stack → Valid (after_skip p) (state_at s i) stack
after_valid form continuation.TraitImplPath s i stack k v = record { has_room = v.has_room; fits = v.fits; all_fit = v.all_fit; no_pending_text = v.no_pending_text }
after_valid form continuation.InherentImplPath s i stack k v = record { has_room = v.has_room; fits = v.fits; all_fit = v.all_fit; no_pending_text = v.no_pending_text }
after_valid form continuation.FirstArgument s i stack k v = record { has_room = v.has_room; fits = v.fits; all_fit = v.all_fit; no_pending_text = v.no_pending_text }
after_valid form continuation.FirstTraitArgument s i stack k v = record { has_room = v.has_room; fits = v.fits; all_fit = v.all_fit; no_pending_text = v.no_pending_text }
after_valid form p s i stack k v = absurd (false≢true k)

weight_less : (form : Form) (p : Continuation) → is_skipped form p ≡ true → weight_left (after_skip p) < weight_left p
weight_less form continuation.TraitImplPath k = omega arith
weight_less form continuation.InherentImplPath k = omega arith
weight_less form continuation.FirstArgument k = omega arith
weight_less form continuation.FirstTraitArgument k = omega arith
weight_less form p k = absurd (false≢true k)

-- Printing continues after the part.

module _ {b : List ℕ} {form : Form} {p q : Continuation} {s t : State} {below now : List Frame} {began looks : ℕ} (k : is_skipped form p ≡ true) where
  pub skipped_valid : Skipped b form p s below began q t now looks → Valid p s below → Valid q t now
  skipped_valid z v = rw (z.at, z.state, z.is_stack) (after_valid form p s z.place below k v)

  pub skipped_trace : Skipped b form p s below began q t now looks → remaining_trace b form true p s below ≡ with_actions true (allows_looks (allowances (part_trace b form p s).events) ∷ []) (remaining_trace b form true q t now)
  skipped_trace z = rw (z.at, z.state, z.is_stack, sym z.ends) (skip_owed p b form s below k)

  pub skipped_less : {base : ℕ} {o : Continuation} {r : State} {stack : List Frame} → ResumesAt base o r stack p s below → Skipped b form p s below began q t now looks → measure b form true q t now < measure b form true o r stack
  skipped_less x z =
      let ks = allowances (part_trace b form p s).events in
      omega (
        arith,
        resumes_less b form true x,
        weight_less form p k,
        ap (λ (y : Continuation). weight_left y) z.at,
        ap weights z.is_stack,
        ap (λ (h : Trace). allowed_in h.events) (skipped_trace z),
        allowed_bits true (allows_looks ks ∷ []) (remaining_trace b form true q t now),
      )

-- The part is read in one stack or in two.

-- at its start
own_stands : (form : Form) {p : Continuation} {s : State} {stack : List Frame} {r : Checkpoint} → is_skipped form p ≡ true → r ≡ part_checkpoint (record { continuation = p; state = s }) → Valid p s stack → Valid r.continuation r.state stack
own_stands form {p} {s} {stack} e k v = rw k (own_valid form p s stack e v)

pub own_reads : (b : List ℕ) (form : Form) (n : ℕ) (r : Checkpoint) {stack : List Frame} {inner : Checkpoint} → inner ≡ part_checkpoint r → ReadsPart b form stack r n inner stack n
own_reads b form n r {stack} k = rw k (reads_none {t = no_output_machine (part_state r.state) stack n} (sym (append-nil stack)) tt)

-- if the stack is full
pub skips_valid : {b : List ℕ} {form : Form} {r to : Checkpoint} {below now : List Frame} {began n looks : ℕ} {x : Unfinished} → is_skipped form r.continuation ≡ true → Valid r.continuation r.state below → StopsInPart b form r below began x n to now looks
    → ValidUnfinished b form n (Ok (Some x)) to now looks
skips_valid {below = below} {began = began} e v k = rw k.is_left (began, record { below = below; height = sym k.height; skips = e; valid = v; reads = k.reads }, k.valid, k.full)

module _ {b : List ℕ} {form : Form} {below : List Frame} {began m : ℕ} {p q : Continuation} {t : State} {stack : List Frame} {u : Machine NoOutput} (o : Checkpoint) (r : Reads (no_output_env b form) below (skipped_continuation o.continuation) (no_output_machine (part_state o.state) [] began) p (no_output_machine t stack m)) where
  -- the part ended
  pub own_over : {to : Continuation} {new : State} → ReadDone (no_output_env b form) below p (no_output_machine t r.frames m) halt.Complete q u → to ≡ after_skip o.continuation → new ≡ state_at o.state u.state.place → Skipped b form o.continuation o.state below began to new u.stack u.looks
  own_over d e k =
      let x = ran_then r.ran d.reads.1 in
      record { at = e; place = u.state.place; ends = sym (ran_place x) ∙ over_place b form u.state; state = k; is_stack = d.reads.0; paid_looks = omega (arith, ran_looks x) }

  -- the part has an error
  pub own_failed : {base : ℕ} {to : Continuation} {new : State} {now : List Frame} → ReadDone (no_output_env b form) below p (no_output_machine t r.frames m) halt.Failed q u → length below ≡ base → now ≡ take base u.stack → to ≡ after_skip o.continuation → new ≡ state_at o.state None
      → Skipped b form o.continuation o.state below began to new now u.looks
  own_failed d h w e k =
      let z = broke_fails refl d.reads.0 d.reads.1 in
      let kept = d.reads.2 in
      record {
        at = e;
        place = None;
        ends = sym (ran_place r.ran) ∙ z.0;
        state = k;
        is_stack = w ∙ (ap (λ (z : ℕ). take z u.stack) (sym h) ∙ (ap (take (length below)) kept.1 ∙ take-append_seam below kept.0));
        paid_looks = omega (arith, ran_looks r.ran, z.1);
      }

  -- the stack is full
  pub own_full : ReadDone (no_output_env b form) below p (no_output_machine t r.frames m) halt.StackFull q u → Reads (no_output_env b form) below (skipped_continuation o.continuation) (no_output_machine (part_state o.state) [] began) q u
  own_full d = record { frames = d.reads.frames; is_stack = d.reads.is_stack; inner = d.reads.inner; ran = ran_then r.ran d.reads.ran }

-- A part that is read from its start.

module _ (m : Parser) (base : ℕ) where
  abbrev inside : Parser
  inside = checked_at m (skipped_continuation m.continuation) (part_state m.state)

  abbrev begins : ReadsPart m.source.symbol.now m.source.form m.stack.frames (checkpoint_of m) m.looks (part_checkpoint (checkpoint_of m)) m.stack.frames m.looks
  begins = own_reads m.source.symbol.now m.source.form m.looks (checkpoint_of m) refl

  pub skip_begins : is_skipped m.source.form m.continuation ≡ true → base ≡ length m.stack.frames → IsValid m → UnfinishedIsValid 0 (Ok (Some (left.Skipping base (checkpoint_of m)))) inside
  skip_begins e h v = (m.looks, record { below = m.stack.frames; height = sym h; skips = e; valid = v; reads = begins }, own_stands m.source.form e refl v, omega arith)

  pub skips_over : (k : Parser) (result : Option Unfinished) → base ≡ length m.stack.frames → FinishesSkip inside (left.Skipping base (checkpoint_of m)) result k → IfNone result (SkipsOver m k)
  skips_over k None h f = f m.stack.frames m.looks begins (sym h)
  skips_over k (Some x) h f = tt

  pub skips_full : (k : Parser) (result : Option Unfinished) → base ≡ length m.stack.frames → FinishesSkip inside (left.Skipping base (checkpoint_of m)) result k → IfSome result (λ x. SkipsFull m x k)
  skips_full k None h f = tt
  skips_full k (Some left.Printing) h f = absurd f
  skips_full k (Some (left.Skipping height r)) h f = record {
    base = base;
    is_left = rw (f.0, f.1) refl;
    height = h;
    reads = f.4 m.stack.frames m.looks begins (sym h);
    valid = f.2;
    full = f.3;
  }
