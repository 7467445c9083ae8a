-- Steps over a stack of frames.
use Rattle.std.proofs.Common.{inl, inr, ◌⊎◌, ◌≡◌, ℕ, ◌+◌, ◌≤◌, Bool, true, false, Option, Some, None, List, [], ◌∷◌, ◌++◌, length, Result, Ok, Err, IsErr, refl, arith, sym, ap, ◌∙◌, subst, append_assoc, length-append}
use Rattle.std.proofs.lemmas.Bool.{false≢true}
use Rattle.std.proofs.lemmas.List.{append-nil}
use Rattle.demangle_v0_grammar.specs.Items.{Text}
use Rattle.demangle_v0_grammar.specs.LookTotals.{total}
use Rattle.demangle_v0_grammar.specs.LookTotals.{allowed_in}
use Rattle.demangle_v0_grammar.specs.Traces.{Event, Trace, empty_trace, and_then, with_looks, with_reference, with_end, with_texts, looks_then, reference_if, end_if, texts_then, context_at}
use Rattle.demangle_v0_tokens.specs.Texts.{text}
use Rattle.demangle_v0_tokens.specs.Tokens.{texts_of}
use Rattle.demangle_v0_tokens.specs.declared.token.Token.TheVariants.{Fixed}
use Rattle.demangle_v0_parser.specs.Frames as heights
use Rattle.demangle_v0_grammar.specs.Reading.{Form, Place}
use Rattle.demangle_v0_grammar.proofs.Failed.{failed}
use Rattle.demangle_v0_parser.specs.Measure.{most_frames, weight_left, weight_at, weight_of, weights, height_at, height_of, count_of, FitsFrame, Fits, is_inner, IsInner, AllInner}
use Rattle.demangle_v0_parser.specs.Traces.{Action, allows_looks, goes_back, comes_back, puts, with_actions, action_looks, pending_texts, pushed_on, then_frame, trace_of_frame, trace_at, trace_of_state, trace_of_stack, remaining_trace}
use Rattle.demangle_v0_parser.specs.Steps.{Env, StepPart, Machine, Emission, gives, refers_on, ends_at, after_emission, Emits, Continued, Stopped, KeepsFrames, PerformsAt}
use Rattle.demangle_v0_parser.specs.Continuations.{items_at, bindings_left}
use Rattle.demangle_v0_parser.specs.Loops.{FlushesText, without_pending_text, StepDone, ResumesAt, stays, pops, frame_height, AllFit, Valid, Emitted, trace_left, RanSteps, StoppedAfter, Reads, first_looks}
use Rattle.demangle_sink.specs.declared.SinkRefused.{SinkRefused}
use Rattle.demangle_v0_tokens.specs.declared.fixed_texts.FixedText.{FixedText}
use Rattle.demangle_v0_parser.specs.declared.Continuation.{Continuation}
use Rattle.demangle_v0_parser.specs.declared.Continuation.TheVariants as continuation
use Rattle.demangle_v0_parser.specs.declared.frames.Frame.{Frame}
use Rattle.demangle_v0_parser.specs.declared.State.{State}
use Rattle.demangle_v0_parser.specs.declared.StepError.TheVariants.{Abort, Sink}
use Rattle.demangle_v0_grammar.proofs.TraceLemmas.{and_then_assoc, and_then_ended, handing_then, allowing_then}
use Rattle.demangle_v0_parser.proofs.StackSplit.{above_pop}
use Rattle.demangle_v0_parser.proofs.StepRules.{refused, bits_append, looks_append}
use Rattle.demangle_v0_parser.proofs.StepCases.{advanced_by}

pub unit_rest_failed : (b : List ℕ) (form : Form) (out : Bool) (p : Continuation) (v : Bool) (c left n : ℕ) (o : Bool) → is_inner p ≡ true → (trace_at b form out p v c left n None o).place ≡ None
unfolding trace_at
unit_rest_failed b form out continuation.End v c left n o h = refl
unit_rest_failed b form out continuation.Path v c left n o h = refl
unit_rest_failed b form out continuation.«Type» v c left n o h = refl
unit_rest_failed b form out continuation.TraitPath v c left n o h = refl
unit_rest_failed b form out continuation.Bindings v c left n o h = failed (bindings_left o) (context_at b form out left n)
unit_rest_failed b form out continuation.Pattern v c left n o h = refl
unit_rest_failed b form out continuation.Constant v c left n o h = refl
unit_rest_failed b form out continuation.AfterBackref v c left n o h = absurd (false≢true h)
unit_rest_failed b form out continuation.TargetPath v c left n o h = refl
unit_rest_failed b form out continuation.TargetType v c left n o h = refl
unit_rest_failed b form out continuation.TargetConstant v c left n o h = refl
unit_rest_failed b form out p v c left n o h = failed (items_at p v c) (context_at b form out left n)

-- A step whose pending text is printed.

err_ok : (e : SinkRefused) → refused e ≡ Ok tt → ⊥
err_ok e z = cc

some_none : (m : FixedText) → Some m ≡ None → ⊥
some_none m z = cc

allowed_said : (out : Bool) (ts : List Text) (xs : List Event) → allowed_in (texts_then out ts xs) ≡ allowed_in xs
allowed_said out [] xs = refl
allowed_said true (t ∷ ts) xs = allowed_said true ts xs
allowed_said false (t ∷ ts) xs = allowed_said false ts xs

allowed_reference : (out : Bool) (t : ℕ) (xs : List Event) → allowed_in (reference_if out t xs) ≡ allowed_in xs
allowed_reference true t xs = refl
allowed_reference false t xs = refl

allowed_end : (out : Bool) (x : Place) (xs : List Event) → allowed_in (end_if out x xs) ≡ allowed_in xs
allowed_end true x xs = refl
allowed_end false x xs = refl

pub reference_then : (out : Bool) (t : ℕ) (h : Trace) (k : Place → Bool → Trace) → and_then (with_reference out t h) k ≡ with_reference out t (and_then h k)
reference_then true t h k = refl
reference_then false t h k = refl

pub end_then : (out : Bool) (x : Place) (h : Trace) (k : Place → Bool → Trace) → and_then (with_end out x h) k ≡ with_end out x (and_then h k)
end_then true x h k = refl
end_then false x h k = refl

module _ {V : Type 0} (e : Env V) where
  -- the actions of a step, in order
  abbrev pub bits_of : List ℕ → Option Emission → List ℕ → List Action
  bits_of prefix None back = allows_looks prefix ∷ allows_looks back ∷ []
  bits_of prefix (Some (gives s)) back = allows_looks prefix ∷ puts (texts_of e.symbol e.form s) ∷ allows_looks back ∷ []
  bits_of prefix (Some (refers_on t)) back = allows_looks prefix ∷ goes_back t ∷ allows_looks back ∷ []
  bits_of prefix (Some (ends_at x)) back = allows_looks prefix ∷ comes_back x ∷ allows_looks back ∷ []

  abbrev taken : List ℕ → Option Emission → Option FixedText → List ℕ → Trace → Trace
  taken prefix emitted m back h = with_looks prefix (after_emission e emitted (with_texts e.output.is_printed (pending_texts m) (with_looks back h)))

  bits_trace : (prefix : List ℕ) (emitted : Option Emission) (back : List ℕ) (h : Trace) → with_actions e.output.is_printed (bits_of prefix emitted back) h ≡ taken prefix emitted None back h
  bits_trace prefix None back h = refl
  bits_trace prefix (Some (gives s)) back h = refl
  bits_trace prefix (Some (refers_on t)) back h = refl
  bits_trace prefix (Some (ends_at x)) back h = refl

  pub bits_total : (prefix : List ℕ) (emitted : Option Emission) (back : List ℕ) → action_looks (bits_of prefix emitted back) ≡ total prefix + total back
  bits_total prefix None back = omega arith
  bits_total prefix (Some (gives s)) back = omega arith
  bits_total prefix (Some (refers_on t)) back = omega arith
  bits_total prefix (Some (ends_at x)) back = omega arith

  bits_emitted : (v w : V) (prefix : List ℕ) (emitted : Option Emission) (back : List ℕ) → Emits e emitted v w → Emitted e (bits_of prefix emitted back) v w
  bits_emitted v w prefix None back t = t
  bits_emitted v w prefix (Some (gives s)) back t = (w, t, refl)
  bits_emitted v w prefix (Some (refers_on a)) back t = (w, t, refl)
  bits_emitted v w prefix (Some (ends_at x)) back t = (w, t, refl)

  emission_place : (x : Emission) (h : Trace) → (after_emission e (Some x) h).place ≡ h.place
  emission_place (gives s) h = refl
  emission_place (refers_on t) h = refl
  emission_place (ends_at x) h = refl

  emission_allowed : (x : Emission) (h : Trace) → allowed_in (after_emission e (Some x) h).events ≡ allowed_in h.events
  emission_allowed (gives s) h = allowed_said e.output.is_printed (texts_of e.symbol e.form s) h.events
  emission_allowed (refers_on t) h = allowed_reference e.output.is_printed t h.events
  emission_allowed (ends_at x) h = allowed_end e.output.is_printed x h.events

  emission_then : (x : Emission) (h : Trace) (k : Place → Bool → Trace) → and_then (after_emission e (Some x) h) k ≡ after_emission e (Some x) (and_then h k)
  emission_then (gives s) h k = handing_then e.output.is_printed (texts_of e.symbol e.form s) h k
  emission_then (refers_on t) h k = reference_then e.output.is_printed t h k
  emission_then (ends_at x) h k = end_then e.output.is_printed x h k

  emitted_append : (u v w : V) (xs ys : List Action) → Emitted e xs u v → Emitted e ys v w → Emitted e (xs ++ ys) u w
  emitted_append u v w [] ys h k = subst (λ (z : V). Emitted e ys z w) (sym h) k
  emitted_append u v w (allows_looks n ∷ xs) ys h k = emitted_append u v w xs ys h k
  emitted_append u v w (puts ts ∷ xs) ys h k = (h.0, h.1, emitted_append h.0 v w xs ys h.2 k)
  emitted_append u v w (goes_back t ∷ xs) ys h k = (h.0, h.1, emitted_append h.0 v w xs ys h.2 k)
  emitted_append u v w (comes_back x ∷ xs) ys h k = (h.0, h.1, emitted_append h.0 v w xs ys h.2 k)

-- the trace after a step
abbrev gone : {V : Type 0} → Env V → Option Frame → Continuation → State → Trace
gone e f q s = then_frame e.symbol e.form e.output.is_printed f (trace_of_state e.symbol e.form e.output.is_printed q s)

kept_pushed : (stack now : List Frame) (p : Option Frame) → now ≡ pushed_on stack p → KeepsFrames stack now
kept_pushed stack now None k = ([], k ∙ sym (append-nil stack))
kept_pushed stack now (Some f) k = (f ∷ [], k)

module _ {V : Type 0} {e : Env V} where
  put_way : {t u : Machine V} {q : Continuation} {part : StepPart} {x : V} {n : ℕ} (k : Option FixedText) → k ≡ u.state.pending_text → (d : Continued e part t q u) → (d.emitted ≡ None) ⊎ (u.state.pending_text ≡ None) → FlushesText e.output k u.output (Ok tt) x → n ≤ u.looks
      → Continued e part t q (record u { state = without_pending_text u.state; output = x; looks = n })
  put_way {t} {u} {q} {part} None c d o p l = record {
    prefix = d.prefix;
    emitted = d.emitted;
    back = d.back;
    pushed = d.pushed;
    emits = subst (λ (z : V). Emits e d.emitted t.output z) (sym p.1) d.emits;
    one = inr refl;
    reads = subst (λ (z : Option FixedText). part.trace ≡ taken e d.prefix d.emitted z d.back (gone e d.pushed q u.state)) (sym c) d.reads;
    is_stack = d.is_stack;
    primitive_count = d.primitive_count;
    paid_looks = omega (arith, l, d.paid_looks);
    looks_at_refusal = omega (arith, l, d.looks_at_refusal);
    lighter = d.lighter;
    outer_height = d.outer_height;
    inner_height = d.inner_height;
    outer_fits = d.outer_fits;
    inner_fits = d.inner_fits;
    no_output = d.no_output;
  }
  put_way (Some m) c d (inr z) p l = absurd (some_none m (c ∙ z))
  put_way {t} {u} {q} {part} {x} (Some m) c d (inl z) p l =
      let same : t.output ≡ u.output = subst (λ (y : Option Emission). Emits e y t.output u.output) z d.emits in
      record {
        prefix = d.prefix;
        emitted = Some (gives (Fixed m));
        back = d.back;
        pushed = d.pushed;
        emits = subst (λ (y : V). e.output.prints y (text m ∷ []) (Ok tt) x) (sym same) p.0;
        one = inr refl;
        reads = d.reads ∙ (ap (λ (y : Option Emission). taken e d.prefix y u.state.pending_text d.back (gone e d.pushed q u.state)) z ∙ ap (λ (y : Option FixedText). taken e d.prefix None y d.back (gone e d.pushed q u.state)) (sym c));
        is_stack = d.is_stack;
        primitive_count = d.primitive_count;
        paid_looks = omega (arith, l, d.paid_looks);
        looks_at_refusal = omega (arith, l, d.looks_at_refusal);
        lighter = d.lighter;
        outer_height = d.outer_height;
        inner_height = d.inner_height;
        outer_fits = d.outer_fits;
        inner_fits = d.inner_fits;
        no_output = d.no_output;
      }

  -- the step continued
  pub step_continues : {t u : Machine V} {p q : Continuation} {x : V} {n : ℕ} → PerformsAt e p t (Ok q) u → FlushesText e.output u.state.pending_text u.output (Ok tt) x → n ≤ u.looks → StepDone e p t (Ok q) (record u { state = without_pending_text u.state; output = x; looks = n })
  step_continues {u = u} d k l = record { steps = (put_way u.state.pending_text refl d.comes d.comes.one k l, refl) }

  -- the output rejected the pending text
  text_refused : {t u : Machine V} {q : Continuation} {part : StepPart} {s : State} {x : V} {n : ℕ} {f : SinkRefused} (k : Option FixedText) → k ≡ u.state.pending_text → (d : Continued e part t q u) → (d.emitted ≡ None) ⊎ (u.state.pending_text ≡ None) → FlushesText e.output k u.output (Err f) x → n ≤ u.looks
      → Stopped e part t (record u { state = s; output = x; looks = n })
  text_refused {f = f} None c d o p l = absurd (err_ok f p.0)
  text_refused (Some m) c d (inr o) p l = absurd (some_none m (c ∙ o))
  text_refused {t} {u} {q} {x = x} {f = f} (Some m) c d (inl o) p l =
      let same : t.output ≡ u.output = subst (λ (y : Option Emission). Emits e y t.output u.output) o d.emits in
      record {
        prefix = d.prefix;
        emitted = gives (Fixed m);
        rest = with_looks d.back (gone e d.pushed q u.state);
        rejection = f;
        prints = subst (λ (y : V). e.output.prints y (text m ∷ []) (Err f) x) (sym same) p.0;
        reads = d.reads ∙ (ap (λ (y : Option Emission). taken e d.prefix y u.state.pending_text d.back (gone e d.pushed q u.state)) o ∙ ap (λ (y : Option FixedText). taken e d.prefix None y d.back (gone e d.pushed q u.state)) (sym c));
        primitive_count = omega (arith, d.primitive_count);
        paid_looks = omega (arith, l, d.looks_at_refusal);
        exact = λ z. absurd (false≢true (p.1 z));
        fails = λ z. absurd (false≢true (p.1 z));
      }

  pub step_refused : {t u : Machine V} {p q : Continuation} {s : State} {x : V} {n : ℕ} {f : SinkRefused} → PerformsAt e p t (Ok q) u → FlushesText e.output u.state.pending_text u.output (Err f) x → n ≤ u.looks → StepDone e p t (Err f) (record u { state = s; output = x; looks = n })
  step_refused {t} {u} d k l = record { steps = (text_refused u.state.pending_text refl d.comes d.comes.one k l, kept_pushed t.stack u.stack d.comes.pushed d.comes.is_stack) }

  -- the result is the same for every error
  pub stepped_err : {t u : Machine V} {p : Continuation} {f : SinkRefused} {r : Result Continuation SinkRefused} → IsErr r → StepDone e p t (Err f) u → StepDone e p t r u
  stepped_err {r = Ok q} h d = absurd (false≢true h)
  stepped_err {r = Err f} h d = record { steps = d.steps }

  -- the output accepted the text of an error
  pub fault_continues : {t u : Machine V} {p : Continuation} {f : FixedText} {x : V} {n : ℕ} → PerformsAt e p t (Err (Abort f)) u → e.output.prints u.output (text f ∷ []) (Ok tt) x → n ≤ u.looks
      → StepDone e p t (Ok continuation.End) (record u { state = record u.state { place = None; is_bracket_open = false }; output = x; looks = n })
  unfolding trace_at then_frame
  fault_continues {t} {u} {f = f} {x = x} z put l =
      let d = z.comes in
      record { steps = (rw d.is_stack (advanced_by continuation.End d.prefix d.primitive_count (Fixed f) d.reads (subst (λ (y : V). e.output.prints y (text f ∷ []) (Ok tt) x) (sym d.emits) put) d.no_pending_text (omega (arith, l, d.paid_looks)) (omega (arith, d.lighter)) (omega arith) tt), d.no_pending_text) }

  -- the output rejected it
  pub fault_refused : {t u : Machine V} {p : Continuation} {m : FixedText} {s : State} {x : V} {n : ℕ} {f : SinkRefused} → PerformsAt e p t (Err (Abort m)) u → e.output.prints u.output (text m ∷ []) (Err f) x → n ≤ u.looks → StepDone e p t (Err f) (record u { state = s; output = x; looks = n })
  fault_refused {t} {u} {m = m} {x = x} {f = f} z put l = let d = z.comes in record {
    steps = (
      record {
        prefix = d.prefix;
        emitted = gives (Fixed m);
        rest = empty_trace None false;
        rejection = f;
        prints = subst (λ (y : V). e.output.prints y (text m ∷ []) (Err f) x) (sym d.emits) put;
        reads = d.reads;
        primitive_count = d.primitive_count;
        paid_looks = omega (arith, l, d.paid_looks);
        exact = λ _. omega (arith, l, d.paid_looks);
        fails = λ _. refl;
      },
      kept_pushed t.stack u.stack None d.is_stack,
    );
  }

  -- the output rejected the token of the continuation
  pub stop_refused : {t u : Machine V} {p : Continuation} {f : SinkRefused} → PerformsAt e p t (Err Sink) u → StepDone e p t (Err f) u
  stop_refused d = record { steps = d.comes }

-- The remaining trace of a stack.

pub stack_rest_push : (b : List ℕ) (form : Form) (out : Bool) (stack : List Frame) (f : Frame) (i : Place) (o : Bool) → trace_of_stack b form out (stack ++ f ∷ []) i o ≡ and_then (trace_of_frame b form out f i o) (trace_of_stack b form out stack)
unfolding trace_of_stack
stack_rest_push b form out [] f i o = sym (and_then_ended (trace_of_frame b form out f i o))
stack_rest_push b form out (g ∷ stack) f i o = ap (λ (h : Trace). and_then h (trace_of_frame b form out g)) (stack_rest_push b form out stack f i o) ∙ and_then_assoc (trace_of_frame b form out f i o) (trace_of_stack b form out stack) (trace_of_frame b form out g)

followed_stack : (b : List ℕ) (form : Form) (out : Bool) (stack : List Frame) (p : Option Frame) (h : Trace) → and_then (then_frame b form out p h) (trace_of_stack b form out stack) ≡ and_then h (trace_of_stack b form out (pushed_on stack p))
unfolding then_frame
followed_stack b form out stack None h = refl
followed_stack b form out stack (Some f) h = and_then_assoc h (trace_of_frame b form out f) (trace_of_stack b form out stack) ∙ ap (λ (z : Trace). and_then h (λ _ _. z)) (sym (stack_rest_push b form out stack f h.place h.is_bracket_open))

pub bits_then : (out : Bool) (bits : List Action) (h : Trace) (k : Place → Bool → Trace) → and_then (with_actions out bits h) k ≡ with_actions out bits (and_then h k)
bits_then out [] h k = refl
bits_then out (allows_looks ks ∷ bits) h k = allowing_then ks (with_actions out bits h) k ∙ ap (with_looks ks) (bits_then out bits h k)
bits_then out (puts ts ∷ bits) h k = handing_then out ts (with_actions out bits h) k ∙ ap (with_texts out ts) (bits_then out bits h k)
bits_then out (goes_back t ∷ bits) h k = reference_then out t (with_actions out bits h) k ∙ ap (with_reference out t) (bits_then out bits h k)
bits_then out (comes_back x ∷ bits) h k = end_then out x (with_actions out bits h) k ∙ ap (with_end out x) (bits_then out bits h k)

allowed_more : (ks : List ℕ) (xs : List Event) → allowed_in (looks_then ks xs) ≡ total ks + allowed_in xs
allowed_more [] xs = omega arith
allowed_more (k ∷ ks) xs = omega (arith, allowed_more ks xs)

pub allowed_bits : (out : Bool) (bits : List Action) (h : Trace) → allowed_in (with_actions out bits h).events ≡ action_looks bits + allowed_in h.events
allowed_bits out [] h = omega arith
allowed_bits out (allows_looks ks ∷ bits) h = omega (arith, allowed_more ks (with_actions out bits h).events, allowed_bits out bits h)
allowed_bits out (puts ts ∷ bits) h = allowed_said out ts (with_actions out bits h).events ∙ allowed_bits out bits h
allowed_bits out (goes_back t ∷ bits) h = allowed_reference out t (with_actions out bits h).events ∙ allowed_bits out bits h
allowed_bits out (comes_back x ∷ bits) h = allowed_end out x (with_actions out bits h).events ∙ allowed_bits out bits h

pub place_bits : (out : Bool) (bits : List Action) (h : Trace) → (with_actions out bits h).place ≡ h.place
place_bits out [] h = refl
place_bits out (allows_looks ks ∷ bits) h = place_bits out bits h
place_bits out (puts ts ∷ bits) h = place_bits out bits h
place_bits out (goes_back t ∷ bits) h = place_bits out bits h
place_bits out (comes_back x ∷ bits) h = place_bits out bits h

-- no action is left

pub weights_push : (stack : List Frame) (f : Frame) → weights (stack ++ f ∷ []) ≡ weights stack + (weight_at f.continuation + 1)
weights_push [] f = omega arith
weights_push (g ∷ stack) f = omega (arith, weights_push stack f)

pub weights_pushed : (stack : List Frame) (p : Option Frame) → weights (pushed_on stack p) ≡ weights stack + weight_of p
weights_pushed stack None = omega arith
weights_pushed stack (Some f) = weights_push stack f

inner_push : (stack : List Frame) (f : Frame) → AllInner stack → is_inner f.continuation ≡ true → AllInner (stack ++ f ∷ [])
inner_push [] f h k = (k, tt)
inner_push (g ∷ stack) f h k = (h.0, inner_push stack f h.1 k)

pub inner_pushed : (stack : List Frame) (p : Option Frame) → AllInner stack → IsInner p → AllInner (pushed_on stack p)
inner_pushed stack None h k = h
inner_pushed stack (Some f) h k = inner_push stack f h k

pub inner_below : (stack : List Frame) (f : Frame) → AllInner (stack ++ f ∷ []) → AllInner stack
inner_below [] f h = tt
inner_below (g ∷ stack) f h = (h.0, inner_below stack f h.1)

stack_rest_failed : (b : List ℕ) (form : Form) (out : Bool) (stack : List Frame) (i : Place) (o : Bool) → AllInner stack → i ≡ None → (trace_of_stack b form out stack i o).place ≡ None
unfolding trace_of_stack
stack_rest_failed b form out [] i o h e = e
stack_rest_failed b form out (f ∷ stack) i o h e =
    let r = trace_of_stack b form out stack i o in
    subst (λ (j : Place). (trace_of_frame b form out f j r.is_bracket_open).place ≡ None) (sym (stack_rest_failed b form out stack i o h.1 e)) (unit_rest_failed b form out f.continuation f.in_value f.letter f.depth_left f.number r.is_bracket_open h.0)

-- The invariant at every step.

fit_push : (stack : List Frame) (f : Frame) → AllFit stack → Fits f.continuation f.depth_left f.number → AllFit (stack ++ f ∷ [])
fit_push [] f h k = (k, tt)
fit_push (g ∷ stack) f h k = (h.0, fit_push stack f h.1 k)

fit_below : (stack : List Frame) (f : Frame) → AllFit (stack ++ f ∷ []) → AllFit stack × Fits f.continuation f.depth_left f.number
fit_below [] f h = (tt, h.0)
fit_below (g ∷ stack) f h = let k = fit_below stack f h.1 in ((h.0, k.0), k.1)

pub valid_push : (p q : Continuation) (s t : State) (stack : List Frame) (f : Option Frame) → Valid p s stack → height_of f ≤ height_at p s.depth_left → height_at q t.depth_left + count_of f ≤ height_at p s.depth_left → FitsFrame f → Fits q t.depth_left t.lifetimes → t.pending_text ≡ None
    → Valid q t (pushed_on stack f)
valid_push p q s t stack None v x y g h k = record {
  has_room = Rattle.demangle_v0_parser.proofs.Heights.has_room_on frame_height most_frames (height_at p s.depth_left) (height_at q t.depth_left) stack v.has_room (omega (arith, y));
  fits = h;
  all_fit = v.all_fit;
  no_pending_text = k;
}
valid_push p q s t stack (Some f) v x y g h k = record {
  has_room = Rattle.demangle_v0_parser.proofs.Heights.stands_push frame_height most_frames (height_at p s.depth_left) (height_at q t.depth_left) stack f v.has_room x (omega (arith, y));
  fits = h;
  all_fit = fit_push stack f v.all_fit g;
  no_pending_text = k;
}

pub valid_resumes : {base : ℕ} {p q : Continuation} {s t : State} {stack now : List Frame} → Valid p s stack → ResumesAt base p s stack q t now → Valid q t now
valid_resumes v (stays other e k r) = rw (e, k, r) v
valid_resumes {p = p} {s = s} {now = now} v (pops f e l r d k) =
    let fit = fit_below now f (subst AllFit r v.all_fit) in
    rw (d, k) record {
      has_room = Rattle.demangle_v0_parser.proofs.Heights.stands_resumed frame_height most_frames (height_at p s.depth_left) (frame_height f) now f (subst (λ (z : List Frame). heights.HasRoomAbove frame_height most_frames (height_at p s.depth_left) z) r v.has_room) (omega arith);
      fits = fit.1;
      all_fit = fit.0;
      no_pending_text = v.no_pending_text;
    }

pub resumes_length : {base : ℕ} {p q : Continuation} {s t : State} {stack now : List Frame} → ResumesAt base p s stack q t now → length now ≤ length stack
resumes_length (stays other e k r) = rw r (omega arith)
resumes_length {now = now} (pops f e l r d k) = rw r (omega (arith, length-append {A = Frame} now (f ∷ [])))

-- the frames of the stack have not looked at a tag
pub first_resumes : {base : ℕ} {p q : Continuation} {s t : State} {stack now : List Frame} → ResumesAt base p s stack q t now → first_looks p s ≤ first_looks q t
first_resumes (stays other e k r) = rw (e, k) (omega arith)
first_resumes (pops f e l r d k) = rw e (omega arith)

-- A production is complete, and the frame on top resumes.

pub resumes_trace : (b : List ℕ) (form : Form) (out : Bool) {base : ℕ} {p q : Continuation} {s t : State} {stack now : List Frame} → ResumesAt base p s stack q t now → remaining_trace b form out p s stack ≡ remaining_trace b form out q t now
unfolding trace_at
resumes_trace b form out (stays other e k r) = rw (e, k, r) refl
resumes_trace b form out {s = s} {now = now} (pops f e l r d k) = rw (e, r, d, k) (stack_rest_push b form out now f s.place s.is_bracket_open)

light : (p : Continuation) → (p ≡ continuation.End → ⊥) → weight_left p ≡ weight_at p
light continuation.End h = absurd (h refl)
light p h = refl

pub resume_light : {base : ℕ} {p q : Continuation} {s t : State} {stack now : List Frame} → ResumesAt base p s stack q t now → weight_at q + weights now ≤ weight_left p + weights stack
resume_light {p = p} (stays other e k r) = rw (e, r) (omega (arith, light p other))
resume_light {now = now} (pops f e l r d k) = rw (r, d) (omega (arith, weights_push now f))

-- Several steps in sequence.

module _ {V : Type 0} {e : Env V} where
  pub ran_none : {p : Continuation} {t : Machine V} → RanSteps e p t p t
  ran_none = record { bits = []; emits = refl; reads = refl; paid_looks = omega arith }

  pub ran_then : {p q r : Continuation} {t u w : Machine V} → RanSteps e p t q u → RanSteps e q u r w → RanSteps e p t r w
  ran_then {r = r} {w = w} x y = record {
    bits = x.bits ++ y.bits;
    emits = emitted_append e _ _ _ x.bits y.bits x.emits y.emits;
    reads = x.reads ∙ (ap (with_actions e.output.is_printed x.bits) y.reads ∙ sym (bits_append e.output.is_printed x.bits y.bits (trace_left e r w)));
    paid_looks = omega (arith, x.paid_looks, y.paid_looks, looks_append x.bits y.bits);
  }

  -- a production is complete, and the frame on top resumes
  pub ran_resumes : {base : ℕ} {p q : Continuation} {t : Machine V} {s : State} {mid : List Frame} → ResumesAt base p t.state t.stack q s mid → RanSteps e p t q (record t { state = s; stack = mid })
  ran_resumes k = record { bits = []; emits = refl; reads = resumes_trace e.symbol e.form e.output.is_printed k; paid_looks = omega arith }

  -- the effect of a step above further frames
  pub step_trace : {p q : Continuation} {t u : Machine V} (z : StepDone e p t (Ok q) u) (above : List Frame)
      → trace_left e p (record t { stack = above }) ≡ with_actions e.output.is_printed (bits_of e z.steps.0.prefix z.steps.0.emitted z.steps.0.back) (trace_left e q (record u { stack = pushed_on above z.steps.0.pushed }))
  step_trace {p} {q} {t} {u} z above =
      let d = z.steps.0 in
      let out = e.output.is_printed in
      let x = gone e d.pushed q u.state in
      let bits = bits_of e d.prefix d.emitted d.back in
      let one : trace_of_state e.symbol e.form out p t.state ≡ with_actions out bits x =
      subst (λ (m : Option FixedText). trace_of_state e.symbol e.form out p t.state ≡ taken e d.prefix d.emitted m d.back x) z.steps.1 d.reads ∙ sym (bits_trace e d.prefix d.emitted d.back x) in
      ap (λ (h : Trace). and_then h (trace_of_stack e.symbol e.form out above)) one
      ∙ (bits_then out bits x (trace_of_stack e.symbol e.form out above) ∙ ap (with_actions out bits) (followed_stack e.symbol e.form out above d.pushed (trace_of_state e.symbol e.form out q u.state)))

  pub ran_step : {p q : Continuation} {t u : Machine V} (z : StepDone e p t (Ok q) u) (above : List Frame) → RanSteps e p (record t { stack = above }) q (record u { stack = pushed_on above z.steps.0.pushed })
  ran_step z above = let d = z.steps.0 in record {
    bits = bits_of e d.prefix d.emitted d.back;
    emits = bits_emitted e _ _ d.prefix d.emitted d.back d.emits;
    reads = step_trace z above;
    paid_looks = omega (arith, d.paid_looks, bits_total e d.prefix d.emitted d.back);
  }

  pub ran_stepped : {p q : Continuation} {t u : Machine V} → StepDone e p t (Ok q) u → RanSteps e p t q u
  ran_stepped {p} {q} {t} {u} z = subst (λ (ys : List Frame). RanSteps e p t q (record u { stack = ys })) (sym z.steps.0.is_stack) (ran_step z t.stack)

  -- the steps keep the place at which the trace ends, and make no more looks than the trace allows
  pub ran_place : {p q : Continuation} {t u : Machine V} → RanSteps e p t q u → (trace_left e q u).place ≡ (trace_left e p t).place
  ran_place {q = q} {u = u} x = sym (place_bits e.output.is_printed x.bits (trace_left e q u)) ∙ ap (λ (h : Trace). h.place) (sym x.reads)

  pub ran_looks : {p q : Continuation} {t u : Machine V} → RanSteps e p t q u → u.looks + allowed_in (trace_left e q u).events ≤ t.looks + allowed_in (trace_left e p t).events
  ran_looks {q = q} {u = u} x = omega (arith, x.paid_looks, ap (λ (h : Trace). allowed_in h.events) x.reads, allowed_bits e.output.is_printed x.bits (trace_left e q u))

  -- the trace after a rejected token
  abbrev pub after_broke : {p : Continuation} {t : Machine V} {v : V} {n : ℕ} → StoppedAfter e p t v n → Trace
  after_broke d = and_then d.halts.rest (trace_of_stack e.symbol e.form e.output.is_printed d.stack)

  abbrev pub prefix_of : {p : Continuation} {t : Machine V} {v : V} {n : ℕ} → StoppedAfter e p t v n → List Action
  prefix_of d = d.ran.bits ++ allows_looks d.halts.prefix ∷ []

  pub broke_trace : {p : Continuation} {t : Machine V} {v : V} {n : ℕ} (d : StoppedAfter e p t v n) → trace_left e p t ≡ with_actions e.output.is_printed (prefix_of d) (after_emission e (Some d.halts.emitted) (after_broke d))
  broke_trace d =
      let out = e.output.is_printed in
      let emitted = d.halts.emitted in
      let above = trace_of_stack e.symbol e.form out d.stack in
      let prefix = allows_looks d.halts.prefix ∷ [] in
      d.ran.reads
      ∙ (ap (with_actions out d.ran.bits) (ap (λ (h : Trace). and_then h above) d.halts.reads ∙ (bits_then out prefix (after_emission e (Some emitted) d.halts.rest) above ∙ ap (with_actions out prefix) (emission_then e emitted d.halts.rest above)))
      ∙ sym (bits_append out d.ran.bits prefix (after_emission e (Some emitted) (after_broke d))))

  pub broke_emits : {p : Continuation} {t : Machine V} {v : V} {n : ℕ} (d : StoppedAfter e p t v n) → Emitted e (prefix_of d) t.output d.mid.output
  broke_emits d = emitted_append e _ _ _ d.ran.bits (allows_looks d.halts.prefix ∷ []) d.ran.emits refl

  pub broke_enough : {p : Continuation} {t : Machine V} {v : V} {n : ℕ} (d : StoppedAfter e p t v n) → n ≤ t.looks + (action_looks (prefix_of d) + 2)
  broke_enough d = omega (arith, d.same_looks, d.halts.paid_looks, d.ran.paid_looks, looks_append d.ran.bits (allows_looks d.halts.prefix ∷ []))

  -- a parse without output failed
  pub broke_fails : {p : Continuation} {t : Machine V} {v : V} {n : ℕ} → e.output.is_printed ≡ false → (d : StoppedAfter e p t v n) → AllInner d.stack → ((trace_left e p t).place ≡ None) × (n ≤ t.looks + allowed_in (trace_left e p t).events)
  broke_fails without_output d i =
      let out = e.output.is_printed in
      let rest = after_emission e (Some d.halts.emitted) (after_broke d) in (
        ap (λ (h : Trace). h.place) (broke_trace d) ∙ (place_bits out (prefix_of d) rest ∙ (emission_place e d.halts.emitted (after_broke d) ∙ stack_rest_failed e.symbol e.form out d.stack d.halts.rest.place d.halts.rest.is_bracket_open i (d.halts.fails without_output))),
        omega (
          arith,
          d.same_looks,
          d.halts.exact without_output,
          d.ran.paid_looks,
          looks_append d.ran.bits (allows_looks d.halts.prefix ∷ []),
          ap (λ (h : Trace). allowed_in h.events) (broke_trace d),
          allowed_bits out (prefix_of d) rest,
        ),
      )

  pub valid_steps : {p q : Continuation} {t u : Machine V} → Valid p t.state t.stack → StepDone e p t (Ok q) u → Valid q u.state u.stack
  valid_steps {p} {q} {t} {u} l z = let d = z.steps.0 in subst (Valid q u.state) (sym d.is_stack) (valid_push p q t.state u.state t.stack d.pushed l d.outer_height d.inner_height d.outer_fits d.inner_fits z.steps.1)

-- Above other frames.

pub pushed_above : (below frames : List Frame) (f : Option Frame) → pushed_on (below ++ frames) f ≡ below ++ pushed_on frames f
pushed_above below frames None = refl
pushed_above below frames (Some f) = append_assoc below frames (f ∷ [])

module _ {V : Type 0} {e : Env V} where
  pub reads_none : {below above : List Frame} {p : Continuation} {t : Machine V} → t.stack ≡ below ++ above → AllInner above → Reads e below p (record t { stack = above }) p t
  reads_none {above = above} k i = record { frames = above; is_stack = k; inner = i; ran = ran_none }

  pub reads_resume : {base : ℕ} {below : List Frame} {o p q : Continuation} {first t : Machine V} {s : State} {mid : List Frame} → Reads e below o first p t → length below ≡ base → ResumesAt base p t.state t.stack q s mid → Reads e below o first q (record t { state = s; stack = mid })
  reads_resume x l (stays other k r m) = rw (k, r, m) x
  reads_resume {below = below} {p = p} {q = q} {t = t} {s = s} {mid = mid} x l (pops f k h r d m) =
      let split = above_pop below x.frames mid f (sym r ∙ x.is_stack) (omega (arith, l, h, ap length r, length-append {A = Frame} mid (f ∷ []))) in
      let over : ResumesAt 0 p t.state x.frames q s split.0 = pops f k (omega (arith, ap length split.1, length-append {A = Frame} split.0 (f ∷ []))) split.1 d m in
      record {
        frames = split.0;
        is_stack = split.2;
        inner = inner_below split.0 f (subst AllInner split.1 x.inner);
        ran = ran_then x.ran (ran_resumes over);
      }
