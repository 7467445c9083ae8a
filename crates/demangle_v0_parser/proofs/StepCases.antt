-- The cases of a step, from one iteration to the next.
use Rattle.std.specs.Prelude.{◌*◌}
use Rattle.std.proofs.lemmas.Bool.{false≢true}
use Rattle.std.proofs.lemmas.List.{append-nil, length-append}
use Rattle.std.proofs.Common.{inl, inr, ◌≡◌, ℕ, ◌+◌, ◌≤◌, length, Bool, true, false, Option, Some, None, List, [], ◌∷◌, ◌++◌, Result, Ok, Err, IsOk, refl, arith, sym, ap, ◌∙◌}
use Rattle.demangle_v0_grammar.specs.Items.{Items, Kind, child, done}
use Rattle.demangle_v0_grammar.specs.LookTotals.{total}
use Rattle.demangle_v0_grammar.specs.Traces.{Trace, of, empty_trace, and_then, with_looks, with_texts, context_at}
use Rattle.demangle_v0_tokens.specs.Tokens.{texts_of, TokenSpec, token_spec}
use Rattle.demangle_v0_tokens.specs.Texts.{text, token_items}
use Rattle.demangle_v0_grammar.specs.Reading.{Place, unit_outcome, parse}
use Rattle.demangle_v0_parser.specs.Traces.{pending_texts, then_frame, trace_of_frame, pushed_on, trace_of_state, trace_at, with_closed_bracket}
use Rattle.demangle_v0_parser.specs.Measure.{weight_left, weight_at, weight_of, is_inner, height_of, count_of, FitsFrame, IsInner, Fits, height_at}
use Rattle.demangle_v0_parser.specs.Steps.{Machine, Env, StepPart, part, StepResult, Continued, Performs, LooksWithin, step_looks_bound, PerformsRest, Emission, gives, after_emission, Receives}
use Rattle.demangle_v0_parser.specs.Continuations.{list_costs}
use Rattle.demangle_sink.specs.declared.SinkRefused.{SinkRefused}
use Rattle.demangle_v0_tokens.specs.declared.fixed_texts.FixedText.{FixedText}
use Rattle.demangle_v0_tokens.specs.declared.fixed_texts.FixedText.TheVariants as fixed
use Rattle.demangle_v0_tokens.specs.declared.token.Token.{Token}
use Rattle.demangle_v0_parser.specs.declared.Continuation.{Continuation}
use Rattle.demangle_v0_parser.specs.declared.frames.Frame.{Frame}
use Rattle.demangle_v0_parser.specs.declared.State.{State}
use Rattle.demangle_v0_parser.specs.declared.StepError.{StepError}
use Rattle.demangle_v0_parser.specs.declared.StepError.TheVariants.{Sink, Abort}
use Rattle.demangle_v0_parser.proofs.StepRules.{looks_both, total_both, kept_none, refused, trace, child_last, group_then, group_so, token_so}
use Rattle.demangle_v0_parser.proofs.PrimitiveLooks.{group_short, group_few}
use Rattle.demangle_v0_tokens.specs.declared.token.TokenKind.{TokenKind}
use Rattle.demangle_v0_tokens.specs.declared.read.TokenOutcome.TheVariants as reads
use Rattle.demangle_v0_parser.specs.declared.Continuation.TheVariants as continuation

-- the production is complete
abbrev pub ended : Place → Trace
ended j = empty_trace j false

-- a bound on the weight and the height of a continuation; its lifetimes fit if those of a type do
pub record Within (p : Continuation) (weight above : ℕ) : Type 0 where
  pub light : weight_left p ≤ weight
  pub low : (left : ℕ) → height_at p left ≤ 8 * left + above
  pub fits : (left n : ℕ) → Fits continuation.«Type» left n → Fits p left n

abbrev rejection : Result Continuation StepError
rejection = Err Sink

pub list_short : (b : List ℕ) (i : Place) → total (list_costs i) ≤ step_looks_bound b i
list_short b None = omega arith
list_short b (Some i) = omega arith

pub list_tokens : (i : Place) → length (list_costs i) ≤ 1
list_tokens None = omega arith
list_tokens (Some i) = omega arith

pub list_few : (i : Place) → total (list_costs i) ≤ 1
list_few None = omega arith
list_few (Some i) = omega arith

no_fault : (m : FixedText) → rejection ≡ Err (Abort m) → ⊥
no_fault m k = cc

pub paid_none : {n : ℕ} → LooksWithin n [] n
paid_none = record { grows = omega arith; within = omega arith }

-- the rest of a step, after some looks
comes_after : {V : Type 0} (e : Env V) (t u : Machine V) (h k : Trace) (words words' weight high weight' high' : ℕ) (s : State) (n : ℕ) (r : Result Continuation StepError) (ks : List ℕ) → length ks + words' ≤ words → h ≡ with_looks ks k → LooksWithin t.looks ks n → weight' ≤ weight + 100 * total ks → high' ≤ high
    → StepResult e (part words' k weight' high') (record t { state = s; looks = n }) r u → StepResult e (part words h weight high) t r u
comes_after e t u h k words words' weight high weight' high' s n (Ok q) ks c o p w x d = record {
  prefix = ks ++ d.prefix;
  emitted = d.emitted;
  back = d.back;
  pushed = d.pushed;
  emits = d.emits;
  one = d.one;
  reads = o ∙ (ap (with_looks ks) d.reads ∙ sym (looks_both ks d.prefix _));
  is_stack = d.is_stack;
  primitive_count = omega (arith, c, d.primitive_count, length-append ks d.prefix);
  paid_looks = omega (arith, p.within, d.paid_looks, total_both ks d.prefix);
  looks_at_refusal = omega (arith, p.within, d.looks_at_refusal, total_both ks d.prefix);
  lighter = omega (arith, w, d.lighter, total_both ks d.prefix);
  outer_height = omega (arith, x, d.outer_height);
  inner_height = omega (arith, x, d.inner_height);
  outer_fits = d.outer_fits;
  inner_fits = d.inner_fits;
  no_output = d.no_output;
}
comes_after e t u h k words words' weight high weight' high' s n (Err (Abort m)) ks c o p w x d = record {
  prefix = ks ++ d.prefix;
  emits = d.emits;
  no_pending_text = d.no_pending_text;
  reads = o ∙ (ap (with_looks ks) d.reads ∙ sym (looks_both ks d.prefix _));
  is_stack = d.is_stack;
  primitive_count = omega (arith, c, d.primitive_count, length-append ks d.prefix);
  paid_looks = omega (arith, p.within, d.paid_looks, total_both ks d.prefix);
  lighter = omega (arith, w, d.lighter, total_both ks d.prefix);
}
comes_after e t u h k words words' weight high weight' high' s n (Err Sink) ks c o p w x (d, more) = (
  record {
    prefix = ks ++ d.prefix;
    emitted = d.emitted;
    rest = d.rest;
    rejection = d.rejection;
    prints = d.prints;
    reads = o ∙ (ap (with_looks ks) d.reads ∙ sym (looks_both ks d.prefix _));
    primitive_count = omega (arith, c, d.primitive_count, length-append ks d.prefix);
    paid_looks = omega (arith, p.within, d.paid_looks, total_both ks d.prefix);
    exact = λ q. omega (arith, p.within, d.exact q, total_both ks d.prefix);
    fails = d.fails;
  },
  more,
)

module _ {V : Type 0} {e : Env V} where
  -- The step continues at `to`. It makes these looks before and after the pending text, and may push this frame.
  pub text_step : {t : Machine V} {h : Trace} {words weight high : ℕ} (to : Continuation) (prefix back : List ℕ) → length prefix + length back ≤ words → (pushed : Option Frame) {s : State} {stack : List Frame} {n : ℕ}
      → h ≡ with_looks prefix (with_texts e.output.is_printed (pending_texts s.pending_text) (with_looks back (then_frame e.symbol e.form e.output.is_printed pushed (trace_of_state e.symbol e.form e.output.is_printed to s))))
      → stack ≡ pushed_on t.stack pushed → LooksWithin t.looks (prefix ++ back) n → total back ≤ 2 → n ≤ t.looks + step_looks_bound e.symbol t.state.place
      → weight_left to + weight_of pushed + 1 ≤ weight + 100 * (total prefix + total back)
      → height_of pushed ≤ high → height_at to s.depth_left + count_of pushed ≤ high → FitsFrame pushed → Fits to s.depth_left s.lifetimes → (e.output.is_printed ≡ false → IsInner pushed)
      → Performs e t (part words h weight high) (Ok to) (record t { state = s; stack = stack; looks = n })
  text_step to prefix back c pushed r q p primitive_count short w x y f g i = let both = total_both prefix back in record {
    comes = record {
      prefix = prefix;
      emitted = None;
      back = back;
      pushed = pushed;
      emits = refl;
      one = inl refl;
      reads = r;
      is_stack = q;
      primitive_count = c;
      paid_looks = omega (arith, p.within, both);
      looks_at_refusal = omega (arith, p.within, both, primitive_count);
      lighter = w;
      outer_height = x;
      inner_height = y;
      outer_fits = f;
      inner_fits = g;
      no_output = i;
    };
    grows = p.grows;
    own_looks = short;
    ready = λ k _. k;
    if_ok = λ k _ _. k;
  }

  -- without a frame
  pub moves : {t : Machine V} {h : Trace} {words weight high n : ℕ} (to : Continuation) (ks : List ℕ) → length ks ≤ words → {s : State} → h ≡ with_looks ks (with_texts e.output.is_printed (pending_texts s.pending_text) (trace_of_state e.symbol e.form e.output.is_printed to s))
      → LooksWithin t.looks ks n → n ≤ t.looks + step_looks_bound e.symbol t.state.place → weight_left to + 1 ≤ weight + 100 * total ks → height_at to s.depth_left ≤ high → Fits to s.depth_left s.lifetimes
      → Performs e t (part words h weight high) (Ok to) (record t { state = s; looks = n })
  unfolding then_frame
  moves to ks c r p short w x f = text_step to ks [] (omega (arith, c)) None r refl (rw append-nil p) (omega arith) short (omega (arith, w)) (omega arith) (omega (arith, x)) tt f (λ _. tt)

  -- without looks
  pub enters : {t : Machine V} {h : Trace} {words weight high : ℕ} (to : Continuation) (f : Frame) {s : State} {stack : List Frame}
      → h ≡ with_texts e.output.is_printed (pending_texts s.pending_text) (and_then (trace_of_state e.symbol e.form e.output.is_printed to s) (trace_of_frame e.symbol e.form e.output.is_printed f)) → stack ≡ t.stack ++ f ∷ []
      → weight_left to + weight_at f.continuation + 2 ≤ weight → height_at f.continuation f.depth_left ≤ high → height_at to s.depth_left + 1 ≤ high → Fits f.continuation f.depth_left f.number → Fits to s.depth_left s.lifetimes → is_inner f.continuation ≡ true
      → Performs e t (part words h weight high) (Ok to) (record t { state = s; stack = stack })
  unfolding then_frame
  enters to f r q w x y z g i = text_step to [] [] (omega arith) (Some f) r q paid_none (omega arith) (omega arith) (omega (arith, w)) (omega (arith, x)) (omega (arith, y)) z g (λ _. i)

  -- without looks and without a frame
  pub marks : {t : Machine V} {h : Trace} {words weight high : ℕ} (to : Continuation) {s : State} → h ≡ with_texts e.output.is_printed (pending_texts s.pending_text) (trace_of_state e.symbol e.form e.output.is_printed to s)
      → weight_left to + 1 ≤ weight → height_at to s.depth_left ≤ high → Fits to s.depth_left s.lifetimes → Performs e t (part words h weight high) (Ok to) (record t { state = s })
  marks to r w x f = moves to [] (omega arith) r paid_none (omega arith) (omega (arith, w)) x f

  -- a nested production, after a pending text
  pub texts_child : {t : Machine V} {h : Trace} {words weight high : ℕ} (to : Continuation) (k : Kind) (v : Bool) {s : State} → h ≡ with_texts e.output.is_printed (pending_texts s.pending_text) (trace e.output e.symbol e.form (child k v done) s.depth_left s.lifetimes s.place)
      → with_closed_bracket (of e.form e.output.is_printed (unit_outcome (context_at e.symbol e.form e.output.is_printed s.depth_left s.lifetimes) k v s.place)) ≡ trace_of_state e.symbol e.form e.output.is_printed to s
      → weight_left to + 1 ≤ weight → height_at to s.depth_left ≤ high → Fits to s.depth_left s.lifetimes → Performs e t (part words h weight high) (Ok to) (record t { state = s })
  texts_child to k v {s} q r w x f = marks to (q ∙ ap (with_texts e.output.is_printed (pending_texts s.pending_text)) (child_last e.output e.symbol e.form k v s.depth_left s.lifetimes s.place ∙ r)) w x f

  -- The production ends with an error.
  pub ends : {t : Machine V} {h : Trace} {words weight high : ℕ} (m : FixedText) (prefix : List ℕ) → length prefix ≤ words → {s : State} {n : ℕ} → s.pending_text ≡ None
      → h ≡ with_looks prefix (with_texts e.output.is_printed (text m ∷ []) (empty_trace None false)) → LooksWithin t.looks prefix n → n ≤ t.looks + step_looks_bound e.symbol t.state.place → 1 ≤ weight
      → Performs e t (part words h weight high) (Err (Abort m)) (record t { state = s; looks = n })
  ends m prefix c k r p short w = record {
    comes = record { prefix = prefix; emits = refl; no_pending_text = k; reads = r; is_stack = refl; primitive_count = c; paid_looks = p.within; lighter = omega (arith, w) };
    grows = p.grows;
    own_looks = short;
    ready = λ y _. y;
    if_ok = λ y _ _. y;
  }

  -- The parse has failed before.
  pub after_error : {t : Machine V} {h : Trace} {words weight high : ℕ} → t.state.pending_text ≡ None → h ≡ with_texts e.output.is_printed (text fixed.AfterError ∷ []) (empty_trace None false) → 1 ≤ weight → Performs e t (part words h weight high) (Err (Abort fixed.AfterError)) t
  after_error k r w = ends fixed.AfterError [] (omega arith) k r paid_none (omega arith) w

  -- A token is emitted.
  pub advanced_by : {t : Machine V} {h : Trace} {words weight high : ℕ} (to : Continuation) (prefix : List ℕ) → length prefix ≤ words → (x : Token) {s : State} {v : V} {n : ℕ}
      → h ≡ with_looks prefix (with_texts e.output.is_printed (texts_of e.symbol e.form x) (trace_of_state e.symbol e.form e.output.is_printed to s)) → e.output.prints t.output (texts_of e.symbol e.form x) (Ok tt) v → s.pending_text ≡ None
      → n ≤ t.looks + total prefix → weight_left to + 1 ≤ weight + 100 * total prefix → height_at to s.depth_left ≤ high → Fits to s.depth_left s.lifetimes → Continued e (part words h weight high) t to (record t { state = s; output = v; looks = n })
  unfolding then_frame
  advanced_by to prefix c x r q k p w z f = record {
    prefix = prefix;
    emitted = Some (gives x);
    back = [];
    pushed = None;
    emits = q;
    one = inr k;
    reads = rw k r;
    is_stack = refl;
    primitive_count = omega (arith, c);
    paid_looks = omega (arith, p);
    looks_at_refusal = omega (arith, p);
    lighter = omega (arith, w);
    outer_height = omega arith;
    inner_height = omega (arith, z);
    outer_fits = tt;
    inner_fits = f;
    no_output = λ _. tt;
  }

  pub tells : {t : Machine V} {h : Trace} {words weight high : ℕ} (to : Continuation) (prefix : List ℕ) → length prefix ≤ words → (x : Token) {s : State} {v : V} {n : ℕ}
      → h ≡ with_looks prefix (with_texts e.output.is_printed (texts_of e.symbol e.form x) (trace_of_state e.symbol e.form e.output.is_printed to s)) → e.output.prints t.output (texts_of e.symbol e.form x) (Ok tt) v → e.output.ready v → s.pending_text ≡ None
      → LooksWithin t.looks prefix n → n ≤ t.looks + step_looks_bound e.symbol t.state.place → weight_left to + 1 ≤ weight + 100 * total prefix → height_at to s.depth_left ≤ high → Fits to s.depth_left s.lifetimes
      → Performs e t (part words h weight high) (Ok to) (record t { state = s; output = v; looks = n })
  tells to prefix c x r q y k p short w z f = record { comes = advanced_by to prefix c x r q k p.within w z f; grows = p.grows; own_looks = short; ready = λ _ _. y; if_ok = λ _ _ _. y }

  -- The output rejects the token.
  pub halts : {t : Machine V} {h : Trace} {words weight high : ℕ} (prefix : List ℕ) → length prefix ≤ words → (x : Token) (rest : Trace) {s : State} {v : V} {n : ℕ} {r : SinkRefused}
      → h ≡ with_looks prefix (with_texts e.output.is_printed (texts_of e.symbol e.form x) rest) → e.output.prints t.output (texts_of e.symbol e.form x) (Err r) v
      → (e.output.is_printed ≡ false → rest.place ≡ None) → LooksWithin t.looks prefix n → n ≤ t.looks + step_looks_bound e.symbol t.state.place
      → Performs e t (part words h weight high) (Err Sink) (record t { state = s; output = v; looks = n })
  halts {t} prefix c x rest {r = f} r q i p short = record {
    comes = (record { prefix = prefix; emitted = gives x; rest = rest; rejection = f; prints = q; reads = r; primitive_count = c; paid_looks = omega (arith, p.within); exact = λ _. p.within; fails = i }, kept_none t.stack);
    grows = p.grows;
    own_looks = short;
    ready = λ _ k. absurd (false≢true k);
    if_ok = λ _ m k. absurd (no_fault m k);
  }

  -- The output receives something, and no text is pending.
  pub receives_on : {t : Machine V} {h : Trace} {words weight high : ℕ} (to : Continuation) (prefix : List ℕ) → length prefix ≤ words → (x : Emission) (pushed : Option Frame) {s : State} {stack : List Frame} {v : V} {n : ℕ}
      → h ≡ with_looks prefix (after_emission e (Some x) (then_frame e.symbol e.form e.output.is_printed pushed (trace_of_state e.symbol e.form e.output.is_printed to s)))
      → Receives e x t.output (Ok tt) v → (e.output.ready t.output → e.output.ready v) → s.pending_text ≡ None
      → stack ≡ pushed_on t.stack pushed → LooksWithin t.looks prefix n → n ≤ t.looks + step_looks_bound e.symbol t.state.place
      → weight_left to + weight_of pushed + 1 ≤ weight + 100 * total prefix
      → height_of pushed ≤ high → height_at to s.depth_left + count_of pushed ≤ high → FitsFrame pushed → Fits to s.depth_left s.lifetimes → (e.output.is_printed ≡ false → IsInner pushed)
      → Performs e t (part words h weight high) (Ok to) (record t { state = s; stack = stack; output = v; looks = n })
  receives_on to prefix c x pushed r put still k q p short w y z f g i = record {
    comes = record {
      prefix = prefix;
      emitted = Some x;
      back = [];
      pushed = pushed;
      emits = put;
      one = inr k;
      reads = rw k r;
      is_stack = q;
      primitive_count = omega (arith, c);
      paid_looks = omega (arith, p.within);
      looks_at_refusal = omega (arith, p.within);
      lighter = omega (arith, w);
      outer_height = y;
      inner_height = z;
      outer_fits = f;
      inner_fits = g;
      no_output = i;
    };
    grows = p.grows;
    own_looks = short;
    ready = λ a _. still a;
    if_ok = λ a m e. absurd (ok_fault m e);
  }
    where
      ok_fault : (m : FixedText) → Ok to ≡ Err (Abort m) → ⊥
      ok_fault m z = cc

  -- The output rejects it.
  pub receives_no_more : {t : Machine V} {h : Trace} {words weight high : ℕ} (prefix : List ℕ) → length prefix ≤ words → (x : Emission) (rest : Trace) {s : State} {v : V} {n : ℕ} {r : SinkRefused}
      → h ≡ with_looks prefix (after_emission e (Some x) rest) → Receives e x t.output (Err r) v
      → (e.output.is_printed ≡ false → rest.place ≡ None) → LooksWithin t.looks prefix n → n ≤ t.looks + step_looks_bound e.symbol t.state.place
      → Performs e t (part words h weight high) (Err Sink) (record t { state = s; output = v; looks = n })
  receives_no_more {t} prefix c x rest {r = f} r q i p short = record {
    comes = (record { prefix = prefix; emitted = x; rest = rest; rejection = f; prints = q; reads = r; primitive_count = c; paid_looks = omega (arith, p.within); exact = λ _. p.within; fails = i }, kept_none t.stack);
    grows = p.grows;
    own_looks = short;
    ready = λ _ k. absurd (false≢true k);
    if_ok = λ _ m k. absurd (no_fault m k);
  }

  -- After some looks, if all looks that were made are within the bound.
  pub after_few : {t u : Machine V} {r : Result Continuation StepError} {h k : Trace} {words words' weight high weight' high' : ℕ} {s : State} {n : ℕ} (ks : List ℕ) → length ks + words' ≤ words → h ≡ with_looks ks k → LooksWithin t.looks ks n → u.looks ≤ t.looks + step_looks_bound e.symbol t.state.place
      → weight' ≤ weight + 100 * total ks → high' ≤ high → Performs e (record t { state = s; looks = n }) (part words' k weight' high') r u → Performs e t (part words h weight high) r u
  after_few {t} {u} {r} {h} {k} {words} {words'} {weight} {high} {weight'} {high'} {s} {n} ks c o p short w x z = record { comes = comes_after e t u h k words words' weight high weight' high' s n r ks c o p w x z.comes; grows = omega (arith, p.grows, z.grows); own_looks = short; ready = z.ready; if_ok = z.if_ok }

  -- After some looks.
  pub following : {t u : Machine V} {r : Result Continuation StepError} {h k : Trace} {words words' weight high weight' high' : ℕ} {s : State} {n : ℕ} (ks : List ℕ) → length ks + words' ≤ words → h ≡ with_looks ks k → LooksWithin t.looks ks n → n + step_looks_bound e.symbol s.place ≤ t.looks + step_looks_bound e.symbol t.state.place
      → weight' ≤ weight + 100 * total ks → high' ≤ high → Performs e (record t { state = s; looks = n }) (part words' k weight' high') r u → Performs e t (part words h weight high) r u
  following ks c o p short w x z = after_few ks c o p (omega (arith, short, z.own_looks)) w x z

  -- the same for an equal trace
  pub alike : {t u : Machine V} {r : Result Continuation StepError} {h k : Trace} {words words' weight high weight' high' : ℕ} → words' ≤ words → h ≡ k → weight' ≤ weight → high' ≤ high → Performs e t (part words' k weight' high') r u → Performs e t (part words h weight high) r u
  alike c o w x z = following [] (omega (arith, c)) o paid_none (omega arith) (omega (arith, w)) x z

abbrev pub word_of : {V : Type 0} → Env V → TokenKind → State → TokenSpec
word_of e x s = token_spec e.symbol x s.letter e.output.is_printed s.lifetimes s.place

-- a part of a continuation that begins with a primitive
abbrev pub token_part : {V : Type 0} → Env V → ℕ → TokenKind → Items → State → ℕ → ℕ → StepPart
token_part e words x p s weight high = part words (trace e.output e.symbol e.form (token_items x s.letter p) s.depth_left s.lifetimes s.place) weight high

-- Primitives that are read by a token spec.
module _ {V : Type 0} {e : Env V} where
  pub group_tells : {t : Machine V} {h : Trace} {words weight high : ℕ} {s : State} {v : V} {n : ℕ} (to : Continuation) (g : TokenSpec) → length g.costs ≤ words → (k : Place → Trace) (y : Token) (j : Place) → h ≡ group_then e.output e.symbol e.form g k → reads.Parsed y j ≡ g.reads → LooksWithin t.looks g.costs n
      → n ≤ t.looks + step_looks_bound e.symbol t.state.place → e.output.prints t.output (texts_of e.symbol e.form y) (Ok tt) v → e.output.ready v → s.pending_text ≡ None → k j ≡ trace_of_state e.symbol e.form e.output.is_printed to s
      → weight_left to + 1 ≤ weight → height_at to s.depth_left ≤ high → Fits to s.depth_left s.lifetimes → Performs e t (part words h weight high) (Ok to) (record t { state = s; output = v; looks = n })
  group_tells to g c k y j so r p short q x m o w z f =
      tells to g.costs c y (group_so e.output e.symbol e.form _ g k (reads.Parsed y j) so r ∙ ap (λ (z : Trace). with_looks g.costs (with_texts e.output.is_printed (texts_of e.symbol e.form y) z)) o) q x m p short (omega (arith, w)) z f

  pub group_stops : {t : Machine V} {h : Trace} {words weight high : ℕ} {s : State} {v : V} {n : ℕ} {f : SinkRefused} (g : TokenSpec) → length g.costs ≤ words → (k : Place → Trace) (y : Token) (j : Place) → h ≡ group_then e.output e.symbol e.form g k → reads.Parsed y j ≡ g.reads → LooksWithin t.looks g.costs n
      → n ≤ t.looks + step_looks_bound e.symbol t.state.place → e.output.prints t.output (texts_of e.symbol e.form y) (Err f) v → (e.output.is_printed ≡ false → IsOk (refused f)) → Performs e t (part words h weight high) (Err Sink) (record t { state = s; output = v; looks = n })
  group_stops g c k y j so r p short q x = halts g.costs c y (k j) (group_so e.output e.symbol e.form _ g k (reads.Parsed y j) so r) q (λ z. absurd (false≢true (x z))) p short

  pub group_faults : {t : Machine V} {h : Trace} {words weight high : ℕ} {n : ℕ} (g : TokenSpec) → length g.costs ≤ words → (k : Place → Trace) (m : FixedText) → h ≡ group_then e.output e.symbol e.form g k → reads.NotParsed m ≡ g.reads → LooksWithin t.looks g.costs n
      → n ≤ t.looks + step_looks_bound e.symbol t.state.place → t.state.pending_text ≡ None → 1 ≤ weight → Performs e t (part words h weight high) (Err (Abort m)) (record t { looks = n })
  group_faults g c k m so r p short x w = ends m g.costs c x (group_so e.output e.symbol e.form _ g k (reads.NotParsed m) so r) p short w

  -- Primitives after which the production continues.

  pub token_continues : {t : Machine V} {words weight high : ℕ} {s : State} {v : V} {n : ℕ} → 4 ≤ words → (to : Continuation) (x : TokenKind) (p : Items) (y : Token) (j : Place) → reads.Parsed y j ≡ (word_of e x t.state).reads → LooksWithin t.looks (word_of e x t.state).costs n → e.output.prints t.output (texts_of e.symbol e.form y) (Ok tt) v → e.output.ready v → s.pending_text ≡ None
      → trace e.output e.symbol e.form p t.state.depth_left t.state.lifetimes j ≡ trace_of_state e.symbol e.form e.output.is_printed to s → weight_left to + 1 ≤ weight → height_at to s.depth_left ≤ high → Fits to s.depth_left s.lifetimes
      → Performs e t (token_part e words x p t.state weight high) (Ok to) (record t { state = s; output = v; looks = n })
  token_continues {t} primitive_count to x p y j r q k z m o w l f =
      group_tells to (word_of e x t.state) (omega (arith, primitive_count, group_few e.symbol x t.state.letter e.output.is_printed t.state.lifetimes t.state.place)) (trace e.output e.symbol e.form p t.state.depth_left t.state.lifetimes) y j (token_so e.output e.symbol e.form x t.state.letter p t.state.depth_left t.state.lifetimes t.state.place) r q
      (omega (arith, q.within, group_short e.symbol x t.state.letter e.output.is_printed t.state.lifetimes t.state.place)) k z m o w l f

  pub token_refuses : {t : Machine V} {words weight high : ℕ} {s : State} {v : V} {n : ℕ} {f : SinkRefused} → 4 ≤ words → (x : TokenKind) (p : Items) (y : Token) (j : Place) → reads.Parsed y j ≡ (word_of e x t.state).reads → LooksWithin t.looks (word_of e x t.state).costs n → e.output.prints t.output (texts_of e.symbol e.form y) (Err f) v → (e.output.is_printed ≡ false → IsOk (refused f))
      → Performs e t (token_part e words x p t.state weight high) (Err Sink) (record t { state = s; output = v; looks = n })
  token_refuses {t} primitive_count x p y j r q k z =
      group_stops (word_of e x t.state) (omega (arith, primitive_count, group_few e.symbol x t.state.letter e.output.is_printed t.state.lifetimes t.state.place)) (trace e.output e.symbol e.form p t.state.depth_left t.state.lifetimes) y j (token_so e.output e.symbol e.form x t.state.letter p t.state.depth_left t.state.lifetimes t.state.place) r q
      (omega (arith, q.within, group_short e.symbol x t.state.letter e.output.is_printed t.state.lifetimes t.state.place)) k z

  pub word_stops : {t : Machine V} {words weight high : ℕ} {n : ℕ} → 4 ≤ words → (x : TokenKind) (p : Items) (m : FixedText) → reads.NotParsed m ≡ (word_of e x t.state).reads → LooksWithin t.looks (word_of e x t.state).costs n → t.state.pending_text ≡ None → 1 ≤ weight → Performs e t (token_part e words x p t.state weight high) (Err (Abort m)) (record t { looks = n })
  word_stops {t} primitive_count x p m r q k w =
      group_faults (word_of e x t.state) (omega (arith, primitive_count, group_few e.symbol x t.state.letter e.output.is_printed t.state.lifetimes t.state.place)) (trace e.output e.symbol e.form p t.state.depth_left t.state.lifetimes) m (token_so e.output e.symbol e.form x t.state.letter p t.state.depth_left t.state.lifetimes t.state.place) r q
      (omega (arith, q.within, group_short e.symbol x t.state.letter e.output.is_printed t.state.lifetimes t.state.place)) k w

  -- Primitives with which a production ends.

  pub token_ends : {t : Machine V} {v : V} {n : ℕ} (x : TokenKind) (y : Token) (j : Place) → reads.Parsed y j ≡ (word_of e x t.state).reads → LooksWithin t.looks (word_of e x t.state).costs n → e.output.prints t.output (texts_of e.symbol e.form y) (Ok tt) v → e.output.ready v → t.state.pending_text ≡ None
      → PerformsRest e (token_items x t.state.letter done) 4 1 0 t (Ok continuation.End) (record t { state = record t.state { place = j; is_bracket_open = false }; output = v; looks = n })
  unfolding parse trace_at
  token_ends x y j r p q k m = token_continues (omega arith) continuation.End x done y j r p q k m refl (omega arith) (omega arith) tt

  pub token_stops : {t : Machine V} {s : State} {v : V} {n : ℕ} {f : SinkRefused} (x : TokenKind) (y : Token) (j : Place) → reads.Parsed y j ≡ (word_of e x t.state).reads → LooksWithin t.looks (word_of e x t.state).costs n → e.output.prints t.output (texts_of e.symbol e.form y) (Err f) v → (e.output.is_printed ≡ false → IsOk (refused f))
      → PerformsRest e (token_items x t.state.letter done) 4 1 0 t (Err Sink) (record t { state = s; output = v; looks = n })
  token_stops x = token_refuses (omega arith) x done

  pub token_faults : {t : Machine V} {n : ℕ} (x : TokenKind) (m : FixedText) → reads.NotParsed m ≡ (word_of e x t.state).reads → LooksWithin t.looks (word_of e x t.state).costs n → t.state.pending_text ≡ None → PerformsRest e (token_items x t.state.letter done) 4 1 0 t (Err (Abort m)) (record t { looks = n })
  token_faults x m r p k = word_stops (omega arith) x done m r p k (omega arith)

  -- a primitive that emits nothing
  pub token_bare : {t u : Machine V} {r : Result Continuation StepError} {words words' weight high weight' high' : ℕ} {s : State} {n : ℕ} → 4 + words' ≤ words → (x : TokenKind) (p : Items) (y : Token) (j : Place) → reads.Parsed y j ≡ (word_of e x t.state).reads → texts_of e.symbol e.form y ≡ [] → LooksWithin t.looks (word_of e x t.state).costs n
      → u.looks ≤ t.looks + step_looks_bound e.symbol t.state.place → weight' ≤ weight → high' ≤ high → Performs e (record t { state = s; looks = n }) (part words' (trace e.output e.symbol e.form p t.state.depth_left t.state.lifetimes j) weight' high') r u → Performs e t (token_part e words x p t.state weight high) r u
  token_bare {t} primitive_count x p y j r o q short w z d =
      let g = word_of e x t.state in
      let k : Place → Trace = trace e.output e.symbol e.form p t.state.depth_left t.state.lifetimes in
      after_few g.costs (omega (arith, primitive_count, group_few e.symbol x t.state.letter e.output.is_printed t.state.lifetimes t.state.place))
      (group_so e.output e.symbol e.form _ g k (reads.Parsed y j) (token_so e.output e.symbol e.form x t.state.letter p t.state.depth_left t.state.lifetimes t.state.place) r ∙ ap (λ ts. with_looks g.costs (with_texts e.output.is_printed ts (k j))) o) q short (omega (arith, w)) z d
