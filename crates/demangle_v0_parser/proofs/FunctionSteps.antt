-- The continuations of function types, and binders.
use Rattle.std.specs.Prelude.{◌*◌, if◌then◌else◌}
use Rattle.std.proofs.Common.{◌≡◌, ℕ, ◌+◌, ◌-◌, ◌≤◌, length, Bool, true, false, Some, None, [], ◌∷◌, Result, Ok, Err, IsOk, refl, arith, sym, ap, ◌∙◌}
use Rattle.std.proofs.lemmas.Bool.{false≢true}
use Prim.Native.Char.{code}
use Rattle.demangle_symbol.specs.Digits.{is_byte}
use Rattle.demangle_symbol.specs.Primitives.{optional_at}
use Rattle.demangle_v0_grammar.specs.Items.{Items, a_type}
use Rattle.demangle_v0_grammar.specs.Table.{print_str, more, parameters, returns, type_inside, in_binder}
use Rattle.demangle_v0_grammar.specs.Binders.{binder_texts}
use Rattle.demangle_v0_grammar.specs.Traces.{Trace, with_looks, with_texts}
use Rattle.demangle_v0_tokens.specs.Texts.{token_items, text}
use Rattle.demangle_v0_grammar.specs.Reading.{Place, parse}
use Rattle.demangle_v0_parser.specs.Traces.{trace_at, trace_of_state, with_closed_bracket}
use Rattle.demangle_v0_parser.specs.Continuations.{is_list_end, after_list, list_costs}
use Rattle.demangle_v0_parser.specs.Measure.{weight_left, height_at, Fits}
use Rattle.demangle_v0_parser.specs.Steps.{Machine, Env, StepPart, part, Performs, PerformsAt, LooksWithin, step_looks_bound}
use Rattle.demangle_sink.specs.declared.SinkRefused.{SinkRefused}
use Rattle.demangle_v0_tokens.specs.declared.fixed_texts.FixedText.TheVariants as fixed
use Rattle.demangle_v0_tokens.specs.declared.token.TokenKind.TheVariants as token_kind
use Rattle.demangle_v0_tokens.specs.declared.token.Token.TheVariants.{Binder}
use Rattle.demangle_v0_parser.specs.declared.Continuation.{Continuation}
use Rattle.demangle_v0_parser.specs.declared.Continuation.TheVariants as continuation
use Rattle.demangle_v0_parser.specs.declared.State.{State}
use Rattle.demangle_v0_parser.specs.declared.StepError.{StepError}
use Rattle.demangle_v0_parser.specs.declared.StepError.TheVariants.{Sink, Abort}
use Rattle.demangle_v0_parser.proofs.StepRules.{trace, child_last, refused}
use Rattle.demangle_v0_grammar.proofs.TypeTraces.{binder_reads}
use Rattle.demangle_v0_parser.proofs.StepCases.{after_error, ends, moves, after_few, tells, halts}
use Rattle.demangle_v0_parser.proofs.ListSteps.{Listed, type_units, of_units, list_closes}

abbrev pub head : Items
head = token_items token_kind.FunctionQualifiers 0 parameters

-- the parameters
abbrev parameters_point : Bool → Continuation
parameters_point first = if first then continuation.FirstParameter else continuation.NextParameter

pub parameter_types : {V : Type 0} (e : Env V) (first : Bool) → Listed e (parameters_point first) continuation.«Type» continuation.NextParameter (λ (s : State). s.in_value) first type_inside (print_str ")" returns) (more ", " type_inside (print_str ")" returns))
unfolding trace_at
parameter_types e true = of_units (type_units e) (λ s. refl) (λ s j o. refl) refl (omega arith) (omega arith) (λ left. refl) (λ left. omega arith) (λ left n f. f) refl
parameter_types e false = of_units (type_units e) (λ s. refl) (λ s j o. refl) refl (omega arith) (omega arith) (λ left. refl) (λ left. omega arith) (λ left n f. f) refl

module _ {V : Type 0} {e : Env V} where
  pub parameters_close : {t : Machine V} {j : Place} {n : ℕ} (first : Bool) → is_list_end e.symbol t.state.place ≡ true → j ≡ after_list e.symbol t.state.place → LooksWithin t.looks (list_costs t.state.place) n → Fits continuation.NextParameter t.state.depth_left t.state.lifetimes
      → PerformsAt e (parameters_point first) t (Ok continuation.Returns) (record t { state = record t.state { place = j; pending_text = Some fixed.CloseParen }; looks = n })
  unfolding parse trace_at
  parameters_close true h k p f = list_closes (parameter_types e true) h k p refl (omega arith) (omega arith) f
  parameters_close false h k p f = list_closes (parameter_types e false) h k p refl (omega arith) (omega arith) f

  -- The return type of a function.
  pub returns_type : {t : Machine V} {n : ℕ} (i : ℕ) → t.state.place ≡ Some i → is_byte e.symbol i (code "u") ≡ false → n ≡ t.looks + 1 → Fits continuation.Returns t.state.depth_left t.state.lifetimes
      → PerformsAt e continuation.Returns t (Ok continuation.«Type») (record t { state = record t.state { pending_text = Some fixed.Arrow }; looks = n })
  unfolding parse trace_at
  returns_type {t} i at z l f =
      moves continuation.«Type» (1 ∷ []) (omega arith) (rw (at, z) (ap (λ (h : Trace). with_looks (1 ∷ []) (with_texts e.output.is_printed (text fixed.Arrow ∷ []) h)) (child_last e.output e.symbol e.form a_type false t.state.depth_left t.state.lifetimes (Some i))))
      (record { grows = omega (arith, l); within = omega (arith, l) }) (rw at (omega (arith, l))) (omega arith) (omega arith) f

-- Binders.

-- a part of a continuation that begins with a binder
abbrev pub binder_part : {V : Type 0} → Env V → ℕ → Items → State → ℕ → ℕ → StepPart
binder_part e words p s weight high = part words (trace e.output e.symbol e.form (in_binder p) s.depth_left s.lifetimes s.place) weight high

binder_so : {V : Type 0} (e : Env V) (p : Items) (left n i j m : ℕ) → Some (m, j) ≡ optional_at (code "G") e.symbol i
    → trace e.output e.symbol e.form (in_binder p) left n (Some i) ≡ with_looks (4 * (j - i + 1) ∷ []) (with_texts e.output.is_printed (binder_texts m n) (trace e.output e.symbol e.form p left (n + m) (Some j)))
binder_so e p left n i j m o = ap with_closed_bracket (binder_reads e.form e.output.is_printed e.symbol left n p i j m (sym o))

module _ {V : Type 0} {e : Env V} where
  pub binder_unread : {t : Machine V} {words weight high : ℕ} (p : Items) → t.state.pending_text ≡ None → t.state.place ≡ None → 1 ≤ weight → Performs e t (binder_part e words p t.state weight high) (Err (Abort fixed.AfterError)) t
  unfolding parse
  binder_unread p k at x = after_error k (rw at refl) x

  pub binder_stops : {t : Machine V} {words weight high n : ℕ} → 1 ≤ words → (p : Items) (i : ℕ) → t.state.place ≡ Some i → t.state.pending_text ≡ None → None ≡ optional_at (code "G") e.symbol i → LooksWithin t.looks (4 * (length e.symbol - i + 1) ∷ []) n → 1 ≤ weight
      → Performs e t (binder_part e words p t.state weight high) (Err (Abort fixed.Invalid)) (record t { looks = n })
  unfolding parse
  binder_stops primitive_count p i at k o l x = ends fixed.Invalid (4 * (length e.symbol - i + 1) ∷ []) (omega (arith, primitive_count)) k (rw at (rw (sym o) refl)) l (rw at (omega (arith, l.within))) x

  -- no lifetime
  pub binder_none : {t u : Machine V} {r : Result Continuation StepError} {words words' weight high weight' high' : ℕ} {s : State} {n : ℕ} → 1 + words' ≤ words → (p : Items) (i j m : ℕ) → t.state.place ≡ Some i → Some (m, j) ≡ optional_at (code "G") e.symbol i → m ≡ 0 → LooksWithin t.looks (4 * (j - i + 1) ∷ []) n
      → u.looks ≤ t.looks + step_looks_bound e.symbol t.state.place → weight' ≤ weight + 100 → high' ≤ high
      → Performs e (record t { state = s; looks = n }) (part words' (trace e.output e.symbol e.form p t.state.depth_left t.state.lifetimes (Some j)) weight' high') r u → Performs e t (binder_part e words p t.state weight high) r u
  unfolding binder_texts
  binder_none {t} primitive_count p i j m at o z l short w x d =
      let add : t.state.lifetimes + 0 ≡ t.state.lifetimes = omega arith in
      after_few (4 * (j - i + 1) ∷ []) (omega (arith, primitive_count)) (rw at (binder_so e p t.state.depth_left t.state.lifetimes i j m o ∙ rw (z, add) refl)) l short (omega (arith, w)) x d

  pub binder_continues : {t : Machine V} {words weight high n : ℕ} {s : State} {v : V} → 1 ≤ words → (to : Continuation) (p : Items) (i j m : ℕ) → t.state.place ≡ Some i → Some (m, j) ≡ optional_at (code "G") e.symbol i → LooksWithin t.looks (4 * (j - i + 1) ∷ []) n → n ≤ t.looks + step_looks_bound e.symbol t.state.place
      → e.output.prints t.output (binder_texts m t.state.lifetimes) (Ok tt) v → e.output.ready v → s.pending_text ≡ None
      → trace e.output e.symbol e.form p t.state.depth_left (t.state.lifetimes + m) (Some j) ≡ trace_of_state e.symbol e.form e.output.is_printed to s → weight_left to ≤ weight + 99 → height_at to s.depth_left ≤ high → Fits to s.depth_left s.lifetimes
      → Performs e t (binder_part e words p t.state weight high) (Ok to) (record t { state = s; output = v; looks = n })
  binder_continues {t} primitive_count to p i j m at o l short q y k h w x f =
      tells to (4 * (j - i + 1) ∷ []) (omega (arith, primitive_count)) (Binder t.state.lifetimes m)
      (rw at (binder_so e p t.state.depth_left t.state.lifetimes i j m o ∙ ap (λ (g : Trace). with_looks (4 * (j - i + 1) ∷ []) (with_texts e.output.is_printed (binder_texts m t.state.lifetimes) g)) h)) q y k l short (omega (arith, w)) x f

  pub binder_refused : {t : Machine V} {words weight high n : ℕ} {s : State} {v : V} {f : SinkRefused} → 1 ≤ words → (p : Items) (i j m : ℕ) → t.state.place ≡ Some i → Some (m, j) ≡ optional_at (code "G") e.symbol i → LooksWithin t.looks (4 * (j - i + 1) ∷ []) n → n ≤ t.looks + step_looks_bound e.symbol t.state.place
      → e.output.prints t.output (binder_texts m t.state.lifetimes) (Err f) v → (e.output.is_printed ≡ false → IsOk (refused f)) → Performs e t (binder_part e words p t.state weight high) (Err Sink) (record t { state = s; output = v; looks = n })
  binder_refused {t} primitive_count p i j m at o l short q k =
      halts (4 * (j - i + 1) ∷ []) (omega (arith, primitive_count)) (Binder t.state.lifetimes m) (trace e.output e.symbol e.form p t.state.depth_left (t.state.lifetimes + m) (Some j)) (rw at (binder_so e p t.state.depth_left t.state.lifetimes i j m o)) q (λ z. absurd (false≢true (k z))) l short
