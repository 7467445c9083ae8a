-- The continuations of lifetimes.
use Rattle.std.specs.Prelude.{◌*◌, nat_le, codes}
use Rattle.std.proofs.lemmas.Bool.{ne_eqb, false≢true}
use Rattle.std.proofs.Common.{◌≡◌, ℕ, ◌+◌, ◌-◌, ◌≤◌, length, Bool, true, false, Some, None, List, [], ◌∷◌, Result, Ok, Err, refl, arith, sym, ap, ◌∙◌}
use Rattle.demangle_symbol.specs.Primitives.{integer_at}
use Rattle.demangle_v0_grammar.specs.Items.{Items, lifetime}
use Rattle.demangle_v0_grammar.specs.Traces.{Trace, of, with_looks, with_texts, context_at}
use Rattle.demangle_v0_tokens.specs.Tokens.{texts_of}
use Rattle.demangle_v0_grammar.specs.Table.{type_inside, print_str, print_if}
use Rattle.demangle_v0_tokens.specs.Tags.{lifetime_before}
use Rattle.demangle_v0_grammar.specs.Reading.{Form, Place, letter_of, parse}
use Rattle.demangle_v0_parser.specs.Steps.{Machine, Env, LooksWithin, PerformsRest, PerformsAt, step_looks_bound}
use Rattle.demangle_v0_parser.specs.Traces.{then_frame, with_closed_bracket}
use Rattle.demangle_v0_parser.specs.Measure.{Fits}
use Rattle.demangle_v0_parser.specs.Continuations.{after_reference_lifetime, lifetime_continuation, spaced_lifetime}
use Rattle.demangle_sink.specs.declared.SinkRefused.{SinkRefused}
use Rattle.demangle_v0_tokens.specs.declared.fixed_texts.FixedText.TheVariants as fixed
use Rattle.demangle_v0_tokens.specs.declared.token.Token.{Token}
use Rattle.demangle_v0_parser.specs.declared.Continuation.{Continuation}
use Rattle.demangle_v0_parser.specs.declared.Continuation.TheVariants as continuation
use Rattle.demangle_v0_parser.specs.declared.State.{State}
use Rattle.demangle_v0_parser.specs.declared.StepError.{StepError}
use Rattle.demangle_v0_parser.specs.declared.StepError.TheVariants.{Sink, Abort}
use Rattle.demangle_v0_tokens.specs.declared.output.Output.{Ghosts}
use Rattle.demangle_v0_parser.proofs.StepRules.{trace}
use Rattle.demangle_v0_parser.proofs.StepCases.{text_step, ends, after_error, tells, halts, alike}
use Rattle.demangle_symbol.proofs.Counts.{placed, integer_placed}
use Rattle.demangle_v0_parser.proofs.TypeSteps.{after_so, after_within, lifetime_so}
use Rattle.demangle_v0_grammar.proofs.TypeTraces.{says_all, lifetime_named, lifetime_wrong}
use Rattle.demangle_v0_grammar.proofs.TraceLemmas.{said_both}

module _ {V : Type 0} (output : Ghosts V) (b : List ℕ) (form : Form) where
  -- The lifetime of a reference.

  abbrev named_trace : Bool → ℕ → ℕ → Place → Trace
  named_trace q left n i = trace output b form (lifetime_before (print_if q "mut " type_inside)) left n i

  -- a lifetime without a name, or one that is not printed
  named_nothing : (q : Bool) (left n i j : ℕ) → Some (0, j) ≡ integer_at b i → named_trace q left n (Some i) ≡ with_looks (4 * (j - i + 1) ∷ []) (trace output b form (print_if q "mut " type_inside) left n (Some j))
  unfolding parse
  named_nothing q left n i j e = rw (sym e) refl

  lifetime_after : (q : Bool) (left n i j k : ℕ) → Some (k, j) ≡ integer_at b i → (k ≡ 0 → ⊥) → named_trace q left n (Some i) ≡ with_looks (4 * (j - i + 1) ∷ []) (trace output b form (lifetime k (print_str " " (print_if q "mut " type_inside))) left n (Some j))
  unfolding parse
  lifetime_after q left n i j k e z = rw (sym e, ne_eqb k 0 z) refl

  silent_so : (q : Bool) (left n j k : ℕ) (out : Bool) → out ≡ false → with_closed_bracket (of form out (parse (lifetime k (print_str " " (print_if q "mut " type_inside))) (context_at b form out left n) (Some j))) ≡ with_closed_bracket (of form out (parse (print_if q "mut " type_inside) (context_at b form out left n) (Some j)))
  unfolding parse
  silent_so q left n j k true s = absurd (false≢true (sym s))
  silent_so q left n j k false s = refl

  -- a lifetime that is printed
  spaced_so : (left n k j : ℕ) (p : Items) (out : Bool) → out ≡ true → (k ≡ 0 → ⊥)
      → of form out (parse (lifetime k (print_str " " p)) (context_at b form out left n) (Some j)) ≡ with_texts out (texts_of b form (spaced_lifetime n k j).0) (of form out (parse p (context_at b form out left n) (spaced_lifetime n k j).1))
  spaced_so left n k j p false s z = absurd (false≢true s)
  spaced_so left n k j p true s z = go (nat_le k n) refl
    where
      h : Trace
      h = of form true (parse p (context_at b form true left n) (Some j))

      space : (x : Place) → of form true (parse (print_str " " p) (context_at b form true left n) x) ≡ with_texts true (codes " " ∷ []) (of form true (parse p (context_at b form true left n) x))
      space = says_all form true (codes " " ∷ []) p (context_at b form true left n)

      go : (x : Bool) → nat_le k n ≡ x → of form true (parse (lifetime k (print_str " " p)) (context_at b form true left n) (Some j)) ≡ with_texts true (texts_of b form (spaced_lifetime n k j).0) (of form true (parse p (context_at b form true left n) (spaced_lifetime n k j).1))
      go true e = rw e (lifetime_named form b left n (print_str " " p) k j (ne_eqb k 0 z) e ∙ ap (with_texts true (codes "'" ∷ letter_of (n - k))) (space (Some j))
          ∙ ap (λ xs. record { events = xs; place = h.place; is_bracket_open = h.is_bracket_open }) (sym (said_both true (codes "'" ∷ letter_of (n - k)) (codes " " ∷ []) h.events)))
      go false e = rw e (lifetime_wrong form b left n (print_str " " p) k j (ne_eqb k 0 z) e ∙ ap (with_texts true (codes "'" ∷ codes "{invalid syntax}" ∷ [])) (space None))

  spaced_trace : (q : Bool) (left n i j k : ℕ) (s : Token) (x : Place) → Some (k, j) ≡ integer_at b i → (k ≡ 0 → ⊥) → output.is_printed ≡ true → (s, x) ≡ spaced_lifetime n k j
      → named_trace q left n (Some i) ≡ with_looks (4 * (j - i + 1) ∷ []) (with_texts output.is_printed (texts_of b form s) (trace output b form (print_if q "mut " type_inside) left n x))
  spaced_trace q left n i j k s x e z y g =
      lifetime_after q left n i j k e z ∙ ap (λ (h : Trace). with_looks (4 * (j - i + 1) ∷ []) (with_closed_bracket h)) (spaced_so left n k j (print_if q "mut " type_inside) output.is_printed y z)
      ∙ ap (λ (r : Token × Place). with_looks (4 * (j - i + 1) ∷ []) (with_texts output.is_printed (texts_of b form r.0) (trace output b form (print_if q "mut " type_inside) left n r.1))) (sym g)

-- the index of a lifetime was read
pub record Indexed {V : Type 0} (e : Env V) (t : Machine V) (i k j n : ℕ) : Type 0 where
  pub at : t.state.place ≡ Some i
  pub is : Some (k, j) ≡ integer_at e.symbol i
  pub within_budget : LooksWithin t.looks (4 * (j - i + 1) ∷ []) n
  pub no_pending_text : t.state.pending_text ≡ None
  pub fits : Fits continuation.«Type» t.state.depth_left t.state.lifetimes

module _ {V : Type 0} {e : Env V} where
  as_lifetime : {t u : Machine V} {r : Result Continuation StepError} (q : Bool) → PerformsRest e (lifetime_before (print_if q "mut " type_inside)) 8 2 2 t r u → PerformsAt e (lifetime_continuation q) t r u
  as_lifetime {t} true d = let s = t.state in alike (omega arith) (sym (lifetime_so e.output e.symbol e.form true s.in_value s.letter s.depth_left s.lifetimes s.place s.is_bracket_open)) (omega arith) (omega arith) d
  as_lifetime {t} false d = let s = t.state in alike (omega arith) (sym (lifetime_so e.output e.symbol e.form false s.in_value s.letter s.depth_left s.lifetimes s.place s.is_bracket_open)) (omega arith) (omega arith) d

  pub lifetime_unread : {t : Machine V} (q : Bool) → t.state.place ≡ None → t.state.pending_text ≡ None → PerformsAt e (lifetime_continuation q) t (Err (Abort fixed.AfterError)) t
  unfolding parse
  lifetime_unread q at k = as_lifetime q (after_error k (rw at refl) (omega arith))

  pub lifetime_stops : {t : Machine V} {n : ℕ} (q : Bool) (i : ℕ) → t.state.place ≡ Some i → None ≡ integer_at e.symbol i → LooksWithin t.looks (4 * (length e.symbol - i + 1) ∷ []) n → t.state.pending_text ≡ None → PerformsAt e (lifetime_continuation q) t (Err (Abort fixed.Invalid)) (record t { looks = n })
  unfolding parse
  lifetime_stops q i at r p k = as_lifetime q (ends fixed.Invalid (4 * (length e.symbol - i + 1) ∷ []) (omega arith) k (rw (at, sym r) refl) p (rw at (omega (arith, p.within))) (omega arith))

  short : {t : Machine V} {i k j n : ℕ} → Indexed e t i k j n → n ≤ t.looks + step_looks_bound e.symbol t.state.place
  short {t} {i} {k} {j} x = let p = placed (i + 1) e.symbol (integer_at e.symbol i) (integer_placed e.symbol i) k j (sym x.is) in rw x.at (omega (arith, x.within_budget.within, p.0, p.1))

  -- a lifetime without a name, or one that is not printed
  unsaid : {t : Machine V} {i k j n : ℕ} (q : Bool) → Indexed e t i k j n
      → named_trace e.output e.symbol e.form q t.state.depth_left t.state.lifetimes (Some i) ≡ with_looks (4 * (j - i + 1) ∷ []) (trace e.output e.symbol e.form (print_if q "mut " type_inside) t.state.depth_left t.state.lifetimes (Some j))
      → PerformsAt e (lifetime_continuation q) t (Ok (after_reference_lifetime q)) (record t { state = record t.state { place = Some j }; looks = n })
  unfolding then_frame
  unsaid {t} {i} {k} {j} q x o =
      let s = t.state in
      let w = after_within q in
      as_lifetime q (text_step (after_reference_lifetime q) (4 * (j - i + 1) ∷ []) [] (omega arith) None
      (ap (λ (z : Place). named_trace e.output e.symbol e.form q s.depth_left s.lifetimes z) x.at ∙ (o ∙ rw x.no_pending_text (ap (with_looks (4 * (j - i + 1) ∷ [])) (after_so e.output e.symbol e.form q s.in_value s.letter s.depth_left s.lifetimes (Some j) s.is_bracket_open)))) refl x.within_budget (omega arith) (short x)
      (omega (arith, w.light)) (omega arith) (omega (arith, w.low s.depth_left)) tt (w.fits s.depth_left s.lifetimes x.fits) (λ _. tt))

  pub lifetime_unnamed : {t : Machine V} {n : ℕ} (q : Bool) (i k j : ℕ) → Indexed e t i k j n → k ≡ 0 → PerformsAt e (lifetime_continuation q) t (Ok (after_reference_lifetime q)) (record t { state = record t.state { place = Some j }; looks = n })
  lifetime_unnamed {t} q i k j x z = unsaid q x (named_nothing e.output e.symbol e.form q t.state.depth_left t.state.lifetimes i j (rw z at x.is))

  pub lifetime_unheard : {t : Machine V} {n : ℕ} (q : Bool) (i k j : ℕ) → Indexed e t i k j n → (k ≡ 0 → ⊥) → e.output.is_printed ≡ false → PerformsAt e (lifetime_continuation q) t (Ok (after_reference_lifetime q)) (record t { state = record t.state { place = Some j }; looks = n })
  lifetime_unheard {t} q i k j x z m =
      let s = t.state in
      unsaid q x (lifetime_after e.output e.symbol e.form q s.depth_left s.lifetimes i j k x.is z ∙ ap (with_looks (4 * (j - i + 1) ∷ [])) (silent_so e.output e.symbol e.form q s.depth_left s.lifetimes j k e.output.is_printed m))

  -- a lifetime that is printed
  emitted : {t : Machine V} {i k j n : ℕ} (q : Bool) (y : Token) (x : Place) → Indexed e t i k j n → (k ≡ 0 → ⊥) → e.output.is_printed ≡ true → (y, x) ≡ spaced_lifetime t.state.lifetimes k j
      → named_trace e.output e.symbol e.form q t.state.depth_left t.state.lifetimes t.state.place ≡ with_looks (4 * (j - i + 1) ∷ []) (with_texts e.output.is_printed (texts_of e.symbol e.form y) (trace e.output e.symbol e.form (print_if q "mut " type_inside) t.state.depth_left t.state.lifetimes x))
  emitted {t} {i} {k} {j} q y x d z m g = let s = t.state in ap (λ (p : Place). named_trace e.output e.symbol e.form q s.depth_left s.lifetimes p) d.at ∙ spaced_trace e.output e.symbol e.form q s.depth_left s.lifetimes i j k y x d.is z m g

  pub lifetime_tells : {t : Machine V} {v : V} {n : ℕ} (q : Bool) (i k j : ℕ) (y : Token) (x : Place) → Indexed e t i k j n → (k ≡ 0 → ⊥) → e.output.is_printed ≡ true → (y, x) ≡ spaced_lifetime t.state.lifetimes k j
      → e.output.prints t.output (texts_of e.symbol e.form y) (Ok tt) v → e.output.ready v → PerformsAt e (lifetime_continuation q) t (Ok (after_reference_lifetime q)) (record t { state = record t.state { place = x }; output = v; looks = n })
  lifetime_tells {t} q i k j y x d z m g r ready =
      let s = t.state in
      let w = after_within q in
      as_lifetime q (tells (after_reference_lifetime q) (4 * (j - i + 1) ∷ []) (omega arith) y
      (emitted q y x d z m g ∙ ap (λ (h : Trace). with_looks (4 * (j - i + 1) ∷ []) (with_texts e.output.is_printed (texts_of e.symbol e.form y) h)) (after_so e.output e.symbol e.form q s.in_value s.letter s.depth_left s.lifetimes x s.is_bracket_open))
      r ready d.no_pending_text d.within_budget (short d) (omega (arith, w.light)) (w.low s.depth_left) (w.fits s.depth_left s.lifetimes d.fits))

  pub lifetime_refused : {t : Machine V} {s : State} {v : V} {n : ℕ} {f : SinkRefused} (q : Bool) (i k j : ℕ) (y : Token) (x : Place) → Indexed e t i k j n → (k ≡ 0 → ⊥) → e.output.is_printed ≡ true → (y, x) ≡ spaced_lifetime t.state.lifetimes k j
      → e.output.prints t.output (texts_of e.symbol e.form y) (Err f) v → PerformsAt e (lifetime_continuation q) t (Err Sink) (record t { state = s; output = v; looks = n })
  lifetime_refused {t} q i k j y x d z m g r =
      as_lifetime q (halts (4 * (j - i + 1) ∷ []) (omega arith) y (trace e.output e.symbol e.form (print_if q "mut " type_inside) t.state.depth_left t.state.lifetimes x) (emitted q y x d z m g) r (λ h. absurd (false≢true (sym h ∙ m))) d.within_budget (short d))
