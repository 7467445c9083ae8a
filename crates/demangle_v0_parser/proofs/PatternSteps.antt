-- The continuations of patterns.
use Rattle.std.specs.Prelude.{◌*◌, ◌<◌}
use Rattle.std.proofs.Common.{◌≡◌, ℕ, ◌+◌, ◌-◌, length, true, false, Option, Some, None, List, [], ◌∷◌, ◌++◌, Ok, Err, refl, arith, sym, ap, ◌∙◌}
use Prim.Native.Char.{code}
use Rattle.demangle_symbol.specs.Digits.{is_byte}
use Rattle.demangle_symbol.specs.Primitives.{some_or, byte_at}
use Rattle.demangle_v0_grammar.specs.Items.{Items, a_pattern, invalid, done, if_ok, child}
use Rattle.demangle_v0_grammar.specs.Traces.{Trace, of, with_looks, with_texts, context_at}
use Rattle.demangle_v0_tokens.specs.Texts.{text, found}
use Rattle.demangle_v0_grammar.specs.Table.{more}
use Rattle.demangle_v0_tokens.specs.Tags.{pattern_kinds, pattern_kind_of}
use Rattle.demangle_v0_grammar.specs.Reading.{parse}
use Rattle.demangle_v0_parser.specs.Steps.{Machine, Env, PerformsAt}
use Rattle.demangle_v0_parser.specs.Traces.{frame_of, frame_at, then_frame, trace_at, with_closed_bracket}
use Rattle.demangle_v0_parser.specs.Measure.{Fits}
use Rattle.demangle_v0_tokens.specs.declared.fixed_texts.FixedText.TheVariants as fixed
use Rattle.demangle_v0_parser.specs.declared.Continuation.TheVariants as continuation
use Rattle.demangle_v0_parser.specs.declared.frames.Frame.{Frame}
use Rattle.demangle_v0_parser.specs.declared.State.{State}
use Rattle.demangle_v0_parser.specs.declared.StepError.TheVariants.{Abort}
use Rattle.demangle_v0_tokens.specs.declared.tags.PatternKind.{PatternKind}
use Rattle.demangle_v0_tokens.specs.declared.tags.PatternKind.TheVariants as kind
use Rattle.demangle_v0_grammar.proofs.ListProgress.{pattern_element}
use Rattle.demangle_v0_tokens.proofs.TagRows.{row_found}
use Rattle.demangle_v0_grammar.proofs.ListTraces.{child_followed, more_failed, more_over, more_on}
use Rattle.demangle_v0_grammar.proofs.PathTraces.{pattern_missing, pattern_reads}
use Rattle.demangle_v0_parser.proofs.StepRules.{trace}
use Rattle.demangle_v0_parser.proofs.StepCases.{ends, text_step}
use Rattle.demangle_v0_grammar.proofs.UnitTraces.{raise_deep, raise_on}

abbrev further : Items
further = more " | " (child a_pattern false done) (if_ok done invalid)

-- after its tag
pattern_so : {V : Type 0} (e : Env V) (s : State) (i c j : ℕ) (p : Option PatternKind) → Some (c, j) ≡ byte_at e.symbol i → p ≡ found c pattern_kinds
    → trace_at e.symbol e.form e.output.is_printed continuation.Pattern s.in_value s.letter s.depth_left s.lifetimes (Some i) s.is_bracket_open ≡ with_looks (4 * (j - i + 1) ∷ []) (trace e.output e.symbol e.form (some_or invalid p pattern_kind_of) s.depth_left s.lifetimes (Some j))
unfolding trace_at
pattern_so e s i c j p o q =
    ap with_closed_bracket (pattern_reads e.form e.output.is_printed e.symbol s.depth_left s.lifetimes false i c j (sym o))
    ∙ ap (λ (x : Items). with_looks (4 * (j - i + 1) ∷ []) (trace e.output e.symbol e.form x s.depth_left s.lifetimes (Some j))) (row_found c invalid pattern_kind_of pattern_kinds ∙ ap (λ (p : Option PatternKind). some_or invalid p pattern_kind_of) (sym q))

module _ {V : Type 0} {e : Env V} where
  pub pattern_untagged : {t : Machine V} {n : ℕ} (i : ℕ) → t.state.place ≡ Some i → None ≡ byte_at e.symbol i → n ≡ t.looks + 1 → t.state.pending_text ≡ None → PerformsAt e continuation.Pattern t (Err (Abort fixed.Invalid)) (record t { looks = n })
  unfolding trace_at
  pattern_untagged {t} i at o l k =
      let a = t.state in
      ends fixed.Invalid (4 * (length e.symbol - i + 1) ∷ []) (omega arith) k (rw at (ap with_closed_bracket (pattern_missing e.form e.output.is_printed e.symbol a.depth_left a.lifetimes false i (sym o)))) (record { grows = omega (arith, l); within = omega (arith, l) }) (rw at (omega (arith, l))) (omega arith)

  pub pattern_wrong : {t : Machine V} {n : ℕ} (i c j : ℕ) → t.state.place ≡ Some i → Some (c, j) ≡ byte_at e.symbol i → None ≡ found c pattern_kinds → n ≡ t.looks + 1 → t.state.pending_text ≡ None → PerformsAt e continuation.Pattern t (Err (Abort fixed.Invalid)) (record t { looks = n })
  unfolding parse
  pattern_wrong {t} i c j at o q l k = ends fixed.Invalid (4 * (j - i + 1) ∷ []) (omega arith) k (rw at (pattern_so e t.state i c j None o q)) (record { grows = omega (arith, l); within = omega (arith, l) }) (rw at (omega (arith, l))) (omega arith)

  pub range_continues : {t : Machine V} {stack : List Frame} {n : ℕ} (i c j : ℕ) → t.state.place ≡ Some i → Some (c, j) ≡ byte_at e.symbol i → Some kind.Range ≡ found c pattern_kinds → n ≡ t.looks + 1 → t.state.pending_text ≡ None → Fits continuation.Pattern t.state.depth_left t.state.lifetimes → stack ≡ t.stack ++ frame_at continuation.RangeEnd t.state ∷ []
      → PerformsAt e continuation.Pattern t (Ok continuation.Constant) (record t { state = record t.state { in_value = false; place = Some j }; stack = stack; looks = n })
  unfolding parse then_frame trace_at
  range_continues {t} i c j at o q l k f r =
      text_step continuation.Constant (4 * (j - i + 1) ∷ []) [] (omega arith) (Some (frame_at continuation.RangeEnd t.state)) (rw (at, k) (pattern_so e t.state i c j (Some kind.Range) o q)) r (record { grows = omega (arith, l); within = omega (arith, l) }) (omega arith) (rw at (omega (arith, l))) (omega arith) (omega arith) (omega arith) f f (λ _. refl)

  pub not_null : {t : Machine V} {n : ℕ} (i c j : ℕ) → t.state.place ≡ Some i → Some (c, j) ≡ byte_at e.symbol i → Some kind.NotNull ≡ found c pattern_kinds → n ≡ t.looks + 1 → PerformsAt e continuation.Pattern t (Ok continuation.End) (record t { state = record t.state { place = Some j; is_bracket_open = false; pending_text = Some fixed.NotNull }; looks = n })
  unfolding parse then_frame trace_at
  not_null {t} i c j at o q l =
      text_step continuation.End (4 * (j - i + 1) ∷ []) [] (omega arith) None (rw at (pattern_so e t.state i c j (Some kind.NotNull) o q)) refl (record { grows = omega (arith, l); within = omega (arith, l) }) (omega arith) (rw at (omega (arith, l))) (omega arith) (omega arith) (omega arith) tt tt (λ _. tt)

  -- Or-patterns.

  pub or_too_deep : {t : Machine V} {n : ℕ} (i c j : ℕ) → t.state.place ≡ Some i → Some (c, j) ≡ byte_at e.symbol i → Some kind.Or ≡ found c pattern_kinds → t.state.depth_left ≡ 0 → n ≡ t.looks + 1 → t.state.pending_text ≡ None
      → PerformsAt e continuation.Pattern t (Err (Abort fixed.Recursion)) (record t { state = record t.state { place = Some j }; looks = n })
  or_too_deep {t} i c j at o q z l k =
      ends fixed.Recursion (4 * (j - i + 1) ∷ []) (omega arith) k
      (rw at (pattern_so e t.state i c j (Some kind.Or) o q ∙ ap (λ x. with_looks (4 * (j - i + 1) ∷ []) (with_closed_bracket (of e.form e.output.is_printed x))) (raise_deep e.symbol e.form e.output.is_printed t.state.depth_left t.state.lifetimes (child a_pattern false further) (Some j) z))) (record { grows = omega (arith, l); within = omega (arith, l) }) (rw at (omega (arith, l))) (omega arith)

  pub or_continues : {t : Machine V} {stack : List Frame} {n : ℕ} (i c j : ℕ) → t.state.place ≡ Some i → Some (c, j) ≡ byte_at e.symbol i → Some kind.Or ≡ found c pattern_kinds → 0 < t.state.depth_left → n ≡ t.looks + 1 → t.state.pending_text ≡ None → Fits continuation.Pattern t.state.depth_left t.state.lifetimes → stack ≡ t.stack ++ frame_of continuation.NextPattern t.state.in_value t.state.letter (t.state.depth_left - 1) t.state.lifetimes ∷ []
      → PerformsAt e continuation.Pattern t (Ok continuation.Pattern) (record t { state = record t.state { place = Some j; depth_left = t.state.depth_left - 1 }; stack = stack; looks = n })
  unfolding parse then_frame trace_at
  or_continues {t} i c j at o q z l k f r =
      text_step continuation.Pattern (4 * (j - i + 1) ∷ []) [] (omega arith) (Some (frame_of continuation.NextPattern t.state.in_value t.state.letter (t.state.depth_left - 1) t.state.lifetimes))
      (rw (at, k) (pattern_so e t.state i c j (Some kind.Or) o q ∙ ap (λ x. with_looks (4 * (j - i + 1) ∷ []) (with_closed_bracket (of e.form e.output.is_printed x))) (raise_on e.symbol e.form e.output.is_printed t.state.depth_left t.state.lifetimes (child a_pattern false further) (Some j) z)))
      r (record { grows = omega (arith, l); within = omega (arith, l) }) (omega arith) (rw at (omega (arith, l))) (omega arith) (omega (arith, z)) (omega (arith, z)) (omega (arith, f)) (omega (arith, f)) (λ _. refl)

  pub or_failed : {t : Machine V} → t.state.place ≡ None → t.state.pending_text ≡ None → PerformsAt e continuation.NextPattern t (Err (Abort fixed.Invalid)) t
  unfolding parse trace_at
  or_failed {t} at k =
      ends fixed.Invalid [] (omega arith) k (rw at (ap with_closed_bracket (more_failed e.form e.output.is_printed (context_at e.symbol e.form e.output.is_printed t.state.depth_left t.state.lifetimes) " | " (child a_pattern false done) (if_ok done invalid))))
      (record { grows = omega arith; within = omega arith }) (omega arith) (omega arith)

  pub or_over : {t : Machine V} {n : ℕ} (i : ℕ) → t.state.place ≡ Some i → true ≡ is_byte e.symbol i (code "E") → n ≡ t.looks + 1 → t.state.pending_text ≡ None → PerformsAt e continuation.NextPattern t (Ok continuation.End) (record t { state = record t.state { place = Some (i + 1); is_bracket_open = false }; looks = n })
  unfolding parse then_frame trace_at
  or_over {t} i at o l k =
      text_step continuation.End (1 ∷ []) [] (omega arith) None (rw (at, k) (ap with_closed_bracket (more_over e.form e.output.is_printed (context_at e.symbol e.form e.output.is_printed t.state.depth_left t.state.lifetimes) " | " (child a_pattern false done) (if_ok done invalid) i (sym o)))) refl (record { grows = omega (arith, l); within = omega (arith, l) }) (omega arith) (rw at (omega (arith, l))) (omega arith) (omega arith) (omega arith) tt tt (λ _. tt)

  pub or_on : {t : Machine V} {stack : List Frame} {n : ℕ} (i : ℕ) → t.state.place ≡ Some i → false ≡ is_byte e.symbol i (code "E") → n ≡ t.looks + 1 → Fits continuation.NextPattern t.state.depth_left t.state.lifetimes → stack ≡ t.stack ++ frame_at continuation.NextPattern t.state ∷ []
      → PerformsAt e continuation.NextPattern t (Ok continuation.Pattern) (record t { state = record t.state { pending_text = Some fixed.Or }; stack = stack; looks = n })
  unfolding then_frame trace_at
  or_on {t} i at o l f r =
      let a = t.state in
      let s = context_at e.symbol e.form e.output.is_printed a.depth_left a.lifetimes in
      text_step continuation.Pattern (1 ∷ []) [] (omega arith) (Some (frame_at continuation.NextPattern a))
      (rw at (ap with_closed_bracket (more_on e.form e.output.is_printed e.symbol a.depth_left a.lifetimes " | " (child a_pattern false done) (if_ok done invalid) i (pattern_element e.symbol e.form e.output.is_printed a.depth_left a.lifetimes (omega (arith, f))) (sym o))
      ∙ ap (λ (h : Trace). with_looks (1 ∷ []) (with_texts e.output.is_printed (text fixed.Or ∷ []) (with_closed_bracket h))) (child_followed e.form e.output.is_printed a_pattern false s (Some i) (λ j. of e.form e.output.is_printed (parse further s j)))))
      r (record { grows = omega (arith, l); within = omega (arith, l) }) (omega arith) (rw at (omega (arith, l))) (omega arith) (omega arith) (omega arith) f f (λ _. refl)
