-- The continuations of variants, and of their fields.
use Rattle.std.specs.Prelude.{◌*◌, if◌then◌else◌}
use Rattle.std.proofs.Common.{◌≡◌, ℕ, ◌+◌, ◌-◌, ◌≤◌, length, Bool, true, false, Option, Some, None, List, [], ◌∷◌, Result, Ok, Err, refl, arith, sym, ap, ◌∙◌}
use Rattle.demangle_symbol.specs.Primitives.{some_or, byte_at}
use Rattle.demangle_v0_grammar.specs.Items.{Items, invalid, done}
use Rattle.demangle_v0_grammar.specs.Traces.{with_looks}
use Rattle.demangle_v0_tokens.specs.Texts.{found}
use Rattle.demangle_v0_grammar.specs.Table.{print_str, list, constant_inside, field}
use Rattle.demangle_v0_tokens.specs.Tags.{variant_kinds, variant_of, closes}
use Rattle.demangle_v0_grammar.specs.Reading.{parse}
use Rattle.demangle_v0_parser.specs.Steps.{Machine, Env, PerformsRest, PerformsAt, step_looks_bound}
use Rattle.demangle_v0_parser.specs.Traces.{trace_at, with_closed_bracket}
use Rattle.demangle_v0_parser.specs.Measure.{Fits}
use Rattle.demangle_v0_tokens.specs.declared.fixed_texts.FixedText.{FixedText}
use Rattle.demangle_v0_tokens.specs.declared.fixed_texts.FixedText.TheVariants as fixed
use Rattle.demangle_v0_parser.specs.declared.Continuation.{Continuation}
use Rattle.demangle_v0_parser.specs.declared.Continuation.TheVariants as continuation
use Rattle.demangle_v0_parser.specs.declared.frames.Frame.{Frame}
use Rattle.demangle_v0_parser.specs.declared.State.{State}
use Rattle.demangle_v0_parser.specs.declared.StepError.{StepError}
use Rattle.demangle_v0_parser.specs.declared.StepError.TheVariants.{Abort}
use Rattle.demangle_v0_tokens.specs.declared.tags.VariantKind.{VariantKind}
use Rattle.demangle_v0_tokens.specs.declared.tags.VariantKind.TheVariants as kind
use Rattle.demangle_v0_grammar.proofs.ConstantTraces.{variant_failed, variant_missing, variant_reads}
use Rattle.demangle_v0_tokens.proofs.TagRows.{row_found}
use Rattle.demangle_v0_parser.proofs.StepRules.{trace}
use Rattle.demangle_v0_parser.proofs.TaggedConstantSteps.{Braced, braced}
use Rattle.demangle_v0_parser.proofs.StepCases.{after_few, ends, marks, after_error}

-- the items after the name of a field
abbrev pub after_field : Items
after_field = print_str ": " constant_inside

-- after its tag
variant_so : {V : Type 0} (e : Env V) (s : State) (i c j : ℕ) (p : Option VariantKind) → Some (c, j) ≡ byte_at e.symbol i → p ≡ found c variant_kinds
    → trace_at e.symbol e.form e.output.is_printed continuation.Variant s.in_value s.letter s.depth_left s.lifetimes (Some i) s.is_bracket_open ≡ with_looks (4 * (j - i + 1) ∷ []) (trace e.output e.symbol e.form (some_or invalid p (variant_of s.in_value)) s.depth_left s.lifetimes (Some j))
unfolding trace_at
variant_so e s i c j p o q =
    ap with_closed_bracket (variant_reads e.form e.output.is_printed e.symbol s.depth_left s.lifetimes (closes s.in_value) i c j (sym o))
    ∙ ap (λ (x : Items). with_looks (4 * (j - i + 1) ∷ []) (trace e.output e.symbol e.form x s.depth_left s.lifetimes (Some j))) (row_found c invalid (variant_of s.in_value) variant_kinds ∙ ap (λ (p : Option VariantKind). some_or invalid p (variant_of s.in_value)) (sym q))

-- the fields are read from this continuation on
abbrev DidHold : {V : Type 0} → Env V → VariantKind → Continuation → FixedText → Type 0
DidHold {V = V} e k p m = (t : Machine V) (s : State) (stack : List Frame) → Fits continuation.Variant t.state.depth_left t.state.lifetimes → Braced (λ _. Some m) t.state t.stack s stack → PerformsRest e (variant_of t.state.in_value k) 3 5 3 t (Ok p) (record t { state = s; stack = stack })

module _ {V : Type 0} {e : Env V} where
  pub variant_unread : {t : Machine V} → t.state.place ≡ None → t.state.pending_text ≡ None → PerformsAt e continuation.Variant t (Err (Abort fixed.AfterError)) t
  unfolding trace_at
  variant_unread {t} at k = let a = t.state in after_error k (rw at (ap with_closed_bracket (variant_failed e.form e.output.is_printed e.symbol a.depth_left a.lifetimes (closes a.in_value)))) (omega arith)

  pub variant_untagged : {t : Machine V} {n : ℕ} (i : ℕ) → t.state.place ≡ Some i → None ≡ byte_at e.symbol i → n ≡ t.looks + 1 → t.state.pending_text ≡ None → PerformsAt e continuation.Variant t (Err (Abort fixed.Invalid)) (record t { looks = n })
  unfolding trace_at
  variant_untagged {t} i at o l k =
      let a = t.state in
      ends fixed.Invalid (4 * (length e.symbol - i + 1) ∷ []) (omega arith) k (rw at (ap with_closed_bracket (variant_missing e.form e.output.is_printed e.symbol a.depth_left a.lifetimes (closes a.in_value) i (sym o)))) (record { grows = omega (arith, l); within = omega (arith, l) }) (rw at (omega (arith, l))) (omega arith)

  pub variant_wrong : {t : Machine V} {n : ℕ} (i c j : ℕ) → t.state.place ≡ Some i → Some (c, j) ≡ byte_at e.symbol i → None ≡ found c variant_kinds → n ≡ t.looks + 1 → t.state.pending_text ≡ None → PerformsAt e continuation.Variant t (Err (Abort fixed.Invalid)) (record t { looks = n })
  unfolding parse
  variant_wrong {t} i c j at o q l k =
      ends fixed.Invalid (4 * (j - i + 1) ∷ []) (omega arith) k (rw at (variant_so e t.state i c j None o q)) (record { grows = omega (arith, l); within = omega (arith, l) }) (rw at (omega (arith, l))) (omega arith)

  pub variant_as : {t u : Machine V} {r : Result Continuation StepError} {n : ℕ} (i c j : ℕ) (k : VariantKind) → t.state.place ≡ Some i → Some (c, j) ≡ byte_at e.symbol i → Some k ≡ found c variant_kinds → n ≡ t.looks + 1 → u.looks ≤ t.looks + step_looks_bound e.symbol t.state.place
      → PerformsRest e (variant_of t.state.in_value k) 3 5 3 (record t { state = record t.state { place = Some j }; looks = n }) r u → PerformsAt e continuation.Variant t r u
  variant_as {t} i c j k at o q l short d =
      after_few (4 * (j - i + 1) ∷ []) (omega arith) (rw at (variant_so e t.state i c j (Some k) o q)) (record { grows = omega (arith, l); within = omega (arith, l) }) short (omega arith) (omega arith) d

  pub unit_ends : {t : Machine V} {s : State} (v : Bool) → t.state.in_value ≡ v → s ≡ record t.state { is_bracket_open = false; pending_text = if v then None else Some fixed.CloseBrace } → PerformsRest e (variant_of t.state.in_value kind.Unit) 3 5 3 t (Ok continuation.End) (record t { state = s })
  unfolding parse trace_at
  unit_ends true y o = rw o (marks continuation.End (rw y refl) (omega arith) (omega arith) tt)
  unit_ends false y o = rw o (marks continuation.End (rw y refl) (omega arith) (omega arith) tt)

  -- The fields of a variant.

  pub tuple_opens : DidHold e kind.Tuple continuation.FirstVariantConstant fixed.OpenParen
  unfolding parse trace_at
  tuple_opens t s stack f r = braced continuation.FirstVariantConstant (list ", " constant_inside (print_str ")" done)) (λ _. Some fixed.OpenParen) (λ v. variant_of v kind.Tuple) refl refl (tt, (tt, tt)) (λ v c left n i o. refl) (omega arith) (omega arith) (λ left. omega arith) f f r

  pub fields_open : DidHold e kind.Fields continuation.FirstField fixed.OpenStruct
  unfolding parse trace_at
  fields_open t s stack f r = braced continuation.FirstField (list ", " field (print_str " }" done)) (λ _. Some fixed.OpenStruct) (λ v. variant_of v kind.Fields) refl refl (tt, (tt, tt)) (λ v c left n i o. refl) (omega arith) (omega arith) (λ left. omega arith) f f r
