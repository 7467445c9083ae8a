-- Constants by their tags.
use Rattle.std.specs.Prelude.{◌*◌, ◌<◌, if◌then◌else◌}
use Rattle.std.proofs.Common.{◌≡◌, ℕ, ◌+◌, ◌-◌, ◌≤◌, length, Bool, true, false, Option, Some, None, List, [], ◌∷◌, ◌++◌, Result, Ok, Err, refl, arith, sym, ap, ◌∙◌}
use Prim.Native.Char.{code}
use Rattle.demangle_symbol.specs.Digits.{is_byte}
use Rattle.demangle_symbol.specs.Primitives.{some_or, byte_at}
use Rattle.demangle_v0_grammar.specs.Items.{Items, invalid, done, unit}
use Rattle.demangle_v0_grammar.specs.Traces.{Trace, and_then, with_texts, context_at}
use Rattle.demangle_v0_tokens.specs.Texts.{found}
use Rattle.demangle_v0_grammar.specs.Table.{print_str, list, tuple, string, constant, constant_inside}
use Rattle.demangle_v0_tokens.specs.Tags.{constant_kinds, constant_of}
use Rattle.demangle_v0_grammar.specs.Reading.{parse}
use Rattle.demangle_v0_parser.specs.Productions.{brace_after, shared_constant, variant_constant}
use Rattle.demangle_v0_parser.specs.Traces.{pending_texts, frame_of, frame_at, then_frame, trace_at, with_closed_bracket, pushed_on}
use Rattle.demangle_v0_parser.specs.Steps.{Machine, Env, Performs, PerformsRest, PerformsAt, part, step_looks_bound}
use Rattle.demangle_v0_parser.specs.Measure.{weight_left, height_at, Fits}
use Rattle.demangle_v0_tokens.specs.declared.fixed_texts.FixedText.{FixedText}
use Rattle.demangle_v0_tokens.specs.declared.fixed_texts.FixedText.TheVariants as fixed
use Rattle.demangle_v0_parser.specs.declared.Continuation.{Continuation}
use Rattle.demangle_v0_parser.specs.declared.Continuation.TheVariants as continuation
use Rattle.demangle_v0_parser.specs.declared.frames.Frame.{Frame}
use Rattle.demangle_v0_parser.specs.declared.State.{State}
use Rattle.demangle_v0_parser.specs.declared.StepError.{StepError}
use Rattle.demangle_v0_parser.specs.declared.StepError.TheVariants.{Abort}
use Rattle.demangle_v0_tokens.specs.declared.tags.ConstantKind.{ConstantKind}
use Rattle.demangle_v0_tokens.specs.declared.tags.ConstantKind.TheVariants as kind
use Rattle.demangle_v0_grammar.proofs.ConstantTraces.{constant_missing, constant_deep, constant_reads, minus_reads, plus_reads, text_reads, reference_reads}
use Rattle.demangle_v0_grammar.proofs.SequencedItems.{extended, IsExtended, extended_reads}
use Rattle.demangle_v0_tokens.proofs.TagRows.{row_found}
use Rattle.demangle_v0_parser.proofs.ConstantSteps.{items_of, Inside}
use Rattle.demangle_v0_parser.proofs.StepCases.{alike, following, after_few, ends, text_step, moves}

constant_so : {V : Type 0} (e : Env V) (s : State) (c : ℕ) (o : Option ConstantKind) → o ≡ found c constant_kinds → items_of e (constant s.in_value c) s ≡ items_of e (some_or invalid o (constant_of s.in_value c)) s
constant_so e s c o q =
    ap (λ (p : Items). items_of e p s) (row_found c invalid (constant_of s.in_value c) constant_kinds)
    ∙ ap (λ (o : Option ConstantKind). items_of e (some_or invalid o (constant_of s.in_value c)) s) (sym q)

abbrev with_braces : Bool → Items → Items
with_braces v q = if v then q else print_str "{" (extended (print_str "}" done) q)

-- the state and the stack after a pending text; outside value position, a closing brace follows
abbrev pub Braced : (Bool → Option FixedText) → State → List Frame → State → List Frame → Type 0
Braced g s stack new now = (new ≡ record s { pending_text = g s.in_value }) × (now ≡ pushed_on stack (brace_after s))

abbrev open_text : Bool → Option FixedText
open_text v = if v then None else Some fixed.OpenBrace

-- a constant that is more than a literal continues at this continuation
abbrev DidBraced : {V : Type 0} → Env V → ConstantKind → Continuation → Type 0
DidBraced {V = V} e k p = (t : Machine V) (s : State) (stack : List Frame) → Fits continuation.Constant t.state.depth_left t.state.lifetimes → Braced open_text t.state t.stack s stack
    → Performs e t (part 6 (items_of e (constant_of t.state.in_value 0 k) t.state) 6 (8 * t.state.depth_left + 9)) (Ok p) (record t { state = s; stack = stack })

module _ {V : Type 0} {e : Env V} where
  -- By its tag.

  pub constant_wrong : {t : Machine V} (c : ℕ) → None ≡ found c constant_kinds → t.state.pending_text ≡ None → PerformsRest e (constant t.state.in_value c) 6 6 9 t (Err (Abort fixed.Invalid)) t
  unfolding parse
  constant_wrong {t} c o k = ends fixed.Invalid [] (omega arith) k (constant_so e t.state c None o) (record { grows = omega arith; within = omega arith }) (omega arith) (omega arith)

  pub constant_as : {t u : Machine V} {r : Result Continuation StepError} {words weight high : ℕ} (c : ℕ) (k : ConstantKind) → Some k ≡ found c constant_kinds → words ≤ 6 → weight ≤ 6 → high ≤ 8 * t.state.depth_left + 9
      → Performs e t (part words (items_of e (constant_of t.state.in_value c k) t.state) weight high) r u → PerformsRest e (constant t.state.in_value c) 6 6 9 t r u
  constant_as {t} c k o primitive_count w x d = alike primitive_count (constant_so e t.state c (Some k) o) w x d

  -- Braces: these items at the continuation, and a closing brace after them outside value position.
  pub braced : {t : Machine V} {s : State} {stack : List Frame} {words weight high : ℕ} (p : Continuation) (q : Items) (g : Bool → Option FixedText) (x : Bool → Items) → items_of e (x true) t.state ≡ with_texts e.output.is_printed (pending_texts (g true)) (items_of e q t.state)
      → items_of e (x false) t.state ≡ with_texts e.output.is_printed (pending_texts (g false)) (items_of e (extended (print_str "}" done) q) t.state) → IsExtended q → Inside e p q → weight_left p + 3 ≤ weight → 8 * t.state.depth_left + 3 ≤ high → ((left : ℕ) → height_at p left ≤ 8 * left + 2)
      → Fits p t.state.depth_left t.state.lifetimes → Fits continuation.CloseBrace t.state.depth_left t.state.lifetimes → Braced g t.state t.stack s stack → Performs e t (part words (items_of e (x t.state.in_value) t.state) weight high) (Ok p) (record t { state = s; stack = stack })
  unfolding then_frame trace_at parse
  braced {t} {s} {stack} {words} {weight} {high} p q g x inner outer y i w l h f k r = go t.state.in_value refl
    where
      a : State
      a = t.state

      go : (v : Bool) → t.state.in_value ≡ v → Performs e t (part words (items_of e (x v) t.state) weight high) (Ok p) (record t { state = s; stack = stack })
      go true j =
          rw r.0 (text_step p [] [] (omega arith) None (rw j (inner ∙ ap (with_texts e.output.is_printed (pending_texts (g true))) (sym (i true a.letter a.depth_left a.lifetimes a.place a.is_bracket_open)))) (rw j at r.1)
          (record { grows = omega arith; within = omega arith }) (omega arith) (omega arith) (omega (arith, w)) (omega arith) (omega (arith, l, h a.depth_left)) tt f (λ _. tt))
      go false j =
          rw r.0 (text_step p [] [] (omega arith) (Some (frame_of continuation.CloseBrace false a.letter a.depth_left a.lifetimes))
          (rw j (outer ∙ (ap (λ (h : Trace). with_texts e.output.is_printed (pending_texts (g false)) (with_closed_bracket h)) (extended_reads e.form e.output.is_printed (print_str "}" done) (context_at e.symbol e.form e.output.is_printed a.depth_left a.lifetimes) q y a.place)
          ∙ ap (λ (h : Trace). with_texts e.output.is_printed (pending_texts (g false)) (and_then h (λ j o. trace_at e.symbol e.form e.output.is_printed continuation.CloseBrace false a.letter a.depth_left a.lifetimes j o))) (sym (i false a.letter a.depth_left a.lifetimes a.place a.is_bracket_open)))))
          (rw j at r.1) (record { grows = omega arith; within = omega arith }) (omega arith) (omega arith) (omega (arith, w)) (omega (arith, l)) (omega (arith, l, h a.depth_left)) k f (λ _. refl))

  pub text_braced : DidBraced e kind.Text continuation.StrConstant
  unfolding parse trace_at
  text_braced t s stack f r = braced continuation.StrConstant (print_str "*" (unit string done)) open_text (λ v. constant_of v 0 kind.Text) refl refl tt (λ v c left n i o. refl) (omega arith) (omega arith) (λ left. omega arith) f f r

  pub mutable_braced : DidBraced e kind.Mut continuation.MutReferenceConstant
  unfolding parse trace_at
  mutable_braced t s stack f r = braced continuation.MutReferenceConstant (print_str "&" (print_str "mut " constant_inside)) open_text (λ v. constant_of v 0 kind.Mut) refl refl tt (λ v c left n i o. refl) (omega arith) (omega arith) (λ left. omega arith) f f r

  pub array_braced : DidBraced e kind.Array continuation.ArrayConstant
  unfolding parse trace_at
  array_braced t s stack f r = braced continuation.ArrayConstant (print_str "[" (list ", " constant_inside (print_str "]" done))) open_text (λ v. constant_of v 0 kind.Array) refl refl (tt, (tt, tt)) (λ v c left n i o. refl) (omega arith) (omega arith) (λ left. omega arith) f f r

  pub tuple_braced : DidBraced e kind.Tuple continuation.TupleConstant
  unfolding parse trace_at
  tuple_braced t s stack f r = braced continuation.TupleConstant (print_str "(" (tuple constant_inside (print_str ")" done))) open_text (λ v. constant_of v 0 kind.Tuple) refl refl (tt, ((tt, (tt, tt)), tt)) (λ v c left n i o. refl) (omega arith) (omega arith) (λ left. omega arith) f f r

  referred_braced : {t : Machine V} {s : State} {stack : List Frame} {words : ℕ} → Fits continuation.Constant t.state.depth_left t.state.lifetimes → Braced open_text t.state t.stack s stack
      → Performs e t (part words (items_of e (with_braces t.state.in_value (print_str "&" constant_inside)) t.state) 6 (8 * t.state.depth_left + 9)) (Ok continuation.ReferenceConstant) (record t { state = s; stack = stack })
  unfolding parse trace_at
  referred_braced f r = braced continuation.ReferenceConstant (print_str "&" constant_inside) open_text (λ v. with_braces v (print_str "&" constant_inside)) refl refl tt (λ v c left n i o. refl) (omega arith) (omega arith) (λ left. omega arith) f f r

  -- Strings and references.

  pub shared_failed : {t : Machine V} {s : State} {stack : List Frame} → t.state.place ≡ None → Fits continuation.Constant t.state.depth_left t.state.lifetimes → Braced open_text t.state t.stack s stack
      → PerformsRest e (shared_constant t.state.in_value) 6 6 9 t (Ok continuation.ReferenceConstant) (record t { state = s; stack = stack })
  unfolding parse
  shared_failed at f r = alike {words' = 6} (omega arith) (rw at refl) (omega arith) (omega arith) (referred_braced f r)

  pub shared_continues : {t : Machine V} {s : State} {stack : List Frame} {n : ℕ} (i : ℕ) → t.state.place ≡ Some i → false ≡ is_byte e.symbol i (code "e") → n ≡ t.looks + 1 → Fits continuation.Constant t.state.depth_left t.state.lifetimes → Braced open_text t.state t.stack s stack
      → PerformsRest e (shared_constant t.state.in_value) 6 6 9 t (Ok continuation.ReferenceConstant) (record t { state = s; stack = stack; looks = n })
  shared_continues {t} i at c l f r =
      let a = t.state in
      after_few {words' = 0} {s = a} (1 ∷ []) (omega arith)
      (rw at (ap with_closed_bracket (reference_reads e.form e.output.is_printed e.symbol a.depth_left a.lifetimes a.in_value i (sym c))))
      (record { grows = omega (arith, l); within = omega (arith, l) }) (rw at (omega (arith, l))) (omega arith) (omega arith) (referred_braced f r)

  pub shared_text : {t : Machine V} {n : ℕ} (i : ℕ) → t.state.place ≡ Some i → true ≡ is_byte e.symbol i (code "e") → n ≡ t.looks + 1 → t.state.pending_text ≡ None → Fits continuation.Constant t.state.depth_left t.state.lifetimes
      → PerformsRest e (shared_constant t.state.in_value) 6 6 9 t (Ok continuation.StrLiteral) (record t { state = record t.state { place = Some (i + 1) }; looks = n })
  unfolding then_frame trace_at
  shared_text {t} i at o l k f =
      let a = t.state in
      moves continuation.StrLiteral (1 ∷ []) (omega arith) (rw (at, k) (ap with_closed_bracket (text_reads e.form e.output.is_printed e.symbol a.depth_left a.lifetimes a.in_value i (sym o))))
      (record { grows = omega (arith, l); within = omega (arith, l) }) (rw at (omega (arith, l))) (omega arith) (omega arith) f

  -- Numbers.

  pub number_reads : {t u : Machine V} {r : Result Continuation StepError} (c : ℕ) → PerformsAt e continuation.Number (record t { state = record t.state { letter = c } }) r u
      → Performs e t (part 4 (items_of e (constant_of t.state.in_value c kind.Unsigned) t.state) 1 (8 * t.state.depth_left + 2)) r u
  unfolding trace_at
  number_reads c d = following [] (omega arith) refl (record { grows = omega arith; within = omega arith }) (omega arith) (omega arith) (omega arith) d

  pub signed_minus : {t : Machine V} {n : ℕ} (c i : ℕ) → t.state.place ≡ Some i → true ≡ is_byte e.symbol i (code "n") → n ≡ t.looks + 1 → Fits continuation.Constant t.state.depth_left t.state.lifetimes
      → PerformsRest e (constant_of t.state.in_value c kind.Signed) 6 6 9 t (Ok continuation.Number) (record t { state = record t.state { letter = c; place = Some (i + 1); pending_text = Some fixed.Minus }; looks = n })
  unfolding then_frame trace_at
  signed_minus {t} c i at o l f =
      let a = t.state in
      text_step continuation.Number (1 ∷ []) [] (omega arith) None (rw at (ap with_closed_bracket (minus_reads e.form e.output.is_printed e.symbol a.depth_left a.lifetimes c i (sym o)))) refl
      (record { grows = omega (arith, l); within = omega (arith, l) }) (omega arith) (rw at (omega (arith, l))) (omega arith) (omega arith) (omega arith) tt f (λ _. tt)

  pub signed_plus : {t u : Machine V} {r : Result Continuation StepError} {n : ℕ} (c i : ℕ) → t.state.place ≡ Some i → false ≡ is_byte e.symbol i (code "n") → n ≡ t.looks + 1 → u.looks ≤ t.looks + step_looks_bound e.symbol t.state.place
      → PerformsAt e continuation.Number (record t { state = record t.state { letter = c }; looks = n }) r u → PerformsRest e (constant_of t.state.in_value c kind.Signed) 6 6 9 t r u
  unfolding trace_at
  signed_plus {t} c i at o l short d =
      let a = t.state in
      after_few (1 ∷ []) (omega arith) (rw at (ap with_closed_bracket (plus_reads e.form e.output.is_printed e.symbol a.depth_left a.lifetimes c i (sym o)))) (record { grows = omega (arith, l); within = omega (arith, l) }) short (omega arith) (omega arith) (rw at at d)

  -- A variant's path.

  pub variant_continues : {t : Machine V} {s : State} {stack : List Frame} (v : Bool) → t.state.in_value ≡ v → t.state.pending_text ≡ None → Fits continuation.Constant t.state.depth_left t.state.lifetimes
      → s ≡ record t.state { in_value = true; pending_text = if v then None else Some fixed.OpenBrace } → stack ≡ t.stack ++ frame_at continuation.Variant t.state ∷ []
      → PerformsRest e (variant_constant t.state.in_value) 6 6 9 t (Ok continuation.Path) (record t { state = s; stack = stack })
  unfolding parse then_frame trace_at
  variant_continues {t} true y k f o r =
      rw o (text_step continuation.Path [] [] (omega arith) (Some (frame_at continuation.Variant t.state)) (rw y refl) r (record { grows = omega arith; within = omega arith }) (omega arith) (omega arith) (omega arith) (omega arith) (omega arith) f f (λ _. refl))
  variant_continues {t} false y k f o r =
      rw o (text_step continuation.Path [] [] (omega arith) (Some (frame_at continuation.Variant t.state)) (rw y refl) r (record { grows = omega arith; within = omega arith }) (omega arith) (omega arith) (omega arith) (omega arith) (omega arith) f f (λ _. refl))

  -- A constant.

  pub constant_untagged : {t : Machine V} {n : ℕ} (i : ℕ) → t.state.place ≡ Some i → None ≡ byte_at e.symbol i → n ≡ t.looks + 1 → t.state.pending_text ≡ None → PerformsAt e continuation.Constant t (Err (Abort fixed.Invalid)) (record t { looks = n })
  unfolding trace_at
  constant_untagged {t} i at o l k =
      let a = t.state in
      ends fixed.Invalid (4 * (length e.symbol - i + 1) ∷ []) (omega arith) k (rw at (ap with_closed_bracket (constant_missing e.form e.output.is_printed e.symbol a.depth_left a.lifetimes a.in_value i (sym o)))) (record { grows = omega (arith, l); within = omega (arith, l) }) (rw at (omega (arith, l))) (omega arith)

  pub constant_too_deep : {t : Machine V} {n : ℕ} (i c j : ℕ) → t.state.place ≡ Some i → t.state.depth_left ≡ 0 → Some (c, j) ≡ byte_at e.symbol i → n ≡ t.looks + 1 → t.state.pending_text ≡ None → PerformsAt e continuation.Constant t (Err (Abort fixed.Recursion)) (record t { looks = n })
  unfolding trace_at
  constant_too_deep {t} i c j at z o l k =
      let a = t.state in
      ends fixed.Recursion (4 * (j - i + 1) ∷ []) (omega arith) k (rw at (ap with_closed_bracket (constant_deep e.form e.output.is_printed e.symbol a.depth_left a.lifetimes a.in_value i c j (sym o) z))) (record { grows = omega (arith, l); within = omega (arith, l) }) (rw at (omega (arith, l))) (omega arith)

  pub constant_tagged : {t u : Machine V} {r : Result Continuation StepError} {n : ℕ} (i c j : ℕ) → t.state.place ≡ Some i → 0 < t.state.depth_left → Some (c, j) ≡ byte_at e.symbol i → n ≡ t.looks + 1 → u.looks ≤ t.looks + step_looks_bound e.symbol t.state.place
      → PerformsRest e (constant t.state.in_value c) 6 6 9 (record t { state = record t.state { depth_left = t.state.depth_left - 1; place = Some j }; looks = n }) r u → PerformsAt e continuation.Constant t r u
  unfolding trace_at
  constant_tagged {t} i c j at z o l short d =
      let a = t.state in
      after_few (4 * (j - i + 1) ∷ []) (omega arith) (rw at (ap with_closed_bracket (constant_reads e.form e.output.is_printed e.symbol a.depth_left a.lifetimes a.in_value i c j (sym o) z))) (record { grows = omega (arith, l); within = omega (arith, l) }) short (omega arith) (omega (arith, z)) d
