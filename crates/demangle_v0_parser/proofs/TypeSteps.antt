-- The continuations of types.
use Rattle.std.specs.Prelude.{if◌then◌else◌, ◌*◌, ◌==◌, slice_get, codes}
use Rattle.std.proofs.Common.{inl, inr, ◌⊎◌, ◌≡◌, ℕ, ◌+◌, ◌-◌, ◌<◌, ◌≤◌, ◌≢◌, Bool, true, false, cond, Option, Some, None, List, [], ◌∷◌, ◌++◌, Result, Ok, Err, refl, arith, sym, ap, ◌∙◌}
use Rattle.std.proofs.lemmas.List.{append-nil}
use Rattle.std.proofs.lemmas.Option.{none-some}
use Rattle.std.proofs.lemmas.Bool.{false≢true, false_from_ne_true, eqb-true, eq-eqb}
use Prim.Native.Char.{code}
use Prim.Native.String.{String}
use Rattle.demangle_symbol.specs.Digits.{is_byte}
use Rattle.demangle_symbol.specs.Primitives.{then_if_some}
use Rattle.demangle_v0_grammar.specs.Items.{Text, Kind, a_type, print, child, done}
use Rattle.demangle_v0_grammar.specs.Traces.{Trace, of, events, and_then, with_looks, with_texts, context_at}
use Rattle.demangle_v0_tokens.specs.Texts.{text, found, basic_type_texts}
use Rattle.demangle_v0_grammar.specs.Table.{print_str, print_if, type_inside, type_rows, is_among, row_text, basic_types}
use Rattle.demangle_v0_tokens.specs.Tags.{type_kinds, type_of, reference_to, lifetime_before}
use Rattle.demangle_v0_grammar.specs.Reading.{Form, Place, unit_outcome, parse}
use Rattle.demangle_v0_parser.specs.Steps.{Machine, machine, Env, part, Performs, LooksWithin, PerformsRest, PerformsAt, step_looks_bound}
use Rattle.demangle_v0_parser.specs.Traces.{frame_at, then_frame, trace_of_frame, trace_at, trace_of_state, with_closed_bracket}
use Rattle.demangle_v0_parser.specs.Measure.{weight_left, height_at, Fits}
use Rattle.demangle_v0_parser.specs.Continuations.{after_reference_lifetime, lifetime_continuation}
use Rattle.demangle_v0_tokens.specs.declared.fixed_texts.FixedText.{FixedText}
use Rattle.demangle_v0_tokens.specs.declared.fixed_texts.FixedText.TheVariants as fixed
use Rattle.demangle_v0_tokens.specs.declared.tags.TypeKind.{TypeKind}
use Rattle.demangle_v0_tokens.specs.declared.tags.TypeKind.TheVariants as kind
use Rattle.demangle_v0_parser.specs.declared.Continuation.{Continuation}
use Rattle.demangle_v0_parser.specs.declared.Continuation.TheVariants as continuation
use Rattle.demangle_v0_parser.specs.declared.frames.Frame.{Frame}
use Rattle.demangle_v0_parser.specs.declared.State.{State}
use Rattle.demangle_v0_parser.specs.declared.StepError.{StepError}
use Rattle.demangle_v0_parser.specs.declared.StepError.TheVariants.{Abort}
use Rattle.demangle_v0_tokens.specs.declared.output.Output.{Ghosts}
use Rattle.demangle_v0_tokens.proofs.TagRows.{rows_of, basic_found}
use Rattle.demangle_v0_parser.proofs.StepRules.{trace, child_last}
use Rattle.demangle_v0_parser.proofs.StepCases.{Within, ends, enters, marks, moves, text_step, after_few}
use Rattle.demangle_v0_grammar.proofs.TypeTraces.{row_at, splat_reads, type_reads, tag_missing, basic_reads, type_deep, constructed_reads, path_type_reads, row_reads}

-- the continuation of a type at its start, or after its `w`
pub type_point : (p : Continuation) (q : Bool) → (p ≡ continuation.«Type») ⊎ (p ≡ continuation.TaggedType) → (p ≡ continuation.«Type» → q ≡ true) → (p ≡ continuation.TaggedType → q ≡ false) → (if q then continuation.«Type» else continuation.TaggedType) ≡ p
type_point p q (inl e) y n = rw (y e) (sym e)
type_point p q (inr e) y n = rw (n e) (sym e)

pub after_within : (q : Bool) → Within (after_reference_lifetime q) 2 2
after_within true = record { light = omega arith; low = λ left. omega arith; fits = λ left n f. f }
after_within false = record { light = omega arith; low = λ left. omega arith; fits = λ left n f. f }

lifetime_within : (q : Bool) → Within (lifetime_continuation q) 3 2
lifetime_within true = record { light = omega arith; low = λ left. omega arith; fits = λ left n f. f }
lifetime_within false = record { light = omega arith; low = λ left. omega arith; fits = λ left n f. f }

-- Whether the next byte is a `w`.

pub splat_missing : (b : List ℕ) (i : ℕ) → None ≡ slice_get b i → is_byte b i (code "w") ≡ false
unfolding is_byte
splat_missing b i o = rw (sym o) refl

pub splat_not : (b : List ℕ) (i x : ℕ) → Some x ≡ slice_get b i → x ≢ 119 → is_byte b i (code "w") ≡ false
unfolding is_byte
splat_not b i x o f = rw (sym o) (false_from_ne_true (x == 119) (λ h. f (eqb-true x 119 h)))

pub splat_there : (b : List ℕ) (i x : ℕ) → Some x ≡ slice_get b i → x ≡ 119 → is_byte b i (code "w") ≡ true
unfolding is_byte
splat_there b i x o f = rw (sym o) (eq-eqb x 119 f)

-- no basic type has this tag
pub basic_no_splat : (x : ℕ) (m : FixedText) → Some m ≡ found x basic_type_texts → x ≢ 119
basic_no_splat x m f e = none-some m (sym (f ∙ ap (λ (t : ℕ). found t basic_type_texts) e))

-- no type of the table has it either
pub kind_no_splat : (x : ℕ) (k : TypeKind) → Some k ≡ found x (type_kinds x) → x ≢ 119
kind_no_splat x k f e = none-some k (sym (f ∙ ap (λ (t : ℕ). found t (type_kinds t)) e))

-- this tag is that of a shared reference
pub shared_kind : (x : ℕ) → x ≡ code "R" → Some kind.SharedReference ≡ found x (type_kinds x)
shared_kind x e = rw e refl

module _ {V : Type 0} (output : Ghosts V) (b : List ℕ) (form : Form) where
  -- a nested production whose following text is not printed
  pub child_silent : (k : Kind) (v : Bool) (left n : ℕ) (i : Place) (t : Text) (out : Bool) → out ≡ false → with_closed_bracket (of form out (parse (child k v (print t done)) (context_at b form out left n) i)) ≡ with_closed_bracket (of form out (unit_outcome (context_at b form out left n) k v i))
  unfolding parse
  child_silent k v left n i t true q = absurd (false≢true (sym q))
  child_silent k v left n i t false q = let o = unit_outcome (context_at b form false left n) k v i in ap (λ xs. record { events = xs; place = o.place; is_bracket_open = false }) (append-nil (events form.include_hash false o.tree))

  kinds_so : (tag : ℕ) → type_rows tag ≡ rows_of type_of (type_kinds tag)
  kinds_so tag = go (tag == code "Q") refl
    where
      go : (q : Bool) → (tag == code "Q") ≡ q → type_rows tag ≡ rows_of type_of (type_kinds tag)
      go true e = rw e refl
      go false e = rw e refl

  -- references

  -- the items after a reference without a lifetime
  pub after_so : (q : Bool) (v : Bool) (c left n : ℕ) (i : Place) (o : Bool) → trace output b form (print_if q "mut " type_inside) left n i ≡ trace_at b form output.is_printed (after_reference_lifetime q) v c left n i o
  unfolding trace_at
  after_so true v c left n i o = refl
  after_so false v c left n i o = child_last output b form a_type false left n i

  pub lifetime_so : (q : Bool) (v : Bool) (c left n : ℕ) (i : Place) (o : Bool) → trace output b form (lifetime_before (print_if q "mut " type_inside)) left n i ≡ trace_at b form output.is_printed (lifetime_continuation q) v c left n i o
  unfolding trace_at
  lifetime_so true v c left n i o = refl
  lifetime_so false v c left n i o = refl

  -- A type by its tag.

  pub basic_so : (t : ℕ) (m : Option FixedText) → m ≡ found t basic_type_texts → row_text t basic_types ≡ then_if_some m (λ m. Some (text m))
  basic_so t m e = basic_found t ∙ ap (λ (o : Option FixedText). then_if_some o (λ m. Some (text m))) (sym e)

  -- the entry of a tag in the table
  pub row_so : (t : ℕ) (k : Option TypeKind) → k ≡ found t (type_kinds t) → row_at t (type_rows t) ≡ then_if_some k (λ k. Some (type_of k))
  row_so t k e = ap (row_at t) (kinds_so t) ∙ go (type_kinds t) ∙ ap (λ (o : Option TypeKind). then_if_some o (λ k. Some (type_of k))) (sym e)
    where
      go : (rs : List (String × TypeKind)) → row_at t (rows_of type_of rs) ≡ then_if_some (found t rs) (λ k. Some (type_of k))
      go [] = refl
      go (r ∷ rs) = choice (is_among t (codes r.0)) (go rs)
        where
          choice : (x : Bool) → row_at t (rows_of type_of rs) ≡ then_if_some (found t rs) (λ k. Some (type_of k)) → cond x (Some (type_of r.1)) (row_at t (rows_of type_of rs)) ≡ then_if_some (cond x (Some r.1) (found t rs)) (λ k. Some (type_of k))
          choice true h = refl
          choice false h = h

-- References.
module _ {V : Type 0} {e : Env V} where
  pub reference_failed : {t : Machine V} (q : Bool) → t.state.place ≡ None → Fits continuation.«Type» t.state.depth_left t.state.lifetimes → PerformsRest e (reference_to q) 5 50 9 t (Ok (after_reference_lifetime q)) (record t { state = record t.state { pending_text = Some fixed.Ampersand } })
  unfolding parse
  reference_failed {t} q at f =
      let s = t.state in
      let w = after_within q in
      marks (after_reference_lifetime q) (rw at (ap (with_texts e.output.is_printed (text fixed.Ampersand ∷ [])) (after_so e.output e.symbol e.form q s.in_value s.letter s.depth_left s.lifetimes None s.is_bracket_open)))
      (omega (arith, w.light)) (omega (arith, w.low s.depth_left)) (w.fits s.depth_left s.lifetimes f)

  pub reference_continues : {t : Machine V} {n : ℕ} (q : Bool) (i : ℕ) → t.state.place ≡ Some i → is_byte e.symbol i (code "L") ≡ false → n ≡ t.looks + 1 → Fits continuation.«Type» t.state.depth_left t.state.lifetimes
      → PerformsRest e (reference_to q) 5 50 9 t (Ok (after_reference_lifetime q)) (record t { state = record t.state { pending_text = Some fixed.Ampersand }; looks = n })
  unfolding parse then_frame
  reference_continues {t} q i at b l f =
      let s = t.state in
      let w = after_within q in
      text_step (after_reference_lifetime q) [] (1 ∷ []) (omega arith) None (ap (λ (x : Place). trace e.output e.symbol e.form (reference_to q) s.depth_left s.lifetimes x) at ∙ rw (at, b) (ap (λ (h : Trace). with_texts e.output.is_printed (text fixed.Ampersand ∷ []) (with_looks (1 ∷ []) h)) (after_so e.output e.symbol e.form q s.in_value s.letter s.depth_left s.lifetimes (Some i) s.is_bracket_open))) refl
      (record { grows = omega arith; within = omega arith }) (omega arith) (rw at (omega (arith, l))) (omega (arith, w.light)) (omega arith) (omega (arith, w.low s.depth_left)) tt (w.fits s.depth_left s.lifetimes f) (λ _. tt)

  pub reference_named : {t : Machine V} {n : ℕ} (q : Bool) (i : ℕ) → t.state.place ≡ Some i → is_byte e.symbol i (code "L") ≡ true → n ≡ t.looks + 1 → Fits continuation.«Type» t.state.depth_left t.state.lifetimes
      → PerformsRest e (reference_to q) 5 50 9 t (Ok (lifetime_continuation q)) (record t { state = record t.state { place = Some (i + 1); pending_text = Some fixed.Ampersand }; looks = n })
  unfolding parse then_frame
  reference_named {t} q i at b l f =
      let s = t.state in
      let w = lifetime_within q in
      text_step (lifetime_continuation q) [] (1 ∷ []) (omega arith) None (ap (λ (x : Place). trace e.output e.symbol e.form (reference_to q) s.depth_left s.lifetimes x) at ∙ rw b (ap (λ (h : Trace). with_texts e.output.is_printed (text fixed.Ampersand ∷ []) (with_looks (1 ∷ []) h)) (lifetime_so e.output e.symbol e.form q s.in_value s.letter s.depth_left s.lifetimes (Some (i + 1)) s.is_bracket_open))) refl
      (record { grows = omega arith; within = omega arith }) (omega arith) (rw at (omega (arith, l))) (omega (arith, w.light)) (omega arith) (omega (arith, w.low s.depth_left)) tt (w.fits s.depth_left s.lifetimes f) (λ _. tt)

-- Types.
module _ {V : Type 0} {e : Env V} where
  -- a nested production in brackets; the frame for the closing bracket is pushed only if the output prints
  pub encloses : {t : Machine V} {h : Trace} {words weight high : ℕ} {stack : List Frame} (to : Continuation) (k : Kind) (v value : Bool) (m : FixedText) → let s = record t.state { in_value = value; pending_text = Some m } in
      h ≡ trace e.output e.symbol e.form (print (text m) (child k v (print_str "]" done))) s.depth_left s.lifetimes s.place
      → with_closed_bracket (of e.form e.output.is_printed (unit_outcome (context_at e.symbol e.form e.output.is_printed s.depth_left s.lifetimes) k v s.place)) ≡ trace_of_state e.symbol e.form e.output.is_printed to s
      → weight_left to + 3 ≤ weight → 8 * s.depth_left + 2 ≤ high → height_at to s.depth_left + 1 ≤ high → Fits continuation.CloseBracket s.depth_left s.lifetimes → Fits to s.depth_left s.lifetimes
      → (e.output.is_printed ≡ true → stack ≡ t.stack ++ frame_at continuation.CloseBracket t.state ∷ []) → (e.output.is_printed ≡ false → stack ≡ t.stack) → Performs e t (part words h weight high) (Ok to) (record t { state = s; stack = stack })
  unfolding parse trace_at
  encloses {t} {h} {words} {weight} {high} {stack} to k v value m r q w x y f g shown unprinted = go e.output.is_printed refl
    where
      s : State
      s = record t.state { in_value = value; pending_text = Some m }

      go : (out : Bool) → e.output.is_printed ≡ out → Performs e t (part words h weight high) (Ok to) (record t { state = s; stack = stack })
      go true o = enters to (frame_at continuation.CloseBracket t.state) (r ∙ ap (λ (z : Trace). with_texts e.output.is_printed (text m ∷ []) (and_then z (trace_of_frame e.symbol e.form e.output.is_printed (frame_at continuation.CloseBracket t.state)))) q) (shown o) (omega (arith, w)) x y f g refl
      go false o = rw (unprinted o) (marks to (r ∙ ap (with_texts e.output.is_printed (text m ∷ [])) (child_silent e.output e.symbol e.form k v s.depth_left s.lifetimes s.place (codes "]") e.output.is_printed o ∙ q)) (omega (arith, w)) (omega (arith, y)) g)

  -- After a look at the tag.

  pub no_tag : {t : Machine V} {n : ℕ} (i : ℕ) → t.state.place ≡ Some i → None ≡ slice_get e.symbol i → n ≡ t.looks + 1 → t.state.pending_text ≡ None → PerformsAt e continuation.TaggedType t (Err (Abort fixed.Invalid)) (record t { looks = n })
  unfolding trace_at
  no_tag {t} i at o l k =
      ends fixed.Invalid (1 ∷ []) (omega arith) k (rw at (ap with_closed_bracket (tag_missing e.form e.output.is_printed e.symbol t.state.depth_left t.state.lifetimes i (sym o)))) (record { grows = omega (arith, l); within = omega (arith, l) }) (rw at (omega (arith, l))) (omega arith)

  pub basic_ends : {t : Machine V} {n : ℕ} (i x : ℕ) (m : FixedText) → t.state.place ≡ Some i → Some x ≡ slice_get e.symbol i → Some m ≡ found x basic_type_texts → n ≡ t.looks + 1
      → PerformsAt e continuation.TaggedType t (Ok continuation.End) (record t { state = record t.state { place = Some (i + 1); pending_text = Some m; is_bracket_open = false }; looks = n })
  unfolding trace_at
  basic_ends {t} i x m at o f l =
      moves continuation.End (1 ∷ 4 * (i + 1 - i + 1) ∷ []) (omega arith) (rw at (ap with_closed_bracket (basic_reads e.form e.output.is_printed e.symbol t.state.depth_left t.state.lifetimes i x (text m) (sym o) (basic_so e.output e.symbol e.form x (Some m) f))))
      (record { grows = omega (arith, l); within = omega (arith, l) }) (rw at (omega (arith, l))) (omega arith) (omega arith) tt

  pub tag_deep : {t : Machine V} {n : ℕ} (i x : ℕ) → t.state.place ≡ Some i → Some x ≡ slice_get e.symbol i → None ≡ found x basic_type_texts → t.state.depth_left ≡ 0 → n ≡ t.looks + 1 → t.state.pending_text ≡ None → PerformsAt e continuation.TaggedType t (Err (Abort fixed.Recursion)) (record t { looks = n })
  unfolding trace_at
  tag_deep {t} i x at o f z l k =
      ends fixed.Recursion (1 ∷ []) (omega arith) k (rw at (ap with_closed_bracket (type_deep e.form e.output.is_printed e.symbol t.state.depth_left t.state.lifetimes i x (sym o) (basic_so e.output e.symbol e.form x None f) z)))
      (record { grows = omega (arith, l); within = omega (arith, l) }) (rw at (omega (arith, l))) (omega arith)

  -- any other tag is that of a path
  pub path_follows : {t : Machine V} {n : ℕ} (i x : ℕ) → t.state.place ≡ Some i → Some x ≡ slice_get e.symbol i → None ≡ found x basic_type_texts → 0 < t.state.depth_left → None ≡ found x (type_kinds x) → n ≡ t.looks + 1 → t.state.pending_text ≡ None → Fits continuation.TaggedType t.state.depth_left t.state.lifetimes
      → PerformsAt e continuation.TaggedType t (Ok continuation.Path) (record t { state = record t.state { in_value = false; depth_left = t.state.depth_left - 1 }; looks = n })
  unfolding trace_at
  path_follows {t} i x at o f z g l k w =
      let s = t.state in
      moves continuation.Path (1 ∷ []) (omega arith)
      (rw (at, k) (ap with_closed_bracket (constructed_reads e.form e.output.is_printed e.symbol s.depth_left s.lifetimes i x (sym o) (basic_so e.output e.symbol e.form x None f) z ∙ ap (with_looks (1 ∷ [])) (path_type_reads e.form e.output.is_printed e.symbol (s.depth_left - 1) s.lifetimes (Some i) x (row_so e.output e.symbol e.form x None g)))))
      (record { grows = omega (arith, l); within = omega (arith, l) }) (rw at (omega (arith, l))) (omega arith) (omega (arith, z)) (omega (arith, w))

  pub tag_continues : {t u : Machine V} {r : Result Continuation StepError} {n : ℕ} (i x : ℕ) (k : TypeKind) → t.state.place ≡ Some i → Some x ≡ slice_get e.symbol i → None ≡ found x basic_type_texts → 0 < t.state.depth_left → Some k ≡ found x (type_kinds x) → n ≡ t.looks + 1 → u.looks ≤ t.looks + step_looks_bound e.symbol t.state.place
      → PerformsRest e (type_of k) 5 50 9 (machine (record t.state { place = Some (i + 1); depth_left = t.state.depth_left - 1 }) t.stack t.output n) r u → PerformsAt e continuation.TaggedType t r u
  unfolding trace_at
  tag_continues {t} i x k at o m z g l short d =
      let s = t.state in
      after_few (1 ∷ 4 * (i + 1 - i + 1) ∷ []) (omega arith)
      (rw at (ap with_closed_bracket (constructed_reads e.form e.output.is_printed e.symbol s.depth_left s.lifetimes i x (sym o) (basic_so e.output e.symbol e.form x None m) z ∙ ap (with_looks (1 ∷ [])) (row_reads e.form e.output.is_printed e.symbol (s.depth_left - 1) s.lifetimes i x (type_of k) (sym o) (row_so e.output e.symbol e.form x (Some k) g)))))
      (record { grows = omega (arith, l); within = omega (arith, l) }) short (omega arith) (omega (arith, z)) d

  -- A type.

  pub type_splats : {t : Machine V} {n : ℕ} (i : ℕ) → t.state.place ≡ Some i → is_byte e.symbol i (code "w") ≡ true → LooksWithin t.looks (1 ∷ []) n → Fits continuation.TaggedType t.state.depth_left t.state.lifetimes
      → PerformsAt e continuation.«Type» t (Ok continuation.TaggedType) (record t { state = record t.state { place = Some (i + 1); pending_text = Some fixed.Splat }; looks = n })
  unfolding trace_at
  type_splats {t} i at o p f = moves continuation.TaggedType (1 ∷ []) (omega arith) (rw at (ap with_closed_bracket (splat_reads e.form e.output.is_printed e.symbol t.state.depth_left t.state.lifetimes false i o))) p (rw at (omega (arith, p.within))) (omega arith) (omega arith) f

  pub type_continues : {t u : Machine V} {r : Result Continuation StepError} {n : ℕ} (i : ℕ) → t.state.place ≡ Some i → is_byte e.symbol i (code "w") ≡ false → t.looks ≤ n → n ≤ t.looks + 1 → u.looks ≤ t.looks + step_looks_bound e.symbol t.state.place
      → PerformsAt e continuation.TaggedType (machine t.state t.stack t.output n) r u → PerformsAt e continuation.«Type» t r u
  unfolding trace_at
  type_continues {t} i at o l m short d =
      let s = t.state in
      after_few (1 ∷ []) (omega arith) (rw at (ap with_closed_bracket (type_reads e.form e.output.is_printed e.symbol s.depth_left s.lifetimes false i o))) (record { grows = l; within = omega (arith, m) }) short (omega arith) (omega arith) (rw at at d)

  -- a tag other than `w` is read in the same way at the start of a type and after a `w`
  pub type_tagged : {t u : Machine V} {r : Result Continuation StepError} (q : Bool) (i : ℕ) → t.state.place ≡ Some i → (q ≡ true → is_byte e.symbol i (code "w") ≡ false) → PerformsAt e continuation.TaggedType t r u → PerformsAt e (if q then continuation.«Type» else continuation.TaggedType) t r u
  type_tagged true i at o d = type_continues i at (o refl) (omega arith) (omega arith) d.own_looks d
  type_tagged false i at o d = d

  -- a type at its start, or after its `w`
  pub type_either : {t u : Machine V} {r : Result Continuation StepError} (q : Bool) → (q ≡ true → PerformsAt e continuation.«Type» t r u) → (q ≡ false → PerformsAt e continuation.TaggedType t r u) → PerformsAt e (if q then continuation.«Type» else continuation.TaggedType) t r u
  type_either true h k = h refl
  type_either false h k = k refl
