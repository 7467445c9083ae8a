-- The continuations of paths.
use Prim.Native.Char.{code}
use Rattle.std.specs.Prelude.{◌*◌}
use Rattle.std.proofs.Common.{◌≡◌, ℕ, zero, suc, sub-one, ◌+◌, ◌-◌, ◌<◌, ◌≤◌, length, Bool, false, Option, Some, None, List, [], ◌∷◌, ◌++◌, Result, Ok, Err, refl, arith, sym, ap, ◌∙◌}
use Rattle.demangle_v0_grammar.specs.Items.{Items, invalid, byte}
use Rattle.demangle_v0_grammar.specs.Traces.{Trace, of, empty_trace, context_at}
use Rattle.demangle_v0_tokens.specs.Tokens.{texts_of, crate_group, nested_group}
use Rattle.demangle_sink.specs.declared.SinkRefused.{SinkRefused}
use Rattle.demangle_v0_tokens.specs.declared.token.Token.TheVariants.{NameAfterError}
use Rattle.demangle_v0_tokens.proofs.TokenSpecs.{crate_reads, nested_reads}
use Rattle.demangle_v0_tokens.specs.Texts.{found}
use Rattle.demangle_symbol.specs.Primitives.{some_or, namespace_at, byte_at}
use Rattle.demangle_v0_grammar.specs.Table.{path}
use Rattle.demangle_v0_tokens.specs.Tags.{path_kinds, path_of}
use Rattle.demangle_v0_grammar.specs.Reading.{Form, Place, parse, level_of, levels}
use Rattle.demangle_v0_parser.specs.Traces.{frame_of, frame_at, then_frame, trace_at, trace_of_state, with_closed_bracket}
use Rattle.demangle_v0_parser.specs.Steps.{Machine, Env, CanRead, PerformsRest, PerformsAt, LooksWithin}
use Rattle.demangle_v0_tokens.specs.declared.fixed_texts.FixedText.TheVariants as fixed
use Rattle.demangle_v0_tokens.specs.declared.tags.PathKind.{PathKind}
use Rattle.demangle_v0_tokens.specs.declared.tags.PathKind.TheVariants as kind
use Rattle.demangle_v0_parser.specs.declared.Continuation.{Continuation}
use Rattle.demangle_v0_parser.specs.declared.Continuation.TheVariants as continuation
use Rattle.demangle_v0_parser.specs.declared.frames.Frame.{Frame}
use Rattle.demangle_v0_parser.specs.declared.State.{State}
use Rattle.demangle_v0_parser.specs.declared.StepError.{StepError}
use Rattle.demangle_v0_parser.specs.declared.StepError.TheVariants.{Sink, Abort}
use Rattle.demangle_v0_tokens.specs.declared.output.Output.{Ghosts}
use Rattle.demangle_v0_tokens.proofs.TagRows.{row_found}
use Rattle.demangle_v0_parser.proofs.StepRules.{group_trace, group_then, group_shut}
use Rattle.demangle_v0_parser.proofs.StepCases.{ended, text_step, ends, tells, halts, following, alike}
use Rattle.demangle_symbol.proofs.Counts.{placed, byte_placed}
use Rattle.std.proofs.lemmas.Grind.{common_steps}
use Rattle.std.proofs.lemmas.Bool.Decides.{nat_tests}

module _ {V : Type 0} (output : Ghosts V) (b : List ℕ) (form : Form) where
  -- Crates and nested paths.

  abbrev path_trace : Bool → ℕ → ℕ → Place → ℕ → Trace
  path_trace v left n i c = with_closed_bracket (of form output.is_printed (parse (path v c) (context_at b form output.is_printed left n) i))

  -- A path by its tag.

  path_so : (v : Bool) (left n : ℕ) (i : Place) (c : ℕ) (o : Option PathKind) → o ≡ found c path_kinds → path_trace v left n i c ≡ with_closed_bracket (of form output.is_printed (parse (some_or invalid o (path_of v)) (context_at b form output.is_printed left n) i))
  path_so v left n i c o e =
      ap (λ (p : Items). with_closed_bracket (of form output.is_printed (parse p (context_at b form output.is_printed left n) i))) (row_found c invalid (path_of v) path_kinds)
      ∙ ap (λ (o : Option PathKind). with_closed_bracket (of form output.is_printed (parse (some_or invalid o (path_of v)) (context_at b form output.is_printed left n) i))) (sym e)

  -- A path.

  abbrev path_at : Bool → ℕ → ℕ → ℕ → Place → Bool → Trace
  path_at v c left n i o = trace_at b form output.is_printed continuation.Path v c left n i o

  path_opens : (v : Bool) (c left n i : ℕ) (o : Bool) → 0 < left → path_at v c left n (Some i) o ≡ with_closed_bracket (of form output.is_printed (parse (byte (path v)) (context_at b form output.is_printed (left - 1) n) (Some i)))
  unfolding trace_at parse level_of levels
  path_opens v c zero n i o l = absurd (omega (arith, l))
  path_opens v c (suc left) n i o l = rw sub-one refl

  -- Names.

  pub crate_so : (v : Bool) (left n i : ℕ) → path_trace v left n (Some i) (code "C") ≡ group_trace output b form (crate_group b i)
  unfolding parse
  crate_so v left n i = group_shut output b form _ (crate_group b i) _ (crate_reads b form left output.is_printed n v i)

  abbrev nested_at : Bool → ℕ → ℕ → ℕ → Place → Bool → Trace
  nested_at v c left n i o = trace_at b form output.is_printed continuation.NestedName v c left n i o

  pub nested_so : (v : Bool) (c left n i : ℕ) (o : Bool) → nested_at v c left n (Some i) o ≡ group_trace output b form (nested_group b c i)
  unfolding parse trace_at
  nested_so v c left n i o = group_shut output b form _ (nested_group b c i) _ (nested_reads b form left output.is_printed n c i)

opened : {V : Type 0} (e : Env V) (s : State) (i : ℕ) → s.place ≡ Some i → 0 < s.depth_left
    → trace_of_state e.symbol e.form e.output.is_printed continuation.Path s ≡ with_closed_bracket (of e.form e.output.is_printed (parse (byte (path s.in_value)) (context_at e.symbol e.form e.output.is_printed (s.depth_left - 1) s.lifetimes) (Some i)))
opened e s i at d = rw at (path_opens e.output e.symbol e.form s.in_value s.letter s.depth_left s.lifetimes i s.is_bracket_open d)

-- A crate's name.
pub crate_trace : {V : Type 0} (e : Env V) (s : State) (i : ℕ) → s.place ≡ Some i → path_trace e.output e.symbol e.form s.in_value s.depth_left s.lifetimes s.place (code "C") ≡ group_then e.output e.symbol e.form (crate_group e.symbol i) ended
crate_trace e s i at = rw at (crate_so e.output e.symbol e.form s.in_value s.depth_left s.lifetimes i)

-- The name after a nested path.
pub nested_trace : {V : Type 0} (e : Env V) (s : State) (i : ℕ) → s.place ≡ Some i → trace_of_state e.symbol e.form e.output.is_printed continuation.NestedName s ≡ group_then e.output e.symbol e.form (nested_group e.symbol s.letter i) ended
nested_trace e s i at = rw at (nested_so e.output e.symbol e.form s.in_value s.letter s.depth_left s.lifetimes i s.is_bracket_open)

module _ {V : Type 0} {e : Env V} where
  pub nested_stops : {t : Machine V} {n : ℕ} (i : ℕ) → t.state.place ≡ Some i → None ≡ namespace_at e.symbol i → n ≡ t.looks + 1 → t.state.pending_text ≡ None → PerformsRest e (path t.state.in_value (code "N")) 6 1 9 t (Err (Abort fixed.Invalid)) (record t { looks = n })
  unfolding parse
  nested_stops i at r l k = ends fixed.Invalid (4 * (length e.symbol - i + 1) ∷ []) (omega arith) k (rw (at, sym r) refl) (record { grows = omega arith; within = omega arith }) (rw at (omega (arith, l))) (omega arith)

  pub nested_continues : {t : Machine V} {stack : List Frame} {n most : ℕ} (i letter j : ℕ) → t.state.place ≡ Some i → Some (letter, j) ≡ namespace_at e.symbol i → n ≡ t.looks + 1 → CanRead continuation.NestedName most t.state t.stack
      → stack ≡ t.stack ++ frame_of continuation.NestedName t.state.in_value letter t.state.depth_left t.state.lifetimes ∷ [] → PerformsRest e (path t.state.in_value (code "N")) 6 1 9 t (Ok continuation.Path) (record t { state = record t.state { place = Some j }; stack = stack; looks = n })
  unfolding parse then_frame trace_at
  nested_continues {t} i letter j at r l can_step q =
      text_step continuation.Path (4 * (j - i + 1) ∷ []) [] (omega arith) (Some (frame_of continuation.NestedName t.state.in_value letter t.state.depth_left t.state.lifetimes)) (rw (at, can_step.no_pending_text, sym r) refl) q
      (record { grows = omega arith; within = omega arith }) (omega arith) (rw at (omega (arith, l))) (omega arith) (omega arith) (omega arith) can_step.fits can_step.fits (λ _. refl)

  -- a path with arguments
  pub generic_continues : {t : Machine V} {stack : List Frame} {most : ℕ} → CanRead continuation.Generic most t.state t.stack → stack ≡ t.stack ++ frame_at continuation.Generic t.state ∷ [] → PerformsRest e (path_of t.state.in_value kind.Generic) 6 8 9 t (Ok continuation.Path) (record t { stack = stack })
  unfolding parse then_frame trace_at
  generic_continues {t} can_step q =
      text_step continuation.Path [] [] (omega arith) (Some (frame_at continuation.Generic t.state)) (rw can_step.no_pending_text refl) q (record { grows = omega arith; within = omega arith }) (omega arith) (omega arith) (omega arith) (omega arith) (omega arith) can_step.fits can_step.fits (λ _. refl)

  pub path_wrong : {t : Machine V} (c : ℕ) → None ≡ found c path_kinds → t.state.pending_text ≡ None → PerformsRest e (path t.state.in_value c) 6 8 9 t (Err (Abort fixed.Invalid)) t
  unfolding parse
  path_wrong {t} c r k = let s = t.state in ends fixed.Invalid [] (omega arith) k (path_so e.output e.symbol e.form s.in_value s.depth_left s.lifetimes s.place c None r) (record { grows = omega arith; within = omega arith }) (omega arith) (omega arith)

  pub path_as : {t u : Machine V} {r : Result Continuation StepError} {words weight above : ℕ} (c : ℕ) (p : PathKind) → Some p ≡ found c path_kinds → words ≤ 6 → weight ≤ 8 → above ≤ 9 → PerformsRest e (path_of t.state.in_value p) words weight above t r u → PerformsRest e (path t.state.in_value c) 6 8 9 t r u
  path_as {t} c p h primitive_count w x d = let s = t.state in alike primitive_count (path_so e.output e.symbol e.form s.in_value s.depth_left s.lifetimes s.place c (Some p) h) w (omega (arith, x)) d

  pub path_deep : {t : Machine V} (i : ℕ) → t.state.place ≡ Some i → t.state.depth_left ≡ 0 → t.state.pending_text ≡ None → PerformsAt e continuation.Path t (Err (Abort fixed.Recursion)) t
  unfolding trace_at parse level_of levels
  path_deep i at d k = ends fixed.Recursion [] (omega arith) k (rw (at, d) refl) (record { grows = omega arith; within = omega arith }) (omega arith) (omega arith)

  pub path_untagged : {t : Machine V} {s : State} {n : ℕ} (i : ℕ) → t.state.place ≡ Some i → 0 < t.state.depth_left → None ≡ byte_at e.symbol i → n ≡ t.looks + 1 → s.pending_text ≡ None → PerformsAt e continuation.Path t (Err (Abort fixed.Invalid)) (record t { state = s; looks = n })
  unfolding parse
  path_untagged {t} i at d r l k =
      ends fixed.Invalid (4 * (length e.symbol - i + 1) ∷ []) (omega arith) k (opened e t.state i at d ∙ rw (sym r) refl) (record { grows = omega arith; within = omega arith }) (rw at (omega (arith, l))) (omega arith)

  pub path_tagged : {t u : Machine V} {r : Result Continuation StepError} (i c j n : ℕ) → t.state.place ≡ Some i → 0 < t.state.depth_left → Some (c, j) ≡ byte_at e.symbol i → n ≡ t.looks + 1
      → PerformsRest e (path t.state.in_value c) 6 8 9 (record t { state = record t.state { depth_left = t.state.depth_left - 1; place = Some j }; looks = n }) r u → PerformsAt e continuation.Path t r u
  unfolding parse
  path_tagged {t} i c j n at d q l z =
      let p = placed (i + 1) e.symbol (byte_at e.symbol i) (byte_placed e.symbol i) c j (sym q) in
      following {t = t} (4 * (j - i + 1) ∷ []) (omega arith) (opened e t.state i at d ∙ rw (sym q) refl) (record { grows = omega arith; within = omega arith }) (rw at (omega (arith, p.0, p.1, l))) (omega arith) (omega (arith, d)) z

  -- the path before the name has failed
  pub name_unread : {t : Machine V} {v : V} {n : ℕ} → t.state.place ≡ None → LooksWithin t.looks [] n → e.output.prints t.output (texts_of e.symbol e.form NameAfterError) (Ok tt) v → e.output.ready v → t.state.pending_text ≡ None
      → PerformsAt e continuation.NestedName t (Ok continuation.End) (record t { state = record t.state { is_bracket_open = false }; output = v; looks = n })
  unfolding parse trace_at
  name_unread at p q r k = tells continuation.End [] (omega arith) NameAfterError (rw at refl) q r k p (omega (arith, p.within)) (omega arith) (omega arith) tt

  pub name_unread_refused : {t : Machine V} {s : State} {v : V} {n : ℕ} {f : SinkRefused} → t.state.place ≡ None → LooksWithin t.looks [] n → e.output.prints t.output (texts_of e.symbol e.form NameAfterError) (Err f) v → PerformsAt e continuation.NestedName t (Err Sink) (record t { state = s; output = v; looks = n })
  unfolding parse trace_at
  name_unread_refused at p q = halts [] (omega arith) NameAfterError (empty_trace None false) (rw at refl) q (λ _. refl) p (omega (arith, p.within))

-- only `N` is the tag of a nested path
pub tag_of_nested : (c : ℕ) → Some kind.NestedName ≡ found c path_kinds → c ≡ 78
tag_of_nested c k = grind (arith, common_steps, nat_tests)
