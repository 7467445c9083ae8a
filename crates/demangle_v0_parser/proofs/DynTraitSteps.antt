-- The continuations of dyn types.
use Rattle.std.specs.Prelude.{◌*◌, if◌then◌else◌, codes}
use Rattle.std.proofs.Common.{◌≡◌, ℕ, ◌+◌, ◌-◌, ◌<◌, ◌≤◌, length, Bool, true, false, Option, Some, None, List, [], ◌∷◌, ◌++◌, Result, Ok, refl, arith, sym, ap, ◌∙◌}
use Prim.Native.Char.{code}
use Rattle.demangle_symbol.specs.Digits.{is_byte}
use Rattle.demangle_symbol.specs.Primitives.{Name, Read, identifier_at}
use Rattle.demangle_symbol.specs.Names.{name_pieces}
use Rattle.demangle_v0_grammar.specs.Items.{Text, Items, a_path, a_type, a_trait_path, done, unit, dyn_trait, bindings, leave_open, target}
use Rattle.demangle_v0_grammar.specs.Table.{print_str, print_name, list, more, argument, binding_value}
use Rattle.demangle_v0_grammar.specs.LookTotals.{total}
use Rattle.demangle_v0_parser.specs.Productions.{separator, argument_continuation, argument_place, argument_costs}
use Rattle.demangle_v0_parser.specs.Productions.{dyn_type}
use Rattle.demangle_v0_grammar.specs.Traces.{Trace, of, empty_trace, and_then, with_looks, with_texts, context_at}
use Rattle.demangle_v0_tokens.specs.Texts.{token_items, text}
use Rattle.demangle_v0_grammar.specs.Reading.{Place, Context, parse, unit_outcome, max_depth}
use Rattle.demangle_v0_parser.specs.Traces.{pending_texts, frame_at, then_frame, trace_at, trace_of_frame, trace_of_state, with_closed_bracket}
use Rattle.demangle_v0_parser.specs.Continuations.{bindings_left, is_list_end, after_list, list_costs}
use Rattle.demangle_v0_parser.specs.Measure.{weight_left, height_at, Fits}
use Rattle.demangle_v0_parser.specs.Steps.{step_looks_bound, Machine, machine, Env, part, Performs, LooksWithin, PerformsRest, PerformsAt}
use Rattle.demangle_v0_tokens.specs.declared.fixed_texts.FixedText.{FixedText}
use Rattle.demangle_v0_tokens.specs.declared.fixed_texts.FixedText.TheVariants as fixed
use Rattle.demangle_v0_tokens.specs.declared.token.TokenKind.TheVariants as token_kind
use Rattle.demangle_v0_parser.specs.declared.Continuation.{Continuation}
use Rattle.demangle_v0_parser.specs.declared.Continuation.TheVariants as continuation
use Rattle.demangle_v0_parser.specs.declared.frames.Frame.{Frame}
use Rattle.demangle_v0_parser.specs.declared.State.{State}
use Rattle.demangle_v0_parser.specs.declared.StepError.{StepError}
use Rattle.demangle_v0_grammar.proofs.ClosedUnits.{last_child, unit_closed}
use Rattle.demangle_v0_grammar.proofs.ListProgress.{dyn_trait_element}
use Rattle.demangle_v0_grammar.proofs.Folded.{unfolded}
use Rattle.demangle_v0_grammar.proofs.TraceLemmas.{handing_both, and_then_assoc, handing_then, allowing_then}
use Rattle.demangle_v0_grammar.proofs.ListTraces.{followed}
use Rattle.demangle_v0_grammar.proofs.PathTraces.{trait_path_reads, trait_path_refers, trait_path_generic, trait_path_plain}
use Rattle.demangle_v0_grammar.proofs.TypeTraces.{if_so, says_all, bound_constant, bound_type, mark_of, bindings_failed, bindings_over, binding_stops, binding_reads}
use Rattle.demangle_v0_parser.proofs.ArgumentSteps.{HasNoError, told, arguments_trace}
use Rattle.demangle_v0_parser.proofs.ListSteps.{trace_left, open_at, shut_at, NotOver, one_look, paid_on, over_trace, on_trace, list_ends}
use Rattle.demangle_v0_parser.proofs.StepCases.{alike, following, text_step, marks}

abbrev pub first_traits : Items
first_traits = list " + " (dyn_trait binding_value) done

abbrev next_traits : Items
next_traits = more " + " (dyn_trait binding_value) done

abbrev left_traits : Bool → Items
left_traits first = trace_left first " + " (dyn_trait binding_value) done next_traits

abbrev next_open : Items
next_open = more ", " argument (leave_open done)

abbrev left_open : Bool → Items
left_open first = trace_left first ", " argument (leave_open done) next_open

abbrev traits_point : Bool → Continuation
traits_point first = if first then continuation.FirstDynTrait else continuation.NextDynTrait

abbrev open_point : Bool → Continuation
open_point first = if first then continuation.FirstTraitArgument else continuation.NextTraitArgument

-- the items after the name of a binding
abbrev pub after_name : Items
after_name = unit binding_value (bindings_left true)

-- the text that bindings print at their end, and the text before each binding
abbrev closing_text : Bool → Option FixedText
closing_text o = if o then Some fixed.Greater else None

abbrev opening_text : Bool → FixedText
opening_text o = if o then fixed.Comma else fixed.Less

end_text : (o : Bool) → if_so o ">" ≡ pending_texts (closing_text o)
end_text true = refl
end_text false = refl

first_text : (o : Bool) → mark_of o ≡ text (opening_text o)
first_text true = refl
first_text false = refl

module _ {V : Type 0} (e : Env V) (s : State) where
  abbrev about : Context
  about = context_at e.symbol e.form e.output.is_printed s.depth_left s.lifetimes

  -- a frame that the state makes
  abbrev frame_rest : Continuation → Place → Bool → Trace
  frame_rest p = trace_of_frame e.symbol e.form e.output.is_printed (frame_at p s)

  -- a dyn trait, and further ones
  trait_then : (i : ℕ) → followed (open_at e (dyn_trait binding_value) s (Some i)) (shut_at e next_traits s) ≡ and_then (of e.form e.output.is_printed (unit_outcome about a_trait_path false (Some i))) (frame_rest continuation.Bindings)
  unfolding parse trace_at
  trait_then i = and_then_assoc (of e.form e.output.is_printed (unit_outcome about a_trait_path false (Some i))) (λ j o. open_at e (bindings o binding_value) s j) (λ j _. shut_at e next_traits s j)

  trait_trace : (first : Bool) (i : ℕ) → Fits continuation.NextDynTrait s.depth_left s.lifetimes → is_byte e.symbol i (code "E") ≡ false → shut_at e (left_traits first) s (Some i)
      ≡ with_looks (1 ∷ []) (with_texts e.output.is_printed (pending_texts (separator first fixed.Plus)) (and_then (of e.form e.output.is_printed (unit_outcome about a_trait_path false (Some i))) (frame_rest continuation.Bindings)))
  trait_trace true i f h = ap with_closed_bracket (on_trace e s true " + " fixed.Plus refl (dyn_trait binding_value) done next_traits i (dyn_trait_element e.symbol e.form e.output.is_printed s.depth_left s.lifetimes (omega (arith, f))) h) ∙ ap (with_looks (1 ∷ [])) (trait_then i)
  trait_trace false i f h =
      ap with_closed_bracket (on_trace e s false " + " fixed.Plus refl (dyn_trait binding_value) done next_traits i (dyn_trait_element e.symbol e.form e.output.is_printed s.depth_left s.lifetimes (omega (arith, f))) h)
      ∙ ap (λ (h : Trace). with_looks (1 ∷ []) (with_texts e.output.is_printed (text fixed.Plus ∷ []) h)) (trait_then i)

  -- Paths of dyn traits.

  refers_reads : (i : ℕ) → s.place ≡ Some i → is_byte e.symbol i (code "B") ≡ true → trace_of_state e.symbol e.form e.output.is_printed continuation.TraitPath s ≡ with_looks (1 ∷ []) (open_at e (target a_trait_path false) s (Some (i + 1)))
  unfolding trace_at
  refers_reads i at h = rw at (trait_path_reads e.form e.output.is_printed e.symbol s.depth_left s.lifetimes false i ∙ trait_path_refers e.form e.output.is_printed e.symbol s.depth_left s.lifetimes i h)

  generic_reads : (i : ℕ) → s.place ≡ Some i → is_byte e.symbol i (code "B") ≡ false → is_byte e.symbol i (code "I") ≡ true
      → trace_of_state e.symbol e.form e.output.is_printed continuation.TraitPath s
      ≡ with_looks (1 ∷ 1 ∷ []) (and_then (with_closed_bracket (of e.form e.output.is_printed (unit_outcome about a_path false (Some (i + 1))))) (trace_of_frame e.symbol e.form e.output.is_printed (record (frame_at continuation.OpenTraitArguments s) { in_value = false })))
  unfolding trace_at
  generic_reads i at h k = rw at (trait_path_reads e.form e.output.is_printed e.symbol s.depth_left s.lifetimes false i ∙ trait_path_generic e.form e.output.is_printed e.symbol s.depth_left s.lifetimes i h k)

  plain_reads : (i : ℕ) → s.place ≡ Some i → is_byte e.symbol i (code "B") ≡ false → is_byte e.symbol i (code "I") ≡ false
      → trace_of_state e.symbol e.form e.output.is_printed continuation.TraitPath s ≡ with_looks (1 ∷ 1 ∷ []) (with_closed_bracket (of e.form e.output.is_printed (unit_outcome about a_path false (Some i))))
  unfolding trace_at
  plain_reads i at h k =
      let g = of e.form e.output.is_printed (unit_outcome about a_path false (Some i)) in
      rw at (trait_path_reads e.form e.output.is_printed e.symbol s.depth_left s.lifetimes false i
      ∙ (trait_path_plain e.form e.output.is_printed e.symbol s.depth_left s.lifetimes i h k
      ∙ ap (λ (x : Bool). with_looks (1 ∷ 1 ∷ []) (record { events = g.events; place = g.place; is_bracket_open = x })) (unit_closed e.symbol e.form e.output.is_printed s.depth_left s.lifetimes a_path false (Some i) tt)))

  -- Bindings, and the dyn traits after them.

  abbrev traits : Place → Bool → Trace
  traits j o = shut_at e next_traits s j

  left_reads : (o : Bool) (i : Place) → shut_at e (bindings_left o) s i ≡ and_then (open_at e (bindings o binding_value) s i) traits
  unfolding parse
  left_reads o i = refl

  traits_failed : traits None false ≡ empty_trace None false
  unfolding parse
  traits_failed = ap with_closed_bracket (over_trace e s false " + " (dyn_trait binding_value) done done None refl)

  failed_reads : (o : Bool) → shut_at e (bindings_left o) s None ≡ with_texts e.output.is_printed (pending_texts (closing_text o)) (empty_trace None false)
  failed_reads o =
      left_reads o None
      ∙ (ap (λ (h : Trace). and_then h traits) (bindings_failed e.form e.output.is_printed e.symbol s.depth_left s.lifetimes o)
      ∙ (handing_then e.output.is_printed (if_so o ">") (empty_trace None false) traits
      ∙ (ap (with_texts e.output.is_printed (if_so o ">")) traits_failed ∙ ap (λ ts. with_texts e.output.is_printed ts (empty_trace None false)) (end_text o))))

  over_reads : (o : Bool) (i : ℕ) → is_byte e.symbol i (code "p") ≡ false → shut_at e (bindings_left o) s (Some i) ≡ with_looks (1 ∷ []) (with_texts e.output.is_printed (pending_texts (closing_text o)) (traits (Some i) false))
  over_reads o i h =
      left_reads o (Some i)
      ∙ (ap (λ (h : Trace). and_then h traits) (bindings_over e.form e.output.is_printed e.symbol s.depth_left s.lifetimes o i h)
      ∙ (allowing_then (1 ∷ []) (with_texts e.output.is_printed (if_so o ">") (empty_trace (Some i) false)) traits
      ∙ (ap (with_looks (1 ∷ [])) (handing_then e.output.is_printed (if_so o ">") (empty_trace (Some i) false) traits)
      ∙ ap (λ ts. with_looks (1 ∷ []) (with_texts e.output.is_printed ts (traits (Some i) false))) (end_text o))))

  abbrev name_trace : ℕ → Trace
  name_trace i = shut_at e (token_items token_kind.BindingName 0 after_name) s (Some i)

  -- the value of a binding, and the items after it
  after_reads : (i : Place) → shut_at e after_name s i ≡ followed (open_at e binding_value s i) (shut_at e (bindings_left true) s)
  unfolding parse
  after_reads i = refl

  no_name : (i : ℕ) → identifier_at e.symbol i ≡ None → name_trace i ≡ with_looks (4 * (length e.symbol - i + 1) ∷ []) (with_texts e.output.is_printed (codes "{invalid syntax}" ∷ []) (empty_trace None false))
  unfolding parse
  no_name i f = rw f refl

  name_said : (a : Name) (j : Place) → open_at e (print_name a (print_str " = " after_name)) s j ≡ with_texts e.output.is_printed (name_pieces a ++ codes " = " ∷ []) (open_at e after_name s j)
  unfolding parse
  name_said a j =
      says_all e.form e.output.is_printed (name_pieces a) (print_str " = " after_name) about j
      ∙ sym (handing_both e.output.is_printed (name_pieces a) (codes " = " ∷ []) (open_at e after_name s j))

  a_name : (i j : ℕ) (a : Name) → identifier_at e.symbol i ≡ Some (a, j)
      → name_trace i ≡ with_looks (4 * (j - i + 1) ∷ []) (with_texts e.output.is_printed (name_pieces a ++ codes " = " ∷ []) (shut_at e after_name s (Some j)))
  unfolding parse
  a_name i j a f = rw f (ap (λ (h : Trace). with_looks (4 * (j - i + 1) ∷ []) (with_closed_bracket h)) (name_said a (Some j)))

  further : (i : Place) → followed (open_at e binding_value s i) (λ x. and_then (open_at e (bindings true binding_value) s x) traits) ≡ shut_at e after_name s i
  unfolding parse
  further i = refl

  on_reads : (o : Bool) (i : ℕ) → s.depth_left ≤ max_depth → is_byte e.symbol i (code "p") ≡ true → shut_at e (bindings_left o) s (Some i) ≡ with_looks (1 ∷ []) (with_texts e.output.is_printed (mark_of o ∷ []) (name_trace (i + 1)))
  on_reads o i l p = left_reads o (Some i) ∙ go (identifier_at e.symbol (i + 1)) refl
    where
      -- looks, and then texts
      out_of : (x : ℕ) (ts : List Text) (h : Trace) → and_then (with_looks (x ∷ []) (with_texts e.output.is_printed ts h)) traits ≡ with_looks (x ∷ []) (with_texts e.output.is_printed ts (and_then h traits))
      out_of x ts h = allowing_then (x ∷ []) (with_texts e.output.is_printed ts h) traits ∙ ap (with_looks (x ∷ [])) (handing_then e.output.is_printed ts h traits)

      -- after the pending text
      with_text : (x : ℕ) (ts : List Text) (h k : Trace) → open_at e (bindings o binding_value) s (Some i) ≡ with_looks (1 ∷ []) (with_texts e.output.is_printed (mark_of o ∷ []) (with_looks (x ∷ []) (with_texts e.output.is_printed ts h))) → and_then h traits ≡ k
          → name_trace (i + 1) ≡ with_looks (x ∷ []) (with_texts e.output.is_printed ts k) → and_then (open_at e (bindings o binding_value) s (Some i)) traits ≡ with_looks (1 ∷ []) (with_texts e.output.is_printed (mark_of o ∷ []) (name_trace (i + 1)))
      with_text x ts h k y z w =
          ap (λ (h : Trace). and_then h traits) y
          ∙ (out_of 1 (mark_of o ∷ []) (with_looks (x ∷ []) (with_texts e.output.is_printed ts h))
          ∙ ap (λ (h : Trace). with_looks (1 ∷ []) (with_texts e.output.is_printed (mark_of o ∷ []) h)) (out_of x ts h ∙ (ap (λ (h : Trace). with_looks (x ∷ []) (with_texts e.output.is_printed ts h)) z ∙ sym w)))

      go : (r : Read Name) → identifier_at e.symbol (i + 1) ≡ r → and_then (open_at e (bindings o binding_value) s (Some i)) traits ≡ with_looks (1 ∷ []) (with_texts e.output.is_printed (mark_of o ∷ []) (name_trace (i + 1)))
      go None f =
          with_text (4 * (length e.symbol - (i + 1) + 1)) (codes "{invalid syntax}" ∷ []) (empty_trace None false) (empty_trace None false) (binding_stops e.form e.output.is_printed e.symbol s.depth_left s.lifetimes o i p f) traits_failed (no_name (i + 1) f)
      go (Some r) f =
          let m : Place → Bool → Trace = λ x _. open_at e (bindings true binding_value) s x in
          with_text (4 * (r.1 - (i + 1) + 1)) (name_pieces r.0 ++ codes " = " ∷ []) (and_then (open_at e binding_value s (Some r.1)) m) (shut_at e after_name s (Some r.1)) (binding_reads e.form e.output.is_printed e.symbol s.depth_left s.lifetimes o i r.1 r.0 l p f)
          (and_then_assoc (open_at e binding_value s (Some r.1)) m traits ∙ further (Some r.1)) (a_name (i + 1) r.1 r.0 f)

  -- The value of a binding.

  bound_reads : (i : Place) (prefix : List ℕ) (g : Trace) → s.place ≡ i → open_at e binding_value s i ≡ with_looks prefix g
      → trace_of_state e.symbol e.form e.output.is_printed continuation.BindingValue s ≡ with_looks prefix (and_then (with_closed_bracket g) (frame_rest continuation.FurtherBindings))
  unfolding trace_at
  bound_reads i prefix g at h = rw at
      (after_reads i ∙ (ap (λ (h : Trace). followed h (shut_at e (bindings_left true) s)) h ∙ allowing_then prefix g (λ x _. shut_at e (bindings_left true) s x)))

  no_bound : open_at e binding_value s None ≡ of e.form e.output.is_printed (unit_outcome about a_type false None)
  unfolding parse
  no_bound = last_child e.form e.output.is_printed e.symbol s.depth_left s.lifetimes a_type false None tt

  -- The arguments of a dyn trait path, unfolded.

  open_so : (first : Bool) → HasNoError e s first → trace_of_state e.symbol e.form e.output.is_printed (open_point first) s ≡ open_at e (left_open first) s s.place
  unfolding trace_at
  open_so true w = unfolded e.form (leave_open done) about s.place w
  open_so false w = refl

module _ {V : Type 0} {e : Env V} where
  pub dyn_opens : {t : Machine V} {stack : List Frame} → Fits continuation.DynBinder t.state.depth_left t.state.lifetimes → stack ≡ t.stack ++ frame_at continuation.DynLifetime t.state ∷ []
      → PerformsRest e dyn_type 5 4 5 t (Ok continuation.DynBinder) (record t { state = record t.state { pending_text = Some fixed.Dyn }; stack = stack })
  unfolding parse then_frame trace_at
  dyn_opens {t} f r =
      text_step continuation.DynBinder [] [] (omega arith) (Some (frame_at continuation.DynLifetime t.state)) refl r (record { grows = omega arith; within = omega arith }) (omega arith) (omega arith) (omega arith) (omega arith) (omega arith) (omega (arith, f)) f (λ _. refl)

  -- Dyn traits.

  traits_as : {t u : Machine V} {r : Result Continuation StepError} (first : Bool) → PerformsRest e (left_traits first) 1 1 4 t r u → PerformsAt e (traits_point first) t r u
  unfolding trace_at
  traits_as true d = d
  traits_as false d = d

  pub traits_over : {t : Machine V} {j : Place} {n : ℕ} (first : Bool) → is_list_end e.symbol t.state.place ≡ true → j ≡ after_list e.symbol t.state.place → LooksWithin t.looks (list_costs t.state.place) n → t.state.pending_text ≡ None
      → PerformsAt e (traits_point first) t (Ok continuation.End) (record t { state = record t.state { place = j; is_bracket_open = false }; looks = n })
  unfolding parse trace_at
  traits_over {t} first h k p m = traits_as first (list_ends continuation.End (omega arith) (rw (k, m) (ap with_closed_bracket (over_trace e t.state first " + " (dyn_trait binding_value) done next_traits t.state.place h))) p (omega arith) (omega arith) tt)

  pub trait_on : {t : Machine V} {j : Place} {m : Option FixedText} {stack : List Frame} {n : ℕ} (first : Bool) → NotOver e.symbol t.state.place → j ≡ after_list e.symbol t.state.place → LooksWithin t.looks (list_costs t.state.place) n → m ≡ separator first fixed.Plus
      → Fits continuation.NextDynTrait t.state.depth_left t.state.lifetimes → stack ≡ t.stack ++ frame_at continuation.Bindings t.state ∷ [] → PerformsAt e (traits_point first) t (Ok continuation.TraitPath) (record t { state = record t.state { place = j; pending_text = m }; stack = stack; looks = n })
  unfolding then_frame trace_at
  trait_on {t} first i k p c f r =
      let within_budget = paid_on t.state.place p in
      traits_as first (text_step continuation.TraitPath (1 ∷ []) [] (omega arith) (Some (frame_at continuation.Bindings t.state)) (rw (k ∙ i.3, c, i.1) (trait_trace e t.state first i.0 f i.2)) r within_budget (omega arith) (rw i.1 (omega (arith, within_budget.within))) (omega arith) (omega arith) (omega arith) f f (λ _. refl))

  -- Paths of dyn traits.

  pub trait_refers : {t u : Machine V} {r : Result Continuation StepError} {n : ℕ} (i : ℕ) → t.state.place ≡ Some i → is_byte e.symbol i (code "B") ≡ true → n ≡ t.looks + 1 → i < length e.symbol
      → Performs e (machine (record t.state { place = Some (i + 1) }) t.stack t.output n) (part 1 (open_at e (target a_trait_path false) t.state (Some (i + 1))) 1 (8 * t.state.depth_left + 2)) r u
      → PerformsAt e continuation.TraitPath t r u
  trait_refers {t} i at b l within d = following (1 ∷ []) (omega arith) (refers_reads e t.state i at b) (one_look l) (rw at (omega (arith, l, within))) (omega arith) (omega arith) d

  pub generic_trait : {t : Machine V} {stack : List Frame} {n : ℕ} (i : ℕ) → t.state.place ≡ Some i → is_byte e.symbol i (code "B") ≡ false → is_byte e.symbol i (code "I") ≡ true → n ≡ t.looks + 2 → t.state.pending_text ≡ None → Fits continuation.TraitPath t.state.depth_left t.state.lifetimes
      → stack ≡ t.stack ++ record (frame_at continuation.OpenTraitArguments t.state) { in_value = false } ∷ [] → PerformsAt e continuation.TraitPath t (Ok continuation.Path) (record t { state = record t.state { in_value = false; place = Some (i + 1) }; stack = stack; looks = n })
  unfolding then_frame trace_at
  generic_trait {t} i at h k l m f r =
      text_step continuation.Path [] (1 ∷ 1 ∷ []) (omega arith) (Some (record (frame_at continuation.OpenTraitArguments t.state) { in_value = false })) (rw m (generic_reads e t.state i at h k)) r
      (record { grows = omega (arith, l); within = omega (arith, l) }) (omega arith) (rw at (omega (arith, l))) (omega arith) (omega arith) (omega arith) f f (λ _. refl)

  pub plain_trait : {t : Machine V} {n : ℕ} (i : ℕ) → t.state.place ≡ Some i → is_byte e.symbol i (code "B") ≡ false → is_byte e.symbol i (code "I") ≡ false → n ≡ t.looks + 2 → t.state.pending_text ≡ None → Fits continuation.TraitPath t.state.depth_left t.state.lifetimes
      → PerformsAt e continuation.TraitPath t (Ok continuation.Path) (record t { state = record t.state { in_value = false }; looks = n })
  unfolding then_frame trace_at
  plain_trait {t} i at h k l m f =
      text_step continuation.Path (1 ∷ 1 ∷ []) [] (omega arith) None (plain_reads e t.state i at h k ∙ ap (with_looks (1 ∷ 1 ∷ [])) (rw (m, at) refl)) refl (record { grows = omega (arith, l); within = omega (arith, l) }) (omega arith) (rw at (omega (arith, l))) (omega arith) (omega arith) (omega arith) tt f (λ _. tt)

  -- The arguments of a dyn trait path.

  open_as : {t u : Machine V} {r : Result Continuation StepError} (first : Bool) → HasNoError e t.state first → Performs e t (part 8 (open_at e (left_open first) t.state t.state.place) 1 (8 * t.state.depth_left + 2)) r u → PerformsAt e (open_point first) t r u
  unfolding trace_at
  open_as {t} true w d = alike (omega arith) (open_so e t.state true w) (omega arith) (omega arith) d
  open_as false w d = d

  pub open_over : {t : Machine V} {j : Place} {n : ℕ} (first : Bool) → HasNoError e t.state first → is_list_end e.symbol t.state.place ≡ true → j ≡ after_list e.symbol t.state.place → LooksWithin t.looks (list_costs t.state.place) n → t.state.pending_text ≡ None
      → PerformsAt e (open_point first) t (Ok continuation.End) (record t { state = record t.state { place = j; is_bracket_open = true }; looks = n })
  unfolding parse trace_at
  open_over {t} first w h k p m = open_as first w (list_ends continuation.End (omega arith) (rw (k, m) (over_trace e t.state first ", " argument (leave_open done) next_open t.state.place h)) p (omega arith) (omega arith) tt)

  pub open_on : {t : Machine V} {m : Option FixedText} {stack : List Frame} {n : ℕ} (first : Bool) (i : ℕ) → HasNoError e t.state first → t.state.place ≡ Some i → is_byte e.symbol i (code "E") ≡ false → LooksWithin t.looks (1 ∷ argument_costs e.symbol i) n → m ≡ separator first fixed.Comma
      → Fits continuation.NextTraitArgument t.state.depth_left t.state.lifetimes → stack ≡ t.stack ++ frame_at continuation.NextTraitArgument t.state ∷ []
      → PerformsAt e (open_point first) t (Ok (argument_continuation e.symbol i)) (record t { state = record t.state { in_value = false; place = Some (argument_place e.symbol i); pending_text = m }; stack = stack; looks = n })
  unfolding then_frame trace_at
  open_on {t} first i whole at h p c f r =
      let w = told e.symbol i in
      open_as first whole (text_step (argument_continuation e.symbol i) (1 ∷ []) (argument_costs e.symbol i) (omega (arith, w.primitive_count)) (Some (frame_at continuation.NextTraitArgument t.state)) (rw (c, at) (arguments_trace e t.state first (leave_open done) i f h))
      r p w.most (rw at (omega (arith, p.within, w.most))) (omega (arith, w.within.light)) (omega arith) (omega (arith, w.within.low t.state.depth_left)) f (w.within.fits t.state.depth_left t.state.lifetimes f) (λ _. refl))

  -- Bindings.

  pub binding_unread : {t : Machine V} {m : Option FixedText} (o : Bool) → t.state.place ≡ None → m ≡ closing_text o → PerformsRest e (bindings_left o) 8 2 4 t (Ok continuation.End) (record t { state = record t.state { is_bracket_open = false; pending_text = m } })
  unfolding trace_at
  binding_unread {t} o at m = marks continuation.End (rw (at, m) (failed_reads e t.state o)) (omega arith) (omega arith) tt

  pub binding_over : {t : Machine V} {m : Option FixedText} {n : ℕ} (o : Bool) (i : ℕ) → t.state.place ≡ Some i → is_byte e.symbol i (code "p") ≡ false → n ≡ t.looks + 1 → m ≡ closing_text o → Fits continuation.Bindings t.state.depth_left t.state.lifetimes
      → PerformsRest e (bindings_left o) 8 2 4 t (Ok continuation.NextDynTrait) (record t { state = record t.state { pending_text = m }; looks = n })
  unfolding then_frame trace_at
  binding_over {t} o i at h l m f =
      text_step continuation.NextDynTrait (1 ∷ []) [] (omega arith) None (rw (at, m) (over_reads e t.state o i h)) refl (one_look l) (omega arith) (rw at (omega (arith, l))) (omega arith) (omega arith) (omega arith) tt f (λ _. tt)

  pub binding_on : {t : Machine V} {m : FixedText} {n : ℕ} (o : Bool) (i : ℕ) → t.state.place ≡ Some i → is_byte e.symbol i (code "p") ≡ true → n ≡ t.looks + 1 → m ≡ opening_text o → Fits continuation.Bindings t.state.depth_left t.state.lifetimes
      → PerformsRest e (bindings_left o) 8 2 4 t (Ok continuation.BindingName) (record t { state = record t.state { place = Some (i + 1); pending_text = Some m }; looks = n })
  unfolding then_frame trace_at
  binding_on {t} o i at h l m f =
      text_step continuation.BindingName (1 ∷ []) [] (omega arith) None
      (rw (at, m) (on_reads e t.state o i (omega (arith, f)) h ∙ ap (λ (x : Text). with_looks (1 ∷ []) (with_texts e.output.is_printed (x ∷ []) (name_trace e t.state (i + 1)))) (first_text o))) refl
      (one_look l) (omega arith) (rw at (omega (arith, l))) (omega arith) (omega arith) (omega arith) tt f (λ _. tt)

  -- The value of a binding.

  binds : {t : Machine V} {stack : List Frame} {j : Place} {n : ℕ} (to : Continuation) (i : Place) (ks : List ℕ) (g : Trace) → length ks ≤ 8 → total ks ≤ 2 → t.state.place ≡ i → open_at e binding_value t.state i ≡ with_looks ks g → with_closed_bracket g ≡ trace_of_state e.symbol e.form e.output.is_printed to (record t.state { in_value = false; place = j })
      → LooksWithin t.looks ks n → n ≤ t.looks + step_looks_bound e.symbol t.state.place → t.state.pending_text ≡ None → weight_left to ≤ 1 → height_at to t.state.depth_left ≤ 8 * t.state.depth_left + 1 → Fits continuation.BindingValue t.state.depth_left t.state.lifetimes → Fits to t.state.depth_left t.state.lifetimes
      → stack ≡ t.stack ++ frame_at continuation.FurtherBindings t.state ∷ [] → PerformsAt e continuation.BindingValue t (Ok to) (record t { state = record t.state { in_value = false; place = j }; stack = stack; looks = n })
  unfolding then_frame
  binds {t} to i ks g primitive_count most at h q p short m w x f y r =
      text_step to [] ks (omega (arith, primitive_count)) (Some (frame_at continuation.FurtherBindings t.state)) (rw (m, sym q) (bound_reads e t.state i ks g at h)) r p most short (omega (arith, w)) (omega arith) (omega (arith, x)) f y (λ _. refl)

  pub bound_unread : {t : Machine V} {stack : List Frame} → t.state.place ≡ None → t.state.pending_text ≡ None → Fits continuation.BindingValue t.state.depth_left t.state.lifetimes → stack ≡ t.stack ++ frame_at continuation.FurtherBindings t.state ∷ []
      → PerformsAt e continuation.BindingValue t (Ok continuation.«Type») (record t { state = record t.state { in_value = false }; stack = stack })
  unfolding trace_at
  bound_unread {t} at m f r = binds continuation.«Type» None [] _ (omega arith) (omega arith) at (no_bound e t.state) (rw at refl) (record { grows = omega arith; within = omega arith }) (omega arith) m (omega arith) (omega arith) f f r

  pub bound_constant_on : {t : Machine V} {stack : List Frame} {n : ℕ} (i : ℕ) → t.state.place ≡ Some i → is_byte e.symbol i (code "K") ≡ true → n ≡ t.looks + 1 → t.state.pending_text ≡ None → Fits continuation.BindingValue t.state.depth_left t.state.lifetimes → stack ≡ t.stack ++ frame_at continuation.FurtherBindings t.state ∷ []
      → PerformsAt e continuation.BindingValue t (Ok continuation.Constant) (record t { state = record t.state { in_value = false; place = Some (i + 1) }; stack = stack; looks = n })
  unfolding trace_at
  bound_constant_on {t} i at h l m f r = binds continuation.Constant (Some i) (1 ∷ []) _ (omega arith) (omega arith) at (bound_constant e.form e.output.is_printed e.symbol t.state.depth_left t.state.lifetimes i h) refl (one_look l) (rw at (omega (arith, l))) m (omega arith) (omega arith) f f r

  pub bound_type_on : {t : Machine V} {stack : List Frame} {n : ℕ} (i : ℕ) → t.state.place ≡ Some i → is_byte e.symbol i (code "K") ≡ false → n ≡ t.looks + 1 → t.state.pending_text ≡ None → Fits continuation.BindingValue t.state.depth_left t.state.lifetimes → stack ≡ t.stack ++ frame_at continuation.FurtherBindings t.state ∷ []
      → PerformsAt e continuation.BindingValue t (Ok continuation.«Type») (record t { state = record t.state { in_value = false }; stack = stack; looks = n })
  unfolding trace_at
  bound_type_on {t} i at h l m f r = binds continuation.«Type» (Some i) (1 ∷ []) _ (omega arith) (omega arith) at (bound_type e.form e.output.is_printed e.symbol t.state.depth_left t.state.lifetimes i h) (rw at refl) (one_look l) (rw at (omega (arith, l))) m (omega arith) (omega arith) f f r
