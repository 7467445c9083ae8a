-- The continuations of a path's generic arguments.
use Rattle.std.specs.Prelude.{◌*◌, ◌&&◌}
use Rattle.std.proofs.Common.{◌≡◌, ℕ, ◌+◌, ◌≤◌, Bool, true, false, Some, List, [], ◌∷◌, ◌++◌, Result, Ok, refl, arith, ap, ◌∙◌, length}
use Prim.Native.Char.{code}
use Rattle.demangle_symbol.specs.Digits.{is_byte}
use Rattle.demangle_v0_grammar.specs.Items.{Items, done}
use Rattle.demangle_v0_grammar.specs.LookTotals.{total}
use Rattle.demangle_v0_grammar.specs.Traces.{Trace, with_looks, with_texts, context_at}
use Rattle.demangle_v0_grammar.specs.Table.{more, argument, print_str}
use Rattle.demangle_v0_grammar.specs.Reading.{Place, Context, parse}
use Rattle.demangle_v0_tokens.specs.Texts.{text}
use Rattle.demangle_v0_parser.specs.Productions.{separator, arguments_continuation, argument_continuation, argument_place, argument_costs}
use Rattle.demangle_v0_parser.specs.Steps.{Machine, Env, LooksWithin, Performs, PerformsAt, part}
use Rattle.demangle_v0_parser.specs.Traces.{frame_at, then_frame, trace_at, trace_of_state, with_closed_bracket, pending_texts}
use Rattle.demangle_v0_parser.specs.Measure.{Fits}
use Rattle.demangle_v0_parser.specs.Continuations.{is_list_end, after_list, list_costs}
use Rattle.demangle_v0_tokens.specs.declared.fixed_texts.FixedText.TheVariants as fixed
use Rattle.demangle_v0_parser.specs.declared.Continuation.{Continuation}
use Rattle.demangle_v0_parser.specs.declared.Continuation.TheVariants as continuation
use Rattle.demangle_v0_parser.specs.declared.StepError.{StepError}
use Rattle.demangle_v0_parser.specs.declared.frames.Frame.{Frame}
use Rattle.demangle_v0_parser.specs.declared.State.{State}
use Rattle.demangle_v0_grammar.proofs.ListProgress.{argument_element}
use Rattle.demangle_v0_grammar.proofs.Folded.{unfolded}
use Rattle.demangle_v0_grammar.proofs.ListTraces.{followed, argument_lifetime, argument_constant, argument_type}
use Rattle.demangle_v0_parser.proofs.StepCases.{Within, alike, text_step}
use Rattle.demangle_v0_parser.proofs.ListSteps.{trace_left, open_at, shut_at, over_trace, on_trace, list_ends}

-- which kind of argument the bytes at this place start
pub record Told (b : List ℕ) (i : ℕ) : Type 0 where
  pub primitive_count : length (argument_costs b i) ≤ 2
  pub most : total (argument_costs b i) ≤ 2
  pub within : Within (argument_continuation b i) 1 1

pub told : (b : List ℕ) (i : ℕ) → Told b i
told b i = go (is_byte b i (code "L")) (is_byte b i (code "K")) refl refl
  where
    go : (x y : Bool) → is_byte b i (code "L") ≡ x → is_byte b i (code "K") ≡ y → Told b i
    go true y p q = record { primitive_count = rw p (omega arith); most = rw p (omega arith); within = rw p (record { light = omega arith; low = λ left. omega arith; fits = λ left n f. f }) }
    go false true p q = record { primitive_count = rw p (omega arith); most = rw p (omega arith); within = rw (p, q) (record { light = omega arith; low = λ left. omega arith; fits = λ left n f. f }) }
    go false false p q = record { primitive_count = rw p (omega arith); most = rw p (omega arith); within = rw (p, q) (record { light = omega arith; low = λ left. omega arith; fits = λ left n f. f }) }

module _ {V : Type 0} (e : Env V) (s : State) where
  abbrev about : Context
  about = context_at e.symbol e.form e.output.is_printed s.depth_left s.lifetimes

  abbrev next : Items
  next = more ", " argument (print_str ">" done)

  -- the argument is not folded
  abbrev pub HasNoError : Bool → Type 0
  HasNoError first = first && (e.output.is_printed && e.form.fold_arguments) ≡ false

  list_so : (first : Bool) (i : Place) → HasNoError first → trace_of_state e.symbol e.form e.output.is_printed (arguments_continuation first) (record s { place = i }) ≡ shut_at e (trace_left first ", " argument (print_str ">" done) next) s i
  unfolding trace_at
  list_so true i w = ap with_closed_bracket (unfolded e.form (print_str ">" done) about i w)
  list_so false i w = refl

  -- an argument, and the items after it
  pub argument_reads : (i : ℕ) (k : Place → Trace)
      → followed (open_at e argument s (Some i)) k
      ≡ with_looks (argument_costs e.symbol i) (followed (trace_of_state e.symbol e.form e.output.is_printed (argument_continuation e.symbol i) (record s { in_value = false; place = Some (argument_place e.symbol i) })) k)
  unfolding trace_at
  argument_reads i k = go (is_byte e.symbol i (code "L")) (is_byte e.symbol i (code "K")) refl refl
    where
      go : (x y : Bool) → is_byte e.symbol i (code "L") ≡ x → is_byte e.symbol i (code "K") ≡ y → followed (open_at e argument s (Some i)) k
          ≡ with_looks (argument_costs e.symbol i) (followed (trace_of_state e.symbol e.form e.output.is_printed (argument_continuation e.symbol i) (record s { in_value = false; place = Some (argument_place e.symbol i) })) k)
      go true y p q = rw p (ap (λ (h : Trace). followed h k) (argument_lifetime e.form e.output.is_printed about i p))
      go false true p q = rw (p, q) (argument_constant e.form e.output.is_printed about i k p q)
      go false false p q = rw (p, q) (argument_type e.form e.output.is_printed about i k p q)

  -- the next argument of a list, after the look for its end
  pub arguments_trace : (first : Bool) (z : Items) (i : ℕ) → Fits continuation.NextArgument s.depth_left s.lifetimes → is_byte e.symbol i (code "E") ≡ false → open_at e (trace_left first ", " argument z (more ", " argument z)) s (Some i)
      ≡ with_looks (1 ∷ []) (with_texts e.output.is_printed (pending_texts (separator first fixed.Comma)) (with_looks (argument_costs e.symbol i)
      (followed (trace_of_state e.symbol e.form e.output.is_printed (argument_continuation e.symbol i) (record s { in_value = false; place = Some (argument_place e.symbol i) })) (open_at e (more ", " argument z) s))))
  arguments_trace true z i f h = on_trace e s true ", " fixed.Comma refl argument z (more ", " argument z) i (argument_element e.symbol e.form e.output.is_printed s.depth_left s.lifetimes (omega (arith, f))) h ∙ ap (with_looks (1 ∷ [])) (argument_reads i (open_at e (more ", " argument z) s))
  arguments_trace false z i f h =
      on_trace e s false ", " fixed.Comma refl argument z (more ", " argument z) i (argument_element e.symbol e.form e.output.is_printed s.depth_left s.lifetimes (omega (arith, f))) h
      ∙ ap (λ (h : Trace). with_looks (1 ∷ []) (with_texts e.output.is_printed (text fixed.Comma ∷ []) h)) (argument_reads i (open_at e (more ", " argument z) s))

module _ {V : Type 0} {e : Env V} where
  as_arguments : {t u : Machine V} {r : Result Continuation StepError} (first : Bool) → Performs e t (part 8 (trace_of_state e.symbol e.form e.output.is_printed (arguments_continuation first) t.state) 1 (8 * t.state.depth_left + 2)) r u → PerformsAt e (arguments_continuation first) t r u
  as_arguments true d = alike (omega arith) refl (omega arith) (omega arith) d
  as_arguments false d = d

  pub arguments_close : {t : Machine V} {j : Place} {n : ℕ} (first : Bool) → HasNoError e t.state first → is_list_end e.symbol t.state.place ≡ true → j ≡ after_list e.symbol t.state.place → LooksWithin t.looks (list_costs t.state.place) n
      → PerformsAt e (arguments_continuation first) t (Ok continuation.End) (record t { state = record t.state { place = j; pending_text = Some fixed.Greater; is_bracket_open = false }; looks = n })
  unfolding parse trace_at
  arguments_close {t} first w h k p = as_arguments first (list_ends continuation.End (omega arith) (rw k (list_so e t.state first t.state.place w ∙ ap with_closed_bracket (over_trace e t.state first ", " argument (print_str ">" done) (more ", " argument (print_str ">" done)) t.state.place h))) p (omega arith) (omega arith) tt)

  pub argument_continues : {t : Machine V} {stack : List Frame} {n : ℕ} (first : Bool) (i : ℕ) → HasNoError e t.state first → t.state.place ≡ Some i → is_byte e.symbol i (code "E") ≡ false → LooksWithin t.looks (1 ∷ argument_costs e.symbol i) n → Fits continuation.NextArgument t.state.depth_left t.state.lifetimes
      → stack ≡ t.stack ++ frame_at continuation.NextArgument t.state ∷ []
      → PerformsAt e (arguments_continuation first) t (Ok (argument_continuation e.symbol i)) (record t { state = record t.state { in_value = false; place = Some (argument_place e.symbol i); pending_text = separator first fixed.Comma }; stack = stack; looks = n })
  unfolding then_frame trace_at
  argument_continues {t} first i whole at z p f r =
      let s = t.state in
      let w = told e.symbol i in
      as_arguments first (text_step (argument_continuation e.symbol i) (1 ∷ []) (argument_costs e.symbol i) (omega (arith, w.primitive_count)) (Some (frame_at continuation.NextArgument s))
      (list_so e s first s.place whole ∙ rw at (ap with_closed_bracket (arguments_trace e s first (print_str ">" done) i f z)))
      r p w.most (rw at (omega (arith, p.within, w.most))) (omega (arith, w.within.light)) (omega arith) (omega (arith, w.within.low s.depth_left)) f (w.within.fits s.depth_left s.lifetimes f) (λ _. refl))
