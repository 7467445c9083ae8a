-- Paths of impls.
use Rattle.std.specs.Prelude.{◌*◌}
use Rattle.std.proofs.Common.{◌≡◌, ℕ, ◌+◌, ◌-◌, length, Bool, true, false, Some, None, List, [], ◌∷◌, ◌++◌, Ok, Err, refl, arith, sym}
use Prim.Native.Char.{code}
use Rattle.demangle_symbol.specs.Primitives.{optional_at}
use Rattle.demangle_v0_grammar.specs.Traces.{and_then}
use Rattle.demangle_v0_parser.specs.Productions.{impl_items, impl_path_continuation, self_type_continuation}
use Rattle.demangle_v0_parser.specs.Traces.{frame_at, frame_of, trace_of_frame, trace_at}
use Rattle.demangle_v0_parser.specs.Steps.{Machine, Env, LooksWithin, PerformsRest, PerformsAt}
use Rattle.demangle_v0_parser.specs.Measure.{Fits}
use Rattle.demangle_v0_grammar.specs.Reading.{Form, Place, parse}
use Rattle.demangle_v0_tokens.specs.declared.fixed_texts.FixedText.TheVariants as fixed
use Rattle.demangle_v0_parser.specs.declared.Continuation.TheVariants as continuation
use Rattle.demangle_v0_parser.specs.declared.frames.Frame.{Frame}
use Rattle.demangle_v0_parser.specs.declared.StepError.TheVariants.{Abort}
use Rattle.demangle_v0_parser.proofs.StepCases.{after_error, ends, enters, moves}
use Rattle.demangle_v0_parser.proofs.PrimitiveLooks.{optional_there}

-- The path of an impl, which is not printed.
skip_trace : (b : List ℕ) (form : Form) (q : Bool) (v : Bool) (c left n : ℕ) (i : Place) (o : Bool)
    → trace_at b form false (impl_path_continuation q) v c left n i o ≡ and_then (trace_at b form false continuation.Path false c left n i o) (trace_of_frame b form false (frame_of (self_type_continuation q) v c left n))
unfolding trace_at parse
skip_trace b form true v c left n None o = refl
skip_trace b form true v c left n (Some i) o = refl
skip_trace b form false v c left n None o = refl
skip_trace b form false v c left n (Some i) o = refl

module _ {V : Type 0} {e : Env V} where
  -- After the tag of an impl.
  pub impl_unread : {t : Machine V} (q : Bool) → t.state.place ≡ None → t.state.pending_text ≡ None → PerformsRest e (impl_items q) 6 1 2 t (Err (Abort fixed.AfterError)) t
  unfolding parse
  impl_unread true at k = after_error k (rw at refl) (omega arith)
  impl_unread false at k = after_error k (rw at refl) (omega arith)

  pub impl_stops : {t : Machine V} {n : ℕ} (q : Bool) (i : ℕ) → t.state.place ≡ Some i → None ≡ optional_at (code "s") e.symbol i → LooksWithin t.looks (4 * (length e.symbol - i + 1) ∷ []) n → t.state.pending_text ≡ None → PerformsRest e (impl_items q) 6 1 2 t (Err (Abort fixed.Invalid)) (record t { looks = n })
  unfolding parse
  impl_stops true i at r p k = ends fixed.Invalid (4 * (length e.symbol - i + 1) ∷ []) (omega arith) k (rw (at, sym r) refl) p (rw at (omega (arith, p.within))) (omega arith)
  impl_stops false i at r p k = ends fixed.Invalid (4 * (length e.symbol - i + 1) ∷ []) (omega arith) k (rw (at, sym r) refl) p (rw at (omega (arith, p.within))) (omega arith)

  pub impl_continues : {t : Machine V} {n : ℕ} (q : Bool) (i m j : ℕ) → t.state.place ≡ Some i → Some (m, j) ≡ optional_at (code "s") e.symbol i → LooksWithin t.looks (4 * (j - i + 1) ∷ []) n → t.state.pending_text ≡ None → Fits continuation.Path t.state.depth_left t.state.lifetimes
      → PerformsRest e (impl_items q) 6 1 2 t (Ok (impl_path_continuation q)) (record t { state = record t.state { place = Some j }; looks = n })
  unfolding parse trace_at
  impl_continues true i m j at r p k f = moves continuation.TraitImplPath (4 * (j - i + 1) ∷ []) (omega arith) (rw (at, k, sym r) refl) p (rw at (omega (arith, p.within, (optional_there (code "s") e.symbol i m j (sym r)).1))) (omega arith) (omega arith) f
  impl_continues false i m j at r p k f = moves continuation.InherentImplPath (4 * (j - i + 1) ∷ []) (omega arith) (rw (at, k, sym r) refl) p (rw at (omega (arith, p.within, (optional_there (code "s") e.symbol i m j (sym r)).1))) (omega arith) (omega arith) f

  -- if the output prints nothing
  pub skip_continues : {t : Machine V} {stack : List Frame} (q : Bool) → e.output.is_printed ≡ false → t.state.pending_text ≡ None → Fits continuation.Path t.state.depth_left t.state.lifetimes → stack ≡ t.stack ++ frame_at (self_type_continuation q) t.state ∷ []
      → PerformsAt e (impl_path_continuation q) t (Ok continuation.Path) (record t { state = record t.state { in_value = false }; stack = stack })
  skip_continues {t} true without_output k f r = let s = t.state in enters continuation.Path (frame_at continuation.TraitSelfType s) (rw (without_output, k) (skip_trace e.symbol e.form true s.in_value s.letter s.depth_left s.lifetimes s.place s.is_bracket_open)) r (omega arith) (omega arith) (omega arith) f f refl
  skip_continues {t} false without_output k f r = let s = t.state in enters continuation.Path (frame_at continuation.InherentSelfType s) (rw (without_output, k) (skip_trace e.symbol e.form false s.in_value s.letter s.depth_left s.lifetimes s.place s.is_bracket_open)) r (omega arith) (omega arith) (omega arith) f f refl

  -- After the path of an impl.

  pub self_continues : {t : Machine V} {stack : List Frame} → Fits continuation.Path t.state.depth_left t.state.lifetimes → stack ≡ t.stack ++ frame_at continuation.AsTrait t.state ∷ [] → PerformsAt e continuation.TraitSelfType t (Ok continuation.«Type») (record t { state = record t.state { pending_text = Some fixed.Less }; stack = stack })
  unfolding parse trace_at
  self_continues {t} f r = enters continuation.«Type» (frame_at continuation.AsTrait t.state) refl r (omega arith) (omega arith) (omega arith) f f refl

  pub inherent_continues : {t : Machine V} {stack : List Frame} → Fits continuation.Path t.state.depth_left t.state.lifetimes → stack ≡ t.stack ++ frame_at continuation.CloseAngle t.state ∷ [] → PerformsAt e continuation.InherentSelfType t (Ok continuation.«Type») (record t { state = record t.state { pending_text = Some fixed.Less }; stack = stack })
  unfolding parse trace_at
  inherent_continues {t} f r = enters continuation.«Type» (frame_at continuation.CloseAngle t.state) refl r (omega arith) (omega arith) (omega arith) f f refl

  pub as_continues : {t : Machine V} {stack : List Frame} → Fits continuation.Path t.state.depth_left t.state.lifetimes → stack ≡ t.stack ++ frame_at continuation.CloseAngle t.state ∷ [] → PerformsAt e continuation.AsTrait t (Ok continuation.Path) (record t { state = record t.state { in_value = false; pending_text = Some fixed.AsTrait }; stack = stack })
  unfolding parse trace_at
  as_continues {t} f r = enters continuation.Path (frame_at continuation.CloseAngle t.state) refl r (omega arith) (omega arith) (omega arith) f f refl
