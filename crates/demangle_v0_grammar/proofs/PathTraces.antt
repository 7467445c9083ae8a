-- The traces of paths, patterns, dyn trait paths and references, up to their next nested production.
use Rattle.std.specs.Prelude.{ℕ, codes}
use Rattle.std.proofs.Common.{◌≡◌, Bool, true, false, List, [], ◌∷◌, length, Some, None, refl, ap, ◌∙◌, ◌+◌, ◌-◌, ◌*◌}
use Prim.Native.Char.{code}
use Prim.Native.String.{String}
use Rattle.demangle_symbol.specs.Digits.{is_byte}
use Rattle.demangle_symbol.specs.Primitives.{byte_at}
use Rattle.demangle_v0_grammar.specs.Items.{a_path, a_pattern, a_trait_path, Items, done, target, leave_open}
use Rattle.demangle_v0_grammar.specs.Table.{print_str, arguments, pattern_of, trait_path}
use Rattle.demangle_v0_grammar.specs.Reading.{Form, Context, unit_outcome, parse}
use Rattle.demangle_v0_grammar.specs.Traces.{Trace, of, empty_trace, with_looks, with_texts, context_at}
use Rattle.demangle_v0_grammar.proofs.ClosedUnits.{last_child}
use Rattle.demangle_v0_grammar.proofs.ListTraces.{followed}
use Rattle.demangle_v0_grammar.proofs.UnitTraces.{begins}

abbrev pub open_arguments : Items
open_arguments = print_str "<" (arguments (leave_open done))

module _ (form : Form) (out : Bool) (b : List ℕ) (left n : ℕ) where
  abbrev here : Context
  here = context_at b form out left n

  abbrev stop_of : String → Trace
  stop_of text = with_texts out (codes text ∷ []) (empty_trace None false)

  -- Patterns.

  pub pattern_missing : (value : Bool) (i : ℕ) → byte_at b i ≡ None → of form out (unit_outcome here a_pattern value (Some i)) ≡ with_looks (4 * (length b - i + 1) ∷ []) (stop_of "{invalid syntax}")
  unfolding parse
  pattern_missing value i e = ap (of form out) (begins b form out left n a_pattern value i) ∙ rw e refl

  pub pattern_reads : (value : Bool) (i c j : ℕ) → byte_at b i ≡ Some (c, j) → of form out (unit_outcome here a_pattern value (Some i)) ≡ with_looks (4 * (j - i + 1) ∷ []) (of form out (parse (pattern_of c) here (Some j)))
  unfolding parse
  pattern_reads value i c j e = ap (of form out) (begins b form out left n a_pattern value i) ∙ rw e refl

  -- Dyn trait paths.

  pub trait_path_reads : (value : Bool) (i : ℕ) → of form out (unit_outcome here a_trait_path value (Some i)) ≡ of form out (parse trait_path here (Some i))
  trait_path_reads value i = ap (of form out) (begins b form out left n a_trait_path value i)

  pub trait_path_refers : (i : ℕ) → is_byte b i (code "B") ≡ true → of form out (parse trait_path here (Some i)) ≡ with_looks (1 ∷ []) (of form out (parse (target a_trait_path false) here (Some (i + 1))))
  unfolding parse
  trait_path_refers i e = rw e refl

  pub trait_path_generic : (i : ℕ) → is_byte b i (code "B") ≡ false → is_byte b i (code "I") ≡ true
      → of form out (parse trait_path here (Some i)) ≡ with_looks (1 ∷ 1 ∷ []) (followed (of form out (unit_outcome here a_path false (Some (i + 1)))) (λ j. of form out (parse open_arguments here j)))
  unfolding parse
  trait_path_generic i e f = rw (e, f) refl

  pub trait_path_plain : (i : ℕ) → is_byte b i (code "B") ≡ false → is_byte b i (code "I") ≡ false → of form out (parse trait_path here (Some i)) ≡ with_looks (1 ∷ 1 ∷ []) (of form out (unit_outcome here a_path false (Some i)))
  unfolding parse
  trait_path_plain i e f = rw (e, f) (ap (with_looks (1 ∷ 1 ∷ [])) (last_child form out b left n a_path false (Some i) tt))
