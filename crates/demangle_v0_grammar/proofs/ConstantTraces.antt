-- The traces of constants, up to their next nested production.
use Rattle.std.specs.Prelude.{ℕ, ◌<◌, codes}
use Rattle.std.proofs.Common.{◌≡◌, Bool, true, false, List, [], ◌∷◌, length, Some, None, refl, ap, ◌∙◌, ◌+◌, ◌-◌, ◌*◌}
use Prim.Native.Char.{code}
use Prim.Native.String.{String}
use Rattle.demangle_symbol.specs.Digits.{is_byte}
use Rattle.demangle_symbol.specs.Primitives.{byte_at}
use Rattle.demangle_v0_grammar.specs.Items.{a_constant, Items, byte, next, child, raise}
use Rattle.demangle_v0_grammar.specs.Table.{print_str, constant, braces, integer_constant, string, variant}
use Rattle.demangle_v0_grammar.specs.Reading.{Form, Outcome, Context, unit_outcome, parse}
use Rattle.demangle_v0_grammar.specs.Traces.{Trace, of, empty_trace, with_looks, with_texts, context_at}
use Rattle.demangle_v0_grammar.proofs.UnitTraces.{begins, raise_deep, raise_on}

abbrev pub reference_items : Bool → Items
reference_items value = braces value (λ p. print_str "&" (child a_constant true p))

module _ (form : Form) (out : Bool) (b : List ℕ) (left n : ℕ) where
  abbrev s : Context
  s = context_at b form out left n

  abbrev fault_of : String → Trace
  fault_of text = with_texts out (codes text ∷ []) (empty_trace None false)

  pub constant_missing : (value : Bool) (i : ℕ) → byte_at b i ≡ None → of form out (unit_outcome s a_constant value (Some i)) ≡ with_looks (4 * (length b - i + 1) ∷ []) (fault_of "{invalid syntax}")
  unfolding parse
  constant_missing value i e = ap (of form out) (begins b form out left n a_constant value i) ∙ rw e refl

  constant_so : (value : Bool) (i c j : ℕ) → byte_at b i ≡ Some (c, j) → of form out (unit_outcome s a_constant value (Some i)) ≡ with_looks (4 * (j - i + 1) ∷ []) (of form out (parse (raise (constant value c)) s (Some j)))
  unfolding parse
  constant_so value i c j e = ap (of form out) (begins b form out left n a_constant value i) ∙ rw e refl

  pub constant_deep : (value : Bool) (i c j : ℕ) → byte_at b i ≡ Some (c, j) → left ≡ 0 → of form out (unit_outcome s a_constant value (Some i)) ≡ with_looks (4 * (j - i + 1) ∷ []) (fault_of "{recursion limit reached}")
  constant_deep value i c j e l = constant_so value i c j e ∙ ap (λ (o : Outcome). with_looks (4 * (j - i + 1) ∷ []) (of form out o)) (raise_deep b form out left n (constant value c) (Some j) l)

  pub constant_reads : (value : Bool) (i c j : ℕ) → byte_at b i ≡ Some (c, j) → 0 < left → of form out (unit_outcome s a_constant value (Some i)) ≡ with_looks (4 * (j - i + 1) ∷ []) (of form out (parse (constant value c) (context_at b form out (left - 1) n) (Some j)))
  constant_reads value i c j e l = constant_so value i c j e ∙ ap (λ (o : Outcome). with_looks (4 * (j - i + 1) ∷ []) (of form out o)) (raise_on b form out left n (constant value c) (Some j) l)

  -- a sign
  pub minus_reads : (tag i : ℕ) → is_byte b i (code "n") ≡ true → of form out (parse (next (code "n") (print_str "-" (integer_constant tag)) (integer_constant tag)) s (Some i)) ≡ with_looks (1 ∷ []) (with_texts out (codes "-" ∷ []) (of form out (parse (integer_constant tag) s (Some (i + 1)))))
  unfolding parse
  minus_reads tag i e = rw e refl

  pub plus_reads : (tag i : ℕ) → is_byte b i (code "n") ≡ false → of form out (parse (next (code "n") (print_str "-" (integer_constant tag)) (integer_constant tag)) s (Some i)) ≡ with_looks (1 ∷ []) (of form out (parse (integer_constant tag) s (Some i)))
  unfolding parse
  plus_reads tag i e = rw e refl

  pub text_reads : (value : Bool) (i : ℕ) → is_byte b i (code "e") ≡ true → of form out (parse (next (code "e") string (reference_items value)) s (Some i)) ≡ with_looks (1 ∷ []) (of form out (parse string s (Some (i + 1))))
  unfolding parse
  text_reads value i e = rw e refl

  pub reference_reads : (value : Bool) (i : ℕ) → is_byte b i (code "e") ≡ false → of form out (parse (next (code "e") string (reference_items value)) s (Some i)) ≡ with_looks (1 ∷ []) (of form out (parse (reference_items value) s (Some i)))
  unfolding parse
  reference_reads value i e = rw e refl

  pub variant_failed : (p : Items) → of form out (parse (byte (variant p)) s None) ≡ fault_of "?"
  unfolding parse
  variant_failed p = refl

  pub variant_missing : (p : Items) (i : ℕ) → byte_at b i ≡ None → of form out (parse (byte (variant p)) s (Some i)) ≡ with_looks (4 * (length b - i + 1) ∷ []) (fault_of "{invalid syntax}")
  unfolding parse
  variant_missing p i e = rw e refl

  pub variant_reads : (p : Items) (i c j : ℕ) → byte_at b i ≡ Some (c, j) → of form out (parse (byte (variant p)) s (Some i)) ≡ with_looks (4 * (j - i + 1) ∷ []) (of form out (parse (variant p c) s (Some j)))
  unfolding parse
  variant_reads p i c j e = rw e refl
