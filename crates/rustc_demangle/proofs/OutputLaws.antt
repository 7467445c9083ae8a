-- A text that is filtered with a linear limit has at most 1,000 bytes for each byte of the input.
use Rattle.std.proofs.Common.{◌≡◌, ℕ, zero, suc, ◌+◌, ◌-◌, ◌*◌, ◌≤◌, ◌<◌, ◌⊎◌, inl, inr, Bool, true, false, cond, List, [], ◌∷◌, length, drop, Option, None, Some, refl, sym, ap, subst, ◌∙◌, arith, length-append}
use Rattle.std.specs.Option.{option_map_or}
use Rattle.std.specs.List.{concat, prefix_len, take_while}
use Rattle.std.proofs.lemmas.List.{take-append-drop}
use Rattle.std.proofs.Math.Nat.{min-le_right}
use Rattle.demangle_value.specs.Filtered.{is_run_byte, replacement_in}
use Rattle.demangle_value.specs.Limits.{most_bytes, bytes_within}
use Rattle.rustc_demangle.specs.Rewritten.{before_of, starts_candidate, stays, replacement_of, rewritten_by, rewritten_in}
use Rattle.demangle_value.specs.Stripped.{stripped}
use Rattle.demangle_value.specs.Symbols.{form_in, limit_in, handed_in, pieces_in}
use Rattle.rustc_demangle.specs.declared.byte_before.ByteBefore.{ByteBefore}
use Rattle.rustc_demangle.specs.declared.byte_before.ByteBefore.TheVariants.{Outside}
use Rattle.demangle_value.specs.declared.format.Format.{Format}
use Rattle.demangle_value.specs.declared.format.SizeLimit.{SizeLimit}
use Rattle.demangle_value.specs.declared.format.SizeLimit.TheVariants as size
use Rattle.rustc_demangle.proofs.CandidateLemmas.{candidate_turn}
use Rattle.demangle_value.proofs.Stripping.{stripped-shorter}
use Rattle.demangle_value.proofs.SymbolLaws.{length_handed_in}
use Rattle.demangle_value.proofs.SymbolLemmas.{symbol-pieces}

cases : (b : Bool) → (b ≡ true) ⊎ (b ≡ false)
cases true = inl refl
cases false = inr refl

-- the linear limit of a text
limit_at : (format : Format) (text : List ℕ) → format.limit ≡ size.Linear → limit_in format text ≤ 999 * length text - 20
limit_at format text e =
    subst (λ (limit : SizeLimit). bytes_within limit (length text) ≤ 999 * length text - 20) (sym e) (min-le_right most_bytes (999 * length text - 20))

-- what a text prints, if its scheme accepts it
pub linear_handed : (format : Format) (text : List ℕ) (read : List (List ℕ) × List ℕ) → format.limit ≡ size.Linear → pieces_in (form_in format text) text ≡ Some read
    → length (concat (handed_in text format)) ≤ 1000 * length text + 20
linear_handed format text read e is = omega (arith, length_handed_in text format (symbol-pieces (form_in format text) text read is), limit_at format text e)

-- the replacement of a run
linear_replacement : (format : Format) (run : List ℕ) → format.limit ≡ size.Linear → 0 < length run → length (replacement_in format run) ≤ 1000 * length run
linear_replacement format run e some = at (pieces_in (form_in format (stripped run)) (stripped run)) refl
  where
    at : (read : Option (List (List ℕ) × List ℕ)) → pieces_in (form_in format (stripped run)) (stripped run) ≡ read
        → length (option_map_or (λ _. concat (handed_in (stripped run) format)) read run) ≤ 1000 * length run
    at None is = omega arith
    at (Some read) is =
        omega (arith, some, length_handed_in (stripped run) format (symbol-pieces (form_in format (stripped run)) (stripped run) read is), limit_at format (stripped run) e, stripped-shorter run)

linear_candidate : (format : Format) (run : List ℕ) → format.limit ≡ size.Linear → 0 < length run → length (replacement_of format run) ≤ 1000 * length run
linear_candidate format run e some = at (stays run)
  where
    at : (b : Bool) → length (cond b run (replacement_in format run)) ≤ 1000 * length run
    at true = omega arith
    at false = linear_replacement format run e some

linear_from : (format : Format) (skip : ℕ) (before : ByteBefore) (s : List ℕ) → format.limit ≡ size.Linear
    → length (rewritten_by (replacement_of format) skip before s) ≤ 1000 * length (drop skip s)
unfolding rewritten_by
linear_from format zero before [] e = omega arith
linear_from format (suc skip) before [] e = omega arith
linear_from format (suc skip) before (c ∷ s) e = linear_from format skip (before_of c) s e
linear_from format zero before (c ∷ s) e = elim (cases (starts_candidate before (c ∷ s))) [
  | inl some ↦
      let f = replacement_of format in
      let run = c ∷ take_while is_run_byte s in
      let n = prefix_len is_run_byte s in
      let whole : length (c ∷ s) ≡ length run + length (drop n s) = ap (λ l. length (c ∷ l)) (sym (take-append-drop n s)) ∙ length-append run (drop n s) in
      subst (λ b. length (candidate_turn f before c s b) ≤ 1000 * length (c ∷ s)) (sym some)
      (omega (arith, length-append (f run) (rewritten_by f n (before_of c) s), whole, linear_candidate format run e (omega arith), linear_from format n (before_of c) s e))
  | inr none ↦
      let f = replacement_of format in
      subst (λ b. length (candidate_turn f before c s b) ≤ 1000 * length (c ∷ s)) (sym none) (omega (arith, linear_from format zero (before_of c) s e))
]

pub rewritten_linear : (format : Format) → format.limit ≡ size.Linear → (text : List ℕ) → length (rewritten_in format text) ≤ 1000 * length text
rewritten_linear format e text = linear_from format zero Outside text e
