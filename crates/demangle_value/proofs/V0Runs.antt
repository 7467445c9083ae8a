-- Runs that start as v0 symbols.
use Rattle.std.specs.Option.{option_or}
use Rattle.std.proofs.Common.{◌≡◌, ◌<◌, ℕ, length, arith, ◌⊎◌, inl, inr, Bool, true, false, cond, ◌||◌, ◌&&◌, List, [], ◌∷◌, ◌++◌, Option, None, nat_eq, get_or, refl, sym, ap, subst, ◌∙◌}
use Rattle.std.proofs.lemmas.Bool.{eqb-true, false≢true}
use Rattle.demangle_legacy.specs.Legacy.{inner_of, legacy_of}
use Rattle.demangle_legacy.proofs.LegacyLaws.{legacy_no_prefix}
use Rattle.demangle_value.specs.Stripped.{stripped}
use Rattle.demangle_value.specs.Tried.{is_v0_run}
use Rattle.demangle_value.proofs.Stripping.{stripped_prefix}

-- the second byte is `R`, or the second and third are `_R`
abbrev StartsAsV0 : (second third : ℕ) → Type 0
StartsAsV0 second third = (second ≡ 82) ⊎ ((second ≡ 95) × (third ≡ 82))

starts_so : (second third : ℕ) → (nat_eq second 82 || (nat_eq second 95 && nat_eq third 82)) ≡ true → StartsAsV0 second third
starts_so second third is = at (nat_eq second 82) (nat_eq second 95) (nat_eq third 82) refl refl refl is
  where
    at : (a b d : Bool) → nat_eq second 82 ≡ a → nat_eq second 95 ≡ b → nat_eq third 82 ≡ d → (a || (b && d)) ≡ true → StartsAsV0 second third
    at true b d e f g is = inl (eqb-true second 82 e)
    at false true true e f g is = inr (eqb-true second 95 f, eqb-true third 82 g)
    at false true false e f g is = absurd (false≢true is)
    at false false d e f g is = absurd (false≢true is)

-- no prefix of a legacy symbol, by whether the first byte is `_` and whether it is `Z`
no_prefix : (a z : Bool) → ◌≡◌ {A = Option (List ℕ)} (option_or (cond a None None) (option_or (cond z None None) (cond a None None))) None
no_prefix true true = refl
no_prefix true false = refl
no_prefix false true = refl
no_prefix false false = refl

no_inner : (s run : List ℕ) (rest : List ℕ) → is_v0_run run ≡ true → run ≡ s ++ rest → None ≡ inner_of s
unfolding inner_of
no_inner [] run rest is e = refl
no_inner (a ∷ []) run rest is e = sym (no_prefix (nat_eq a 95) (nat_eq a 90))
no_inner (a ∷ b ∷ s) [] rest is e = absurd (false≢true is)
no_inner (a ∷ b ∷ s) (x ∷ []) rest is e = absurd (false≢true is)
no_inner (a ∷ b ∷ s) (x ∷ y ∷ []) rest is e = absurd (false≢true is)
no_inner (a ∷ b ∷ []) (x ∷ y ∷ z ∷ more) rest is e = elim (starts_so y z is) [
  | inl r ↦ subst (λ n. None ≡ inner_of (a ∷ n ∷ [])) (sym r ∙ ap (λ l. get_or l 1 0) e) (sym (no_prefix (nat_eq a 95) (nat_eq a 90)))
  | inr r ↦ subst (λ n. None ≡ inner_of (a ∷ n ∷ [])) (sym r.0 ∙ ap (λ l. get_or l 1 0) e) (sym (no_prefix (nat_eq a 95) (nat_eq a 90)))
]
no_inner (a ∷ b ∷ d ∷ s) (x ∷ y ∷ z ∷ more) rest is e = elim (starts_so y z is) [
  | inl r ↦ subst (λ n. None ≡ inner_of (a ∷ n ∷ d ∷ s)) (sym r ∙ ap (λ l. get_or l 1 0) e) (sym (no_prefix (nat_eq a 95) (nat_eq a 90)))
  | inr r ↦ subst (λ n. None ≡ inner_of (a ∷ n ∷ d ∷ s)) (sym r.0 ∙ ap (λ l. get_or l 1 0) e)
      (subst (λ n. None ≡ inner_of (a ∷ 95 ∷ n ∷ s)) (sym r.1 ∙ ap (λ l. get_or l 2 0) e) (sym (no_prefix (nat_eq a 95) (nat_eq a 90))))
]

-- such a run has at least three bytes
pub v0_run_long : (run : List ℕ) → is_v0_run run ≡ true → 2 < length run
v0_run_long [] is = absurd (false≢true is)
v0_run_long (a ∷ []) is = absurd (false≢true is)
v0_run_long (a ∷ b ∷ []) is = absurd (false≢true is)
v0_run_long (a ∷ b ∷ d ∷ s) is = omega arith

-- no such run is a legacy symbol
pub not_legacy : (run : List ℕ) → is_v0_run run ≡ true → legacy_of (stripped run) ≡ None
not_legacy run is = let prefix = stripped_prefix run in legacy_no_prefix (stripped run) (no_inner (stripped run) run prefix.0 is prefix.1)
