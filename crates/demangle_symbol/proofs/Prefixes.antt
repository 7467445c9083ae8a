-- The text after a prefix.
use Rattle.std.proofs.Common.{◌≡◌, ℕ, inl, inr, Bool, true, false, cond, List, [], ◌∷◌, ◌++◌, Option, Some, None, refl, sym, ap, ◌∙◌, arith, eqb, option_map}
use Rattle.std.specs.Prelude.{MatchOption}
use Rattle.std.specs.Borrow.{Bor}
use Rattle.std.specs.Str.Pattern.{FindsTextPrefix, StripsPrefix}
use Rattle.std.proofs.lemmas.Bool.Decides.{nat_tests}
use Rattle.std.proofs.lemmas.Bool.{eqb-true}
use Rattle.demangle_symbol.specs.Prefix.{after_prefix}
use Rattle.demangle_symbol.proofs.Options.{none_some, option_cases}

pub after_spelled : (p x : List ℕ) → after_prefix p (p ++ x) ≡ Some x
after_spelled [] x = refl
after_spelled (c ∷ p) x =
    let same : eqb c c ≡ true = grind (arith, nat_tests) in
    ap (λ b. cond b (after_prefix p (p ++ x)) None) same ∙ after_spelled p x

pub after_is : (p s x : List ℕ) → after_prefix p s ≡ Some x → s ≡ p ++ x
after_is [] s x e = cc
after_is (c ∷ p) [] x e = absurd (none_some x e)
after_is (c ∷ p) (d ∷ s) x e = at_test (eqb d c) refl e (after_is p s x) where
  at_test : (b : Bool) → eqb d c ≡ b → cond b (after_prefix p s) None ≡ Some x → (after_prefix p s ≡ Some x → s ≡ p ++ x) → d ∷ s ≡ c ∷ (p ++ x)
  at_test true h e rest = ap (λ y. y ∷ s) (eqb-true d c h) ∙ ap (λ t. c ∷ t) (rest e)
  at_test false h e rest = absurd (none_some x e)

-- the result of `strip_prefix`
pub after_answer : (p s : List ℕ) (r : Option (Bor (List ℕ))) → MatchOption r (FindsTextPrefix p s None) (λ x. StripsPrefix (FindsTextPrefix p) s x.now) → option_map (λ (x : Bor (List ℕ)). x.now) r ≡ after_prefix p s
after_answer p s None h = elim (option_cases (after_prefix p s)) [ inl e ↦ sym e | inr e ↦ absurd (h e.0 (after_is p s e.0 e.1)) ]
after_answer p s (Some x) h =
    let k : s ≡ p ++ x.now = h.1.1 ∙ ap (λ t. p ++ t) (sym h.2) in
    sym (ap (after_prefix p) k ∙ after_spelled p x.now)
