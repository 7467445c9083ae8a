-- The rules of budgets: a larger budget, lists joined, and what a budget bounds.
use Rattle.std.specs.Prelude.{map}
use Rattle.std.proofs.Common.{ℕ, zero, suc, ◌≡◌, ◌+◌, ◌-◌, ◌*◌, ◌≤◌, List, [], ◌∷◌, ◌++◌, take, ap, sym, ◌∙◌, subst, append_assoc, arith}
use Rattle.std.proofs.lemmas.List.{map-append}
use Rattle.demangle_v0_grammar.specs.LookBudget.{LookCost, bytes_of, looks_of, IsWithinBudget}

-- If the budget is larger by `f` at the start, it is larger by `f` at the end.
pub IsWithinBudget-more : (r a b c d f : ℕ) (xs : List LookCost) → a + f ≤ b → d ≤ c + f → IsWithinBudget r a xs c → IsWithinBudget r b xs d
IsWithinBudget-more r a b c d f [] m l p = omega arith
IsWithinBudget-more r a b c d f (s ∷ xs) m l p = (
  omega arith,
  IsWithinBudget-more r (a - s.looks + r * s.bytes) (b - s.looks + r * s.bytes) c d f xs (omega arith) l p.1,
)

-- one list after another
pub IsWithinBudget-append : (r a b c : ℕ) (xs ys : List LookCost) → IsWithinBudget r a xs b → IsWithinBudget r b ys c → IsWithinBudget r a (xs ++ ys) c
IsWithinBudget-append r a b c [] ys p q = IsWithinBudget-more r b a c c 0 ys (omega arith) (omega arith) q
IsWithinBudget-append r a b c (s ∷ xs) ys p q = (p.0, IsWithinBudget-append r (a - s.looks + r * s.bytes) b c xs ys p.1 q)

-- a list in two parts
pub IsWithinBudget-parts : (r a c : ℕ) (xs ys zs all : List LookCost) → all ≡ xs ++ ys → IsWithinBudget r a (all ++ zs) c → IsWithinBudget r a (xs ++ (ys ++ zs)) c
IsWithinBudget-parts r a c xs ys zs all e h = subst (λ ws. IsWithinBudget r a ws c) (ap (λ ws. ws ++ zs) e ∙ append_assoc xs ys zs) h

-- the costs of two parts of a list
pub IsWithinBudget-mapped : {A : Type 0} (f : A → LookCost) (r a c : ℕ) (xs ys : List A) (zs : List LookCost) → IsWithinBudget r a (map f xs ++ (map f ys ++ zs)) c → IsWithinBudget r a (map f (xs ++ ys) ++ zs) c
IsWithinBudget-mapped f r a c xs ys zs h = subst (λ ws. IsWithinBudget r a ws c) (sym (ap (λ ws. ws ++ zs) (map-append f xs ys) ∙ append_assoc (map f xs) (map f ys) zs)) h

-- What a budget bounds: the looks up to and including an entry, by the bytes before it.
pub IsWithinBudget-bound : (r a c : ℕ) (xs : List LookCost) (k : ℕ) → IsWithinBudget r a xs c →
    looks_of (take (suc k) xs) ≤ a + r * bytes_of (take k xs)
IsWithinBudget-bound r a c [] k p = omega arith
IsWithinBudget-bound r a c (s ∷ xs) zero p = omega arith
IsWithinBudget-bound r a c (s ∷ xs) (suc k) p =
    let h : looks_of (take (suc k) xs) ≤ (a - s.looks + r * s.bytes) + r * bytes_of (take k xs) =
    IsWithinBudget-bound r (a - s.looks + r * s.bytes) c xs k p.1 in
    omega arith

pub IsWithinBudget-whole : (r a c : ℕ) (xs : List LookCost) → IsWithinBudget r a xs c → looks_of xs + c ≤ a + r * bytes_of xs
IsWithinBudget-whole r a c [] p = omega arith
IsWithinBudget-whole r a c (s ∷ xs) p =
    let h : looks_of xs + c ≤ (a - s.looks + r * s.bytes) + r * bytes_of xs =
    IsWithinBudget-whole r (a - s.looks + r * s.bytes) c xs p.1 in
    omega arith
