-- The bytes before the one that a search finds.
use Rattle.std.proofs.Common.{◌≡◌, ◌≢◌, ℕ, suc, ◌+◌, ◌-◌, ◌<◌, ◌≤◌, true, false, eqb, List, ◌∷◌, All, get_or, length, take, drop, inl, inr, refl, sym, ap, subst, ◌∙◌, arith}
use Rattle.std.proofs.Math.Seq.{drop-cons}
use Rattle.std.proofs.lemmas.List.{get_or-take, get_or-drop, length-take-le}
use Rattle.std.proofs.lemmas.List.Elements.{All-from_get_or}
use Rattle.std.proofs.lemmas.Bool.{cases_lt}
use Rattle.std.proofs.lemmas.Bool.Decides.{nat_tests}
use Rattle.memchr.specs.Find.{Nowhere, Passes, is_byte}
use Rattle.demangle_value.specs.Filtered.{starts_run}

-- the bytes before the one that was found differ from it
pub none_met : (byte : ℕ) (xs : List ℕ) (n : ℕ) → n ≤ length xs → Nowhere (Passes (is_byte byte) xs) 0 n → All (λ x. x ≢ byte) (take n xs)
none_met byte xs n le h = All-from_get_or (λ x. x ≢ byte) (take n xs) 0 (λ i lt.
    let small : i < n = omega (arith, length-take-le n xs le) in
    subst (λ x. x ≢ byte) (sym (get_or-take n xs i 0 small)) (λ e. h i (omega arith) small (let t : eqb (get_or xs i 0) byte ≡ true = grind (arith, nat_tests) in t)))

-- no run starts at another byte
pub no_mark : (c : ℕ) (s : List ℕ) → (eqb c 95 ≡ true → ⊥) → starts_run (c ∷ s) ≡ false
no_mark c s h = let t : eqb 95 c ≡ false = grind (arith, nat_tests) in rw t refl

-- no run starts before the first `_`
pub no_run_before : (xs : List ℕ) (from n k : ℕ) → from + n ≤ length xs → Nowhere (Passes (is_byte 95) (drop from xs)) 0 n → from ≤ k → k < from + n → starts_run (drop k xs) ≡ false
no_run_before xs from n k le h low high =
    let same : get_or (drop from xs) (k - from) 0 ≡ get_or xs k 0 = get_or-drop from xs (k - from) 0 ∙ ap (λ i. get_or xs i 0) (omega arith) in
    ap starts_run (drop-cons xs k 0 (omega arith)) ∙ no_mark (get_or xs k 0) (drop (suc k) xs) (λ e. h (k - from) (omega arith) (omega arith) (ap (λ x. eqb x 95) same ∙ e))

-- a search from a place before which no run starts
pub no_run_up_to : (xs : List ℕ) (from n : ℕ) → from + n ≤ length xs → ((k : ℕ) → k < from → starts_run (drop k xs) ≡ false) → Nowhere (Passes (is_byte 95) (drop from xs)) 0 n → (k : ℕ) → k < from + n → starts_run (drop k xs) ≡ false
no_run_up_to xs from n le before h k lt = elim (cases_lt k from) [
  | inl low ↦ before k low
  | inr high ↦ no_run_before xs from n k le h high lt
]

pub no_run_after : (xs : List ℕ) (at k : ℕ) → ((k : ℕ) → k < at → starts_run (drop k xs) ≡ false) → starts_run (drop at xs) ≡ false → k < at + 1 → starts_run (drop k xs) ≡ false
no_run_after xs at k before here lt = elim (cases_lt k at) [
  | inl low ↦ before k low
  | inr high ↦ let same : k ≡ at = omega arith in ap (λ j. starts_run (drop j xs)) same ∙ here
]

-- a search that continues after the byte that was found
pub no_run_on : (xs : List ℕ) (at end k : ℕ) → ((k : ℕ) → k < at + 1 → starts_run (drop k xs) ≡ false) → ((k : ℕ) → at + 1 ≤ k → k < end → starts_run (drop k xs) ≡ false) → k < end → starts_run (drop k xs) ≡ false
no_run_on xs at end k before following lt = elim (cases_lt k (at + 1)) [
  | inl low ↦ before k low
  | inr high ↦ following k high lt
]

-- no run starts at two bytes that are not its first ones
pub no_run_at : (xs : List ℕ) (k a b : ℕ) → k + 1 < length xs → a ≡ get_or xs k 0 → b ≡ get_or xs (k + 1) 0 → ((more : List ℕ) → starts_run (a ∷ b ∷ more) ≡ false) → starts_run (drop k xs) ≡ false
no_run_at xs k a b lt first second none =
    let next : b ≡ get_or xs (suc k) 0 = second ∙ ap (λ i. get_or xs i 0) (omega arith) in
    ap starts_run (drop-cons xs k 0 (omega (arith, lt)))
    ∙ (ap (λ s. starts_run (get_or xs k 0 ∷ s)) (drop-cons xs (suc k) 0 (omega (arith, lt)))
    ∙ (ap (λ x. starts_run (x ∷ get_or xs (suc k) 0 ∷ drop (suc (suc k)) xs)) (sym first)
    ∙ (ap (λ x. starts_run (a ∷ x ∷ drop (suc (suc k)) xs)) (sym next) ∙ none (drop (suc (suc k)) xs))))
