-- The lowest byte of a word that is not 0, from its trailing zeros.
use Rattle.std.proofs.Common.{◌≡◌, ◌≢◌, ℕ, zero, suc, ◌+◌, ◌*◌, ◌/◌, ◌%◌, ◌^◌, ◌<◌, ◌≤◌}
use Rattle.std.proofs.Common.{refl, sym, ap, ◌∙◌, subst, arith, inl, inr}
use Rattle.std.proofs.Math.Nat.{pow-suc, pow-succ', mul_assoc}
use Rattle.std.proofs.lemmas.Bool.{cases_eq}
use Rattle.std.specs.Int.{byte_worth, sum_through}
use lib.Count.{count_trailing_zeros, under}

-- the number whose bytes are d 0 to d k, the lowest first
abbrev pub word : (ℕ → ℕ) → ℕ → ℕ
word d k = sum_through (λ i. byte_worth i (d i)) k

-- the byte r is the lowest of them that is not 0
abbrev pub IsLowest : (ℕ → ℕ) → ℕ → ℕ → Type 0
IsLowest d k r = (r ≤ k) × (d r ≢ 0) × ((j : ℕ) → j < r → d j ≡ 0)

word_step : (d : ℕ → ℕ) (k : ℕ) → word d (suc k) ≡ d 0 + 256 * word (λ i. d (suc i)) k
word_step d zero = omega arith
word_step d (suc k) =
    let b = d (suc (suc k)) in
    let last = ap (λ p. b * p) (pow-suc 256 (suc k)) ∙ sym (mul_assoc b (256 ^ suc k) 256) in
    omega (arith, word_step d k, last)

twice : (j n : ℕ) → 2 ^ suc j * n ≡ 2 * (2 ^ j * n)
twice j n = ap (λ p. p * n) (pow-succ' 2 j) ∙ mul_assoc 2 (2 ^ j) n

doubled : (m n : ℕ) → count_trailing_zeros (suc m) (2 * n) ≡ suc (count_trailing_zeros m n)
unfolding count_trailing_zeros
doubled m n =
    let lowest : 2 * n % 2 ≡ 0 = omega arith in
    let others : 2 * n / 2 ≡ n = omega arith in
    λ i. under (lowest i) (count_trailing_zeros m (others i))

with_equal : (k m x y : ℕ) → k ≡ m → x ≡ y → count_trailing_zeros k x ≡ count_trailing_zeros m y
with_equal k m x y bits number = λ i. count_trailing_zeros (bits i) (number i)

-- j zeros come from a factor 2 ^ j
zeros_of_factor : (j m k x n : ℕ) → k ≡ j + m → x ≡ 2 ^ j * n
    → count_trailing_zeros k x ≡ j + count_trailing_zeros m n
zeros_of_factor zero m k x n size same =
    let bits : k ≡ m = omega (arith, size) in
    let number : x ≡ n = omega (arith, same) in
    omega (arith, with_equal k m x n bits number)
zeros_of_factor (suc j) m k x n size same =
    let bits : k ≡ suc (j + m) = omega (arith, size) in
    let number : x ≡ 2 * (2 ^ j * n) = same ∙ twice j n in
    let one = with_equal k (suc (j + m)) x (2 * (2 ^ j * n)) bits number ∙ doubled (j + m) (2 ^ j * n) in
    omega (arith, one, zeros_of_factor j m (j + m) (2 ^ j * n) n refl refl)

-- one of the lowest j bits is set
zeros_within : (j m b n : ℕ) → 0 < b → b < 2 ^ j → count_trailing_zeros m (b + 2 ^ j * n) < j
unfolding count_trailing_zeros
zeros_within zero m b n pos low = absurd (omega arith)
zeros_within (suc j) zero b n pos low = omega arith
zeros_within (suc j) (suc m) b n pos low =
    let double = twice j n in
    let half = pow-succ' 2 j in
    elim (cases_eq (b % 2) 0) [
      | inl even ↦
          let lowest : (b + 2 ^ suc j * n) % 2 ≡ 0 = omega (arith, double, even) in
          let others : (b + 2 ^ suc j * n) / 2 ≡ b / 2 + 2 ^ j * n = omega (arith, double, even) in
          let rest = zeros_within j m (b / 2) n (omega (arith, even, pos)) (omega (arith, low, half)) in
          subst (λ t. t < suc j) (sym (λ i. under (lowest i) (count_trailing_zeros m (others i))))
          (omega (arith, rest))
      | inr odd ↦
          let lowest : (b + 2 ^ suc j * n) % 2 ≡ 1 = omega (arith, double, odd) in
          subst (λ t. under t (count_trailing_zeros m ((b + 2 ^ suc j * n) / 2)) < suc j) (sym lowest)
          (omega arith)
    ]

a_byte_more : (x y : ℕ) → x ≡ 8 + y → suc (y / 8) ≡ x / 8
a_byte_more x y e = omega (arith, e)

lowest_is_first : (d : ℕ → ℕ) (k zeros : ℕ) → d 0 ≢ 0 → zeros < 8 → IsLowest d k (zeros / 8)
lowest_is_first d k zeros set few =
    let first : 0 ≡ zeros / 8 = omega (arith, few) in
    subst (IsLowest d k) first (omega arith, set, λ j low. absurd (omega arith))

pub lowest_byte : (k : ℕ) (d : ℕ → ℕ) → ((j : ℕ) → d j < 256) → word d k ≢ 0
    → IsLowest d k (count_trailing_zeros (8 * suc k) (word d k) / 8)
lowest_byte zero d bytes some =
    let same : d 0 ≡ d 0 + 2 ^ 8 * 0 = omega arith in
    let few = zeros_within 8 8 (d 0) 0 (omega (arith, some)) (bytes 0) in
    lowest_is_first d 0 _ some (subst (λ n. count_trailing_zeros 8 n < 8) (sym same) few)
lowest_byte (suc k) d bytes some =
    let rest = word (λ i. d (suc i)) k in
    let step = word_step d k in
    elim (cases_eq (d 0) 0) [
      | inl none ↦
          let set : rest ≢ 0 = λ e. some (omega (arith, step, none, e)) in
          let inner = lowest_byte k (λ i. d (suc i)) (λ j. bytes (suc j)) set in
          let size : 8 * suc (suc k) ≡ 8 + 8 * suc k = omega arith in
          let same : word d (suc k) ≡ 2 ^ 8 * rest = omega (arith, step, none) in
          let zeros = zeros_of_factor 8 (8 * suc k) _ _ rest size same in
          subst (IsLowest d (suc k)) (a_byte_more _ _ zeros) (omega (arith, inner.0), inner.1, before d _ none inner.2)
      | inr set ↦
          let same : d 0 + 2 ^ 8 * rest ≡ word d (suc k) = omega (arith, step) in
          let few = zeros_within 8 (8 * suc (suc k)) (d 0) rest (omega (arith, set)) (bytes 0) in
          lowest_is_first d (suc k) _ set (subst (λ n. count_trailing_zeros (8 * suc (suc k)) n < 8) same few)
    ]
  where
    before : (d : ℕ → ℕ) (r : ℕ) → d 0 ≡ 0 → ((j : ℕ) → j < r → d (suc j) ≡ 0) → (j : ℕ) → j < suc r → d j ≡ 0
    before d r none rest zero low = none
    before d r none rest (suc j) low = rest j (omega arith)

pub no_byte : (k : ℕ) (d : ℕ → ℕ) → word d k ≡ 0 → (j : ℕ) → j ≤ k → d j ≡ 0
no_byte zero d none zero le = none
no_byte zero d none (suc j) le = absurd (omega arith)
no_byte (suc k) d none zero le = omega (arith, word_step d k, none)
no_byte (suc k) d none (suc j) le = no_byte k (λ i. d (suc i)) (omega (arith, word_step d k, none)) j (omega arith)
