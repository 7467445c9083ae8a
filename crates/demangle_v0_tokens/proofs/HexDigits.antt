-- The hexadecimal digits of a number, as many as there are places, including its leading zeros.
use Rattle.std.proofs.Common.{◌≡◌, ℕ, zero, suc, ◌+◌, ◌-◌, ◌*◌, ◌/◌, ◌%◌, ◌^◌, ◌<◌, ◌≤◌, Bool, true, false, ◌&&◌, T, eqb, eqb→eq, List, [], ◌∷◌, ◌++◌, drop, length, set, get_or, refl, ap, sym, ◌∙◌, inl, inr, arith, eq-zero-or-pos, append_assoc}
use Rattle.std.specs.Fmt.{digits, digits_onto, digit_glyph}
use Rattle.std.proofs.Math.Nat.{div-one, div-div-eq-div-mul, pow-le-pow_right, one-le-pow}
use Rattle.std.proofs.lemmas.List.{append-nil, drop-set}
use Rattle.std.proofs.lemmas.Grind.{pow_more}
use Rattle.std.proofs.lemmas.Nat.{leading_top, and_mask}
use Rattle.std.specs.Int.Count.{count_leading_zeros}
use Rattle.std.specs.Int.Bits.{bit_or, or_add_and}
use lib.Pow.{pow-add}
use lib.Ieee.Fits.{and_l, and_r}
use Rattle.demangle_symbol.proofs.Escaping.{onto_last, onto_more}
use Rattle.demangle_v0_tokens.specs.declared.render.numbers.TheConstants.{DIGIT_PAIRS_16}

-- The digits in the lowest places.
abbrev pub low_digits : ℕ → ℕ → List ℕ
low_digits zero n = []
low_digits (suc i) n = digit_glyph false (n / 16 ^ i % 16) ∷ low_digits i n

pub next_digit : (i n : ℕ) → n / 16 ^ i / 16 ≡ n / 16 ^ suc i
next_digit i n =
    let more : 16 ^ i * 16 ≡ 16 ^ suc i = omega (arith, pow_more 16 i) in
    div-div-eq-div-mul n (16 ^ i) 16 ∙ ap (λ p. n / p) more

first_off : (i n : ℕ) → n / 16 ^ suc i ≡ n / 16 / 16 ^ i
first_off i n =
    let more : 16 ^ suc i ≡ 16 * 16 ^ i = omega (arith, pow_more 16 i) in
    ap (λ p. n / p) more ∙ sym (div-div-eq-div-mul n 16 (16 ^ i))

-- The lowest digit is the last one.
lowest_last : (i n : ℕ) → low_digits (suc i) n ≡ low_digits i (n / 16) ++ digit_glyph false (n % 16) ∷ []
lowest_last zero n = ap (λ d. digit_glyph false (d % 16) ∷ []) (div-one n)
lowest_last (suc i) n = λ k. digit_glyph false (first_off i n k % 16) ∷ lowest_last i n k

-- Digits whose highest is not zero are those of the number, and so is a single digit.
onto_low : (i k n : ℕ) (text : List ℕ) → i < k → n < 16 ^ suc i → (0 < i → 16 ^ i ≤ n) → digits_onto k 16 false n text ≡ low_digits (suc i) n ++ text
onto_low zero k n text fuel below top =
    onto_last (k - 1) k n text (omega arith) (omega arith) ∙ sym (ap (λ ds. ds ++ text) (lowest_last zero n))
onto_low (suc i) k n text fuel below top =
    let some = one-le-pow i 16 (omega arith) in
    let least = top (omega arith) in
    onto_more (k - 1) k n text (omega arith) (omega (arith, some, least, pow_more 16 i))
    ∙ (onto_low i (k - 1) (n / 16) (digit_glyph false (n % 16) ∷ text) (omega arith) (omega (arith, below, pow_more 16 (suc i), pow_more 16 i)) (λ _. omega (arith, least, pow_more 16 i))
    ∙ (sym (append_assoc (low_digits (suc i) (n / 16)) (digit_glyph false (n % 16) ∷ []) text)
    ∙ sym (ap (λ ds. ds ++ text) (lowest_last (suc i) n))))

-- The digits in the lowest places follow those in the highest.
drop_low : (z k i n : ℕ) → k ≡ z + i → drop z (low_digits k n) ≡ low_digits i n
drop_low zero k i n e = let same : k ≡ i = omega arith in ap (λ m. low_digits m n) same
drop_low (suc z) zero i n e = absurd (omega arith)
drop_low (suc z) (suc k) i n e = drop_low z k i n (omega arith)

-- The two digits of a byte.
abbrev are_pairs : ℕ → Bool
are_pairs zero = true
are_pairs (suc d) = eqb (get_or DIGIT_PAIRS_16 (d * 2) 0) (digit_glyph false (d / 16)) && (eqb (get_or DIGIT_PAIRS_16 (d * 2 + 1) 0) (digit_glyph false (d % 16)) && are_pairs d)

pair_below : (n d : ℕ) → T (are_pairs n) → d < n → (get_or DIGIT_PAIRS_16 (d * 2) 0 ≡ digit_glyph false (d / 16)) × (get_or DIGIT_PAIRS_16 (d * 2 + 1) 0 ≡ digit_glyph false (d % 16))
pair_below zero d t h = absurd (omega arith)
pair_below (suc n) d t h =
    let high = eqb (get_or DIGIT_PAIRS_16 (n * 2) 0) (digit_glyph false (n / 16)) in
    let low = eqb (get_or DIGIT_PAIRS_16 (n * 2 + 1) 0) (digit_glyph false (n % 16)) in
    let others : T (low && are_pairs n) = and_r high (low && are_pairs n) t in
    elim (eq-zero-or-pos (n - d)) [
      | inl z ↦ let e : d ≡ n = omega arith in rw e (eqb→eq _ _ (and_l high (low && are_pairs n) t), eqb→eq _ _ (and_l low (are_pairs n) others))
      | inr g ↦ pair_below n d (and_r low (are_pairs n) others) (omega arith)
    ]

pub high_digit : (r : ℕ) → get_or DIGIT_PAIRS_16 (r % 256 * 2) 0 ≡ digit_glyph false (r / 16 % 16)
high_digit r = (pair_below 256 (r % 256) tt (omega arith)).0 ∙ ap (digit_glyph false) (omega arith)

pub low_digit : (r : ℕ) → get_or DIGIT_PAIRS_16 (r % 256 * 2 + 1) 0 ≡ digit_glyph false (r % 16)
low_digit r = (pair_below 256 (r % 256) tt (omega arith)).1 ∙ ap (digit_glyph false) (omega arith)

-- A digit that is written comes before the text that followed its place.
pub digit_put : (text : List ℕ) (at x g : ℕ) → at < length text → x ≡ g → drop at (set text at x) ≡ g ∷ drop (at + 1) text
digit_put text at x g le e = drop-set text at x le ∙ (λ t. e t ∷ drop (at + 1) text)

-- A hexadecimal digit has as many values as four binary ones.
four_each : (i : ℕ) → 16 ^ i ≡ 2 ^ (4 * i)
four_each zero = refl
four_each (suc i) =
    let next : 4 * suc i ≡ 4 * i + 4 = omega arith in
    let more : 2 ^ (4 * suc i) ≡ 2 ^ (4 * i) * 16 = ap (λ e. 2 ^ e) next ∙ pow-add 2 (4 * i) 4 in
    omega (arith, four_each i, more, pow_more 16 i)

-- The digits that are not leading zeros are those of the number.
pub zeros_off : (n : ℕ) → n < 2 ^ 64 → drop (count_leading_zeros 64 (bit_or n 1) / 4) (low_digits 16 n) ≡ digits 16 false n
unfolding digits
zeros_off n fits =
    let odd : bit_or n 1 + n % 2 ≡ n + 1 = omega (arith, or_add_and n 1, and_mask n 1) in
    let top = leading_top 64 (bit_or n 1) (omega (arith, odd)) (omega (arith, odd, fits)) in
    let j = top.0 in
    let z = count_leading_zeros 64 (bit_or n 1) / 4 in
    let i = 15 - z in
    let above : 2 ^ suc j ≤ 2 ^ (4 * suc i) = pow-le-pow_right (omega arith) (omega (arith, top.1)) in
    drop_low z 16 (suc i) n (omega (arith, top.1))
    ∙ sym (onto_low i 64 n [] (omega arith) (rw (four_each (suc i)) (omega (arith, odd, top.3, above))) (λ some.
    let under : 2 ^ (4 * i) ≤ 2 ^ j = pow-le-pow_right (omega arith) (omega (arith, top.1)) in
    let even : 16 ^ i ≡ 16 ^ (i - 1) * 16 = ap (λ m. 16 ^ m) (omega (arith, some)) ∙ pow_more 16 (i - 1) in
    omega (arith, odd, top.2, under, even, four_each i)) ∙ append-nil _)
