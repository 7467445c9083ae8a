-- The reading of digits, byte by byte.
use Rattle.std.proofs.Common.{◌≡◌, ℕ, ◌+◌, ◌-◌, ◌*◌, ◌^◌, ◌<◌, ◌≤◌, Bool, true, false, List, [], ◌∷◌, ◌++◌, length, map, drop, get_or, Option, Some, None, inl, inr, refl, sym, ap, ◌∙◌, arith}
use Rattle.std.specs.List.{slice_get, slice_range}
use Rattle.std.specs.Int.Digits.{number_from_digits}
use Rattle.std.proofs.lemmas.List.{take-take, take-append-drop, map-append, length-drop}
use Rattle.std.proofs.lemmas.List.Edits.{between_more, between_none}
use Rattle.std.proofs.lemmas.List.Sums.{prefix_len-drop_yes, prefix_len-drop_no, prefix_len-drop_all, prefix_len-le-length}
use Rattle.std.proofs.lemmas.Option.{slice_get_within, slice_get_cases, get_or_from_slice_get}
use Rattle.std.proofs.lemmas.Int.Digits.{number_push, number_after_append, number_after_ge}
use Rattle.std.proofs.lemmas.Bool.{eqb-true}
use Rattle.std.proofs.lemmas.Bool.Decides.{nat_tests}
use Rattle.demangle_symbol.specs.Digits.{run_end, number, is_digit_10, digit_10, Decimal, option_is, is_byte}
use Rattle.demangle_symbol.specs.Idents.{DigitsUpTo}

-- a byte that passes the test belongs to the run
pub run_more : (p : ℕ → Bool) (s : List ℕ) (k b : ℕ) → slice_get s k ≡ Some b → p b ≡ true → run_end p s k ≡ run_end p s (k + 1)
run_more p s k b here passes =
    let within : k < length s = slice_get_within s k b here in
    let is : get_or s k 0 ≡ b = get_or_from_slice_get s k b 0 here in
    omega (arith, prefix_len-drop_yes p s k 0 within (ap p is ∙ passes))

-- a byte that does not pass ends it
pub run_stops : (p : ℕ → Bool) (s : List ℕ) (k b : ℕ) → slice_get s k ≡ Some b → p b ≡ false → run_end p s k ≡ k
run_stops p s k b here fails =
    let within : k < length s = slice_get_within s k b here in
    let is : get_or s k 0 ≡ b = get_or_from_slice_get s k b 0 here in
    omega (arith, prefix_len-drop_no p s k 0 within (ap p is ∙ fails))

-- and so does the end
pub run_past : (p : ℕ → Bool) (s : List ℕ) (k : ℕ) → length s ≤ k → run_end p s k ≡ k
run_past p s k past = omega (arith, prefix_len-drop_all p s k past)

pub run_none : (p : ℕ → Bool) (s : List ℕ) (k : ℕ) → slice_get s k ≡ None → run_end p s k ≡ k
run_none p s k none =
    elim ((slice_get_cases s k).1) [ inl h ↦ let some : slice_get s k ≡ Some h.0 = h.2 in absurd (cc) | inr h ↦ run_past p s k h.0 ]

-- one more byte of a part
pub range_more : (s : List ℕ) (i k b : ℕ) → i ≤ k → slice_get s k ≡ Some b → slice_range s i (k + 1) ≡ slice_range s i k ++ b ∷ []
range_more s i k b le here =
    let within : k < length s = slice_get_within s k b here in
    let is : get_or s k 0 ≡ b = get_or_from_slice_get s k b 0 here in
    between_more s i k 0 le within ∙ ap (λ x. slice_range s i k ++ x ∷ []) is

pub number_none : (base : ℕ) (digit : ℕ → ℕ) (s : List ℕ) (i : ℕ) → number base digit (slice_range s i i) ≡ 0
unfolding number
number_none base digit s i = rw (between_none s i) refl

pub number_more : (base : ℕ) (digit : ℕ → ℕ) (s : List ℕ) (i k b : ℕ) → i ≤ k → slice_get s k ≡ Some b → number base digit (slice_range s i (k + 1)) ≡ number base digit (slice_range s i k) * base + digit b
unfolding number
number_more base digit s i k b le here =
    ap (λ ds. number_from_digits base (map digit ds)) (range_more s i k b le here)
    ∙ ap (number_from_digits base) (map-append digit (slice_range s i k) (b ∷ []))
    ∙ number_push base (map digit (slice_range s i k)) (digit b)

-- more digits spell a number that is not smaller
number_append : (base : ℕ) (digit : ℕ → ℕ) (xs ys : List ℕ) → 0 < base → number base digit xs ≤ number base digit (xs ++ ys)
unfolding number
number_append base digit xs ys some =
    rw (map-append digit xs ys)
    (rw (number_after_append base 0 (map digit xs) (map digit ys))
    (number_after_ge base (number_from_digits base (map digit xs)) (map digit ys) some))

pub number_part : (base : ℕ) (digit : ℕ → ℕ) (s : List ℕ) (i k m : ℕ) → 0 < base → k ≤ m → number base digit (slice_range s i k) ≤ number base digit (slice_range s i m)
number_part base digit s i k m some le =
    let short : k - i ≤ m - i = omega arith in
    let parts : slice_range s i k ++ drop (k - i) (slice_range s i m) ≡ slice_range s i m =
    rw (← (take-take (k - i) (m - i) (drop i s) short)) (take-append-drop (k - i) (slice_range s i m)) in
    rw (← parts) (number_append base digit (slice_range s i k) _ some)

pub digits_none : (s : List ℕ) (i : ℕ) → DigitsUpTo s i i 0
digits_none s i = record { order = omega arith; run = refl; value = sym (number_none 10 digit_10 s i) }

digit_passes : (d : ℕ) → d < 10 → is_digit_10 (d + 48) ≡ true
digit_passes d h = grind (arith, nat_tests)

-- one more digit
pub digits_more : (s : List ℕ) (i k n d : ℕ) → DigitsUpTo s i k n → slice_get s k ≡ Some (d + 48) → d < 10 → DigitsUpTo s i (k + 1) (n * 10 + d)
digits_more s i k n d h here small = record {
  order = omega (arith, h.order);
  run = h.run ∙ run_more is_digit_10 s k (d + 48) here (digit_passes d small);
  value = omega (arith, number_more 10 digit_10 s i k (d + 48) h.order here, h.value);
}

pub digits_decimal : (s : List ℕ) (i k n : ℕ) → DigitsUpTo s i k n → i < k → run_end is_digit_10 s k ≡ k → Decimal s i k n
digits_decimal s i k n h some stops =
    let e : run_end is_digit_10 s i ≡ k = h.run ∙ stops in
    record { some = omega (arith, e, some); next = sym e; value = h.value ∙ ap (λ j. number 10 digit_10 (slice_range s i j)) (sym e) }

-- they are within the bytes
pub digits_inside : (s : List ℕ) (i k n : ℕ) → DigitsUpTo s i k n → i < length s → k ≤ length s
digits_inside s i k n h inside =
    omega (arith, h.run, prefix_len-le-length is_digit_10 (drop i s), length-drop i s)

-- No decimal number below 2 ^ 64 starts at i, if n is the number of the digits before k and d the digit at k.
pub no_decimal_large : (s : List ℕ) (i k n d : ℕ) → DigitsUpTo s i k n → slice_get s k ≡ Some (d + 48) → d < 10 → 2 ^ 64 ≤ n * 10 + d → (j v : ℕ) → v < 2 ^ 64 → Decimal s i j v → ⊥
no_decimal_large s i k n d read here digit large j v small h =
    let more = digits_more s i k n d read here digit in
    let within : k < length s = slice_get_within s k (d + 48) here in
    let end : ℕ = run_end is_digit_10 s i in
    let most : number 10 digit_10 (slice_range s i (k + 1)) ≤ number 10 digit_10 (slice_range s i end) = number_part 10 digit_10 s i (k + 1) end (omega arith) (omega (arith, more.run)) in
    omega (arith, h.value, more.value)

pub no_decimal_none : (s : List ℕ) (i n : ℕ) → DigitsUpTo s i i n → run_end is_digit_10 s i ≡ i → (j v : ℕ) → Decimal s i j v → ⊥
no_decimal_none s i n read none j v h = omega (arith, h.some)

pub ruleset decimal_steps = (run_stops, run_past, digits_none, digits_more, digits_decimal, digits_inside, no_decimal_large, no_decimal_none)

option_is_some : (o : Option ℕ) (b : ℕ) → option_is o b ≡ true → o ≡ Some b
option_is_some None b h = cc
option_is_some (Some x) b h = ap (λ y. Some y) (eqb-true x b h)

-- a byte that is there
pub is_byte_there : (s : List ℕ) (i b : ℕ) → is_byte s i b ≡ true → slice_get s i ≡ Some b
unfolding is_byte
is_byte_there s i b h = option_is_some (slice_get s i) b h

pub is_byte_within : (s : List ℕ) (i b : ℕ) → is_byte s i b ≡ true → i < length s
is_byte_within s i b h = slice_get_within s i b (is_byte_there s i b h)
