-- The ends of integers whose value is not computed.
use Rattle.std.proofs.Common.{◌≡◌, inl, inr, ℕ, zero, suc, Bool, ◌+◌, ◌*◌, ◌^◌, ◌<◌, ◌≤◌, true, false, List, [], ◌∷◌, length, drop, Option, Some, None, Result, Ok, Err, sym, refl, ap, subst, ◌∙◌, arith, lit<}
use Rattle.std.proofs.Math.Nat.{pow-le-pow_right, mul-le-mul_right}
use Rattle.std.specs.Prelude.{IfOk, option_map, ◌&&◌, nat_lt}
use Rattle.std.specs.Result.{result_ok}
use Rattle.std.specs.Str.{IsCharBoundary}
use Rattle.std.specs.List.{slice_get, slice_range}
use Rattle.std.proofs.lemmas.Bool.{cases_lt, ltb-true}
use Rattle.std.proofs.lemmas.Bool.Decides.{nat_tests}
use Rattle.std.proofs.lemmas.List.{drop-drop}
use Rattle.std.proofs.lemmas.Option.{slice_get_within, get_or_from_slice_get}
use Rattle.std.proofs.lemmas.Str.{IsCharBoundary-before_ascii}
use Rattle.std.proofs.lemmas.Grind.{pow_more}
use Rattle.demangle_symbol.specs.Digits.{run_end, number, is_byte}
use Rattle.demangle_symbol.specs.Integers.{Digit62, Digits62UpTo, DigitsBelow, OneMore, one_more_at}
use Rattle.demangle_symbol.specs.Primitives.{Read, only_if, integer_value, is_digit_62, digit_62, Integer, integer_at, optional_at, OptInteger}
use Rattle.demangle_symbol.proofs.Digits.{number_none, is_byte_there}
use Rattle.demangle_symbol.proofs.Integers.{digits_none, digits_first, digits_more, digits_integer, integer_empty, no_integer_other, no_integer_large, no_integer_last, no_integer_past, integer_read, integer_unread, one_more, one_more_bad, one_more_large, optional_there, optional_absent}

-- In the bytes from i on.

get_drop : (s : List ℕ) (i k : ℕ) → slice_get (drop i s) k ≡ slice_get s (i + k)
get_drop s zero k = let e : k ≡ 0 + k = omega arith in ap (slice_get s) e
get_drop [] (suc i) k = refl
get_drop (b ∷ s) (suc i) k = let e : suc (i + k) ≡ suc i + k = omega arith in get_drop s i k ∙ ap (slice_get (b ∷ s)) e

pub part_digit : (s : List ℕ) (i k d : ℕ) → Digit62 (drop i s) k d → Digit62 s (i + k) d
part_digit s i k d h = record { byte = h.byte; there = sym (get_drop s i k) ∙ h.there; passes = h.passes; value = h.value }

pub part_end : (s : List ℕ) (i k : ℕ) → slice_get (drop i s) k ≡ Some 95 → slice_get s (i + k) ≡ Some 95
part_end s i k h = sym (get_drop s i k) ∙ h

pub part_stops : (s : List ℕ) (i k : ℕ) → run_end is_digit_62 (drop i s) k ≡ k → run_end is_digit_62 s (i + k) ≡ i + k
part_stops s i k h = let at = rw drop-drop at h in omega (arith, at)

pub digit_boundary : (s : List ℕ) (i d : ℕ) → Digit62 s i d → IsCharBoundary s i
digit_boundary s i d h =
    let within : i < length s = slice_get_within s i h.byte h.there in
    let small : h.byte < 128 = grind (arith, nat_tests, h.passes) in
    IsCharBoundary-before_ascii s i within (rw (get_or_from_slice_get s i h.byte 0 h.there) small)

-- Digits that spell a small number.

pub below_first : (s : List ℕ) (i d : ℕ) → Digit62 s i d → DigitsBelow s i (i + 1) (d + 1)
below_first s i d h = record { n = d; digits = digits_first s i d h; small = omega arith }

pub below_more : (s : List ℕ) (i k m d : ℕ) → DigitsBelow s i (i + k) m → Digit62 (drop i s) k d → d < 62 → DigitsBelow s i (i + k + 1) (m * 62)
below_more s i k m d h digit small = record {
  n = h.n * 62 + d;
  digits = digits_more s i (i + k) h.n d h.digits (part_digit s i k d digit);
  small = omega (arith, h.small);
}

-- one more after k + 1 digits
pub below_next : (s : List ℕ) (i k a d : ℕ) → DigitsBelow s i (i + (k + 1)) (a * 62 ^ k) → Digit62 (drop i s) (k + 1) d → d < 62 → DigitsBelow s i (i + (k + 1 + 1)) (a * 62 ^ (k + 1))
below_next s i k a d h digit small =
    let place : i + (k + 1 + 1) ≡ i + (k + 1) + 1 = omega arith in
    let bound : a * 62 ^ (k + 1) ≡ a * 62 ^ k * 62 = rw (pow_more 62 k) (grind arith) in
    rw (place, bound) (below_more s i (k + 1) (a * 62 ^ k) d h digit small)

-- at most ten digits
pub below_bound : (first k : ℕ) → first < 62 → k ≤ 9 → (first + 1) * 62 ^ k ≤ 62 ^ 10
below_bound first k small few =
    let next : k + 1 ≤ 10 = omega arith in
    let more : 62 ^ (k + 1) ≤ 62 ^ 10 = pow-le-pow_right (lit< tt) next in
    let part : (first + 1) * 62 ^ k ≤ 62 * 62 ^ k = mul-le-mul_right (62 ^ k) (omega arith) in
    omega (arith, pow_more 62 k)

-- The end of an integer after a tag.

pub one_more_ends : (s : List ℕ) (i k n : ℕ) → Digits62UpTo s i k n → slice_get s k ≡ Some 95 → n + 2 < 2 ^ 64 → (v : ℕ) × OneMore s i (k + 1) v
one_more_ends s i k n h here fits = elim (cases_lt i k) [
  | inl some ↦ (n + 1 + 1, (n + 1, digits_integer s i k n h some here (omega arith), refl, omega arith))
  | inr none ↦ let e : k ≡ i = omega (arith, h.order) in
      (1, (0, subst (λ j. Integer s i (j + 1) 0) (sym e) (integer_empty s i (ap (slice_get s) (sym e) ∙ here)), omega arith, omega arith))
]

pub one_more_small : (s : List ℕ) (i k m : ℕ) → DigitsBelow s i (i + k) m → slice_get (drop i s) k ≡ Some 95 → m + 1 < 2 ^ 64 → (v : ℕ) × OneMore s i (i + k + 1) v
one_more_small s i k m h here fits = one_more_ends s i (i + k) h.n h.digits (part_end s i k here) (omega (arith, h.small))

-- eleven digits, the first of which is below 21
pub one_more_eleven : (s : List ℕ) (i first d : ℕ) → DigitsBelow s i (i + 10) ((first + 1) * 62 ^ 9) → Digit62 (drop i s) 10 d → d < 62 → first < 21 → is_byte (drop i s) 11 95 ≡ true → (v : ℕ) × OneMore s i (i + 10 + 2) v
one_more_eleven s i first d h digit small low there =
    let more : DigitsBelow s i (i + 10 + 1) ((first + 1) * 62 ^ 9 * 62) = below_more s i 10 _ d h digit small in
    let place : i + 10 + 1 ≡ i + 11 = omega arith in
    let end : i + 10 + 2 ≡ i + 11 + 1 = omega arith in
    rw end (one_more_small s i 11 ((first + 1) * 62 ^ 9 * 62) (rw place at more) (is_byte_there (drop i s) 11 95 there) (omega arith))

pub one_more_empty : (s : List ℕ) (i : ℕ) → slice_get s i ≡ Some 95 → (v : ℕ) × OneMore s i (i + 1) v
one_more_empty s i here = one_more_ends s i i 0 (digits_none s i) here (omega arith)

no_one_more : (s : List ℕ) (i : ℕ) → ((j v : ℕ) → Integer s i j v → ⊥) → (j v : ℕ) → OneMore s i j v → ⊥
no_one_more s i none j v h = none j h.0 h.1

pub no_one_more_other : (s : List ℕ) (i k n : ℕ) → Digits62UpTo s i k n → run_end is_digit_62 s k ≡ k → (slice_get s k ≡ Some 95 → ⊥) → (j v : ℕ) → OneMore s i j v → ⊥
no_one_more_other s i k n h stops other = no_one_more s i (no_integer_other s i k n h stops other)

pub no_one_more_part : (s : List ℕ) (i k m : ℕ) → DigitsBelow s i (i + k) m → run_end is_digit_62 (drop i s) k ≡ k → (slice_get (drop i s) k ≡ Some 95 → ⊥) → (j v : ℕ) → OneMore s i j v → ⊥
no_one_more_part s i k m h stops other = no_one_more_other s i (i + k) h.n h.digits (part_stops s i k stops) (λ here. other (get_drop s i k ∙ here))

pub no_one_more_large : (s : List ℕ) (i k n d : ℕ) → Digits62UpTo s i k n → Digit62 s k d → 2 ^ 64 ≤ n * 62 + d → (j v : ℕ) → OneMore s i j v → ⊥
no_one_more_large s i k n d h digit large = no_one_more s i (no_integer_large s i k n d h digit large)

pub no_one_more_past : (s : List ℕ) (i k n : ℕ) → Digits62UpTo s i k n → length s ≤ k → (j v : ℕ) → OneMore s i j v → ⊥
no_one_more_past s i k n h past = no_one_more s i (no_integer_past s i k n h past)

integer_same : (s : List ℕ) (i j k a b : ℕ) → Integer s i j a → Integer s i k b → a ≡ b
integer_same s i j k a b g h = let e = integer_read s i j a g in let f = integer_read s i k b h in cc

-- no digits spell no large number
digits_empty : (s : List ℕ) (i k n : ℕ) → Digits62UpTo s i k n → k ≤ i → 2 ^ 64 ≤ n + 2 → ⊥
digits_empty s i k n h none large =
    let e : k ≡ i = omega (arith, h.order) in
    let empty : number 62 digit_62 (slice_range s i k) ≡ 0 = rw e (number_none 62 digit_62 s i) in
    omega (arith, h.value)

pub no_one_more_last : (s : List ℕ) (i k n : ℕ) → Digits62UpTo s i k n → slice_get s k ≡ Some 95 → 2 ^ 64 ≤ n + 2 → (j v : ℕ) → OneMore s i j v → ⊥
no_one_more_last s i k n h here large j v more = elim (cases_lt (n + 1) (2 ^ 64)) [
  | inr over ↦ elim (cases_lt i k) [
    | inl some ↦ no_integer_last s i k n h some here over j more.0 more.1
    | inr none ↦ digits_empty s i k n h none (omega arith)
  ]
  | inl fits ↦ elim (cases_lt i k) [
    | inl some ↦
        let same = integer_same s i (k + 1) j (n + 1) more.0 (digits_integer s i k n h some here fits) more.1 in
        omega (arith, more.2, more.3)
    | inr none ↦ digits_empty s i k n h none (omega arith)
  ]
]

pub ruleset integer_ends = (digits_none, one_more_empty, no_one_more_other)

-- The place after an optional integer.

only_some : {A : Type 0} (a b : Bool) (x y : A) → only_if (a && b) x ≡ Some y → (a ≡ true) × (b ≡ true) × (x ≡ y)
only_some true true x y e = (refl, refl, (cc))
only_some true false x y e = absurd (cc)
only_some false b x y e = absurd (cc)

integer_is : (s : List ℕ) (i : ℕ) (r : ℕ × ℕ) → integer_at s i ≡ Some r → Integer s i r.1 r.0
unfolding integer_at
integer_is s i r e =
    let end : ℕ = run_end is_digit_62 s i in
    let v : ℕ = integer_value s i end in
    let h = only_some (is_byte s end 95) (nat_lt v (2 ^ 64)) (v, end + 1) r e in
    let value : v ≡ r.0 = ap (λ (x : ℕ × ℕ). x.0) h.2 in
    record {
      ends = is_byte_there s end 95 h.0;
      next = sym (ap (λ (x : ℕ × ℕ). x.1) h.2);
      value = sym value;
      fits = rw (← value) (ltb-true v (2 ^ 64) h.1);
    }

pub ends_some : (s : List ℕ) (i j v : ℕ) → OneMore s i j v → option_map (λ r. r.1) (one_more_at s i) ≡ Some j
ends_some s i j v h = rw (one_more s i h.0 j (sym (integer_read s i j h.0 h.1)) (omega (arith, h.2, h.3))) refl

pub ends_none : (s : List ℕ) (i : ℕ) → ((j v : ℕ) → OneMore s i j v → ⊥) → option_map (λ r. r.1) (one_more_at s i) ≡ None
ends_none s i none = go (integer_at s i) refl
  where
    go : (o : Option (ℕ × ℕ)) → integer_at s i ≡ o → option_map (λ r. r.1) (one_more_at s i) ≡ None
    go None e = rw e refl
    go (Some r) e = elim (cases_lt (r.0 + 1) (2 ^ 64)) [
      | inl fits ↦ absurd (none r.1 (r.0 + 1) (r.0, integer_is s i r e, refl, fits))
      | inr large ↦ rw (one_more_large s i r.0 r.1 (sym e) large) refl
    ]

pub ends_absent : (tag : ℕ) (s : List ℕ) (i : ℕ) → is_byte s i tag ≡ false → option_map (λ r. r.1) (optional_at tag s i) ≡ Some i
ends_absent tag s i other = rw (optional_absent tag s i other) refl

pub ends_there : (tag : ℕ) (s : List ℕ) (i : ℕ) → is_byte s i tag ≡ true → option_map (λ r. r.1) (optional_at tag s i) ≡ option_map (λ r. r.1) (one_more_at s (i + 1))
ends_there tag s i there = ap (option_map (λ (r : ℕ × ℕ). r.1)) (optional_there tag s i there)

-- the same place after the tag
pub optional_ends : {E : Type 0} (r : Result ℕ E) (tag : ℕ) (s : List ℕ) (i : ℕ) → is_byte s i tag ≡ true → IfOk r (λ j. (v : ℕ) × OneMore s (i + 1) j v) → IfOk r (λ j. (v : ℕ) × OptInteger tag s i j v)
optional_ends (Ok j) tag s i there h = (h.0, inl (there, h.1))
optional_ends (Err e) tag s i there h = tt

-- The integer that has an end.

pub end_read : (o : Read ℕ) (j : ℕ) → Some j ≡ option_map (λ r. r.1) o → (n : ℕ) × (Some (n, j) ≡ o)
end_read None j e = absurd (cc)
end_read (Some r) j e = let same : j ≡ r.1 = cc in (r.0, ap (λ k. Some (r.0, k)) same)

pub end_unread : (o : Read ℕ) → None ≡ option_map (λ r. r.1) o → None ≡ o
end_unread None e = refl
end_unread (Some r) e = absurd (cc)

pub value_read : {E : Type 0} (r : Result (ℕ × ℕ) E) (o : Read ℕ) (needed : Bool) → result_ok r ≡ o → IfOk r (λ x. (v : ℕ) × (needed ≡ true → v ≡ x.0) × (Some (v, x.1) ≡ o))
value_read (Ok x) o needed e = (x.0, λ _. refl, e)
value_read (Err f) o needed e = tt
