-- The escapes of a legacy element, read byte by byte from the place after their `$`.
use Rattle.std.proofs.Common.{◌≡◌, ℕ, ◌+◌, ◌-◌, ◌*◌, ◌<◌, ◌≤◌, ◌≢◌, Bool, true, false, List, [], ◌∷◌, length, get_or, slice_range, Option, Some, None, inl, inr, refl, sym, ap, ◌∙◌, arith, ltb, option_map}
use Rattle.std.specs.Prelude.{position}
use Rattle.std.specs.List.{slice_get, list_all, position_or_len}
use Rattle.std.specs.Char.{encode_utf8}
use Rattle.std.proofs.lemmas.Option.{slice_get-get_or}
use Rattle.std.proofs.lemmas.Bool.Decides.{nat_tests}
use Rattle.demangle_symbol.specs.Digits.{number, is_byte}
use Rattle.demangle_symbol.proofs.Digits.{is_byte_there, number_more, number_none}
use Rattle.demangle_symbol.proofs.Options.{option_cases, none_some}
use Rattle.demangle_symbol.proofs.Ranges.{position_found, position_past, place_found, place_passed, place_past, range_length, is_byte_not}
use Rattle.demangle_legacy.specs.Unescaped.{is_dollar, is_lower_hex, lower_hex, escape_of_code, escape_of, leading_unit}
use Rattle.demangle_legacy.proofs.LegacyElements.{bool_cases}
use Rattle.demangle_legacy.proofs.LegacyUnits.{all_more, all_fails, unit_escape, unit_open, name_none, name_comma, name_other, name_two, name_many, name_digits, digits_none, digits_other, digits_large, digits_done}

-- a byte that is no `$`
pub no_dollar : (b : ℕ) → b ≢ 36 → is_dollar b ≡ false
no_dollar b h = grind (arith, nat_tests)

-- a digit is not one
pub hex_no_dollar : (b : ℕ) → is_lower_hex b ≡ true → is_dollar b ≡ false
hex_no_dollar b h = grind (arith, nat_tests)

some_same : (x y : ℕ) → ◌≡◌ {A = Option ℕ} (Some x) (Some y) → x ≡ y
some_same x y e = cc

-- the place that `position` gives
place_of : (p : ℕ → Bool) (xs : List ℕ) (n : ℕ) → position p xs ≡ Some n → (position_or_len p xs ≡ n) × (n < length xs)
place_of p xs n e = elim (bool_cases (ltb (position_or_len p xs) (length xs))) [
  | inl lt ↦
      let same : position_or_len p xs ≡ n = some_same (position_or_len p xs) n (sym (rw lt refl) ∙ e) in
      let less : position_or_len p xs < length xs = grind (arith, nat_tests) in
      (same, omega arith)
  | inr ge ↦ absurd (none_some n (sym (rw ge refl) ∙ e))
]

-- no escape, if the bytes before the first `$` are not one
none_there : (s : List ℕ) (from to : ℕ) → to ≤ length s
    → ((end : ℕ) → from ≤ end → end < to → position_or_len is_dollar (slice_range s from to) ≡ end - from → escape_of (slice_range s from end) ≡ None)
    → None ≡ leading_unit 36 (slice_range s from to)
none_there s from to within none = elim (option_cases (position is_dollar (slice_range s from to))) [
  | inl h ↦ sym (unit_open s from to (sym h))
  | inr h ↦
      let n = h.0 in
      let place = place_of is_dollar (slice_range s from to) n h.1 in
      let long = range_length s from to within in
      let less = place.1 in
      let same : n ≡ from + n - from = omega arith in
      let e : escape_of (slice_range s from (from + n)) ≡ None = none (from + n) (omega arith) (omega arith) (place.0 ∙ same) in
      sym (unit_escape s from (from + n) to None (omega arith) (omega arith) (ap (λ k. Some k) (sym same) ∙ sym h.1) (sym e))
]

-- the escape before the first `$`
escape_there : (s : List ℕ) (from end to : ℕ) (o : Option (List ℕ)) → to ≤ length s → from ≤ end → end < to → position_or_len is_dollar (slice_range s from to) ≡ end - from → o ≡ escape_of (slice_range s from end)
    → option_map (λ t. (t, end - from + 1)) o ≡ leading_unit 36 (slice_range s from to)
escape_there s from end to o within le lt place e = sym (unit_escape s from end to o le lt (sym (position_found is_dollar s from end to within lt le place)) e)

-- a byte of the symbol is there
pub no_byte : (s : List ℕ) (k : ℕ) → k < length s → None ≡ slice_get s k → ⊥
no_byte s k lt none = none_some (get_or s k 0) (none ∙ slice_get-get_or s k 0 lt)

-- digits

-- the bytes from the `u` to before k, and a `$` is at k or later
pub record Digits (s : List ℕ) (from k to code : ℕ) : Type 0 where
  pub order : from < k
  pub inside : to ≤ length s
  pub letter : slice_get s from ≡ Some 117
  pub number : code ≡ number 16 lower_hex (slice_range s (from + 1) k)
  pub all : (end : ℕ) → k ≤ end → list_all is_lower_hex (slice_range s (from + 1) end) ≡ list_all is_lower_hex (slice_range s k end)
  pub place : position_or_len is_dollar (slice_range s from to) ≡ (k - from) + position_or_len is_dollar (slice_range s k to)

pub first_digit : (s : List ℕ) (from to : ℕ) → from < to → to ≤ length s → slice_get s from ≡ Some 117 → Digits s from (from + 1) to 0
first_digit s from to lt within letter = record {
  order = omega arith;
  inside = within;
  letter = letter;
  number = sym (number_none 16 lower_hex s (from + 1));
  all = λ end le. refl;
  place = omega (arith, place_passed is_dollar s from to 117 lt letter refl);
}

pub next_digit : (s : List ℕ) (from k to code b n d : ℕ) → Digits s from k to code → k < to → Some b ≡ slice_get s k → is_lower_hex b ≡ true → d ≡ lower_hex b → n ≡ code * 16 + d → Digits s from (k + 1) to n
next_digit s from k to code b n d h lt here is digit_is n_is = record {
  order = omega (arith, h.order);
  inside = h.inside;
  letter = h.letter;
  number = omega (arith, h.number, number_more 16 lower_hex s (from + 1) k b (omega (arith, h.order)) (sym here));
  all = λ end le. h.all end (omega arith) ∙ all_more is_lower_hex s k end b (omega arith) (sym here) is;
  place = omega (arith, h.order, h.place, place_passed is_dollar s k to b lt (sym here) (hex_no_dollar b is));
}

pub no_digit : (s : List ℕ) (from k to code b : ℕ) → Digits s from k to code → k < to → slice_get s k ≡ Some b → b ≢ 36 → is_lower_hex b ≡ false → None ≡ leading_unit 36 (slice_range s from to)
no_digit s from k to code b d lt here other none = none_there s from to d.inside (λ end le less place.
    let passed = place_passed is_dollar s k to b lt here (no_dollar b other) in
    let after : k < end = omega (arith, d.order, d.place) in
    name_digits s from end (omega (arith, d.order)) d.letter
    ∙ digits_other s (from + 1) end (d.all end (omega arith) ∙ all_fails is_lower_hex s k end b after here none))

pub too_large : (s : List ℕ) (from k to code b : ℕ) → Digits s from k to code → k < to → slice_get s k ≡ Some b → is_lower_hex b ≡ true → 0x110000 ≤ code * 16 + lower_hex b → None ≡ leading_unit 36 (slice_range s from to)
too_large s from k to code b d lt here is large = none_there s from to d.inside (λ end le less place.
    let passed = place_passed is_dollar s k to b lt here (hex_no_dollar b is) in
    let after : k < end = omega (arith, d.order, d.place) in
    name_digits s from end (omega (arith, d.order)) d.letter
    ∙ digits_large s (from + 1) k end b (omega (arith, d.order)) after here (omega (arith, d.number)))

pub no_end : (s : List ℕ) (from k to code : ℕ) → Digits s from k to code → to ≤ k → None ≡ leading_unit 36 (slice_range s from to)
no_end s from k to code d past =
    sym (unit_open s from to (sym (position_past is_dollar s from to (k - from) d.inside (omega arith) (omega (arith, d.place, place_past is_dollar s k to past)))))

no_code : escape_of_code 0 ≡ None
no_code = refl

code_there : (s : List ℕ) (from k to code : ℕ) → Digits s from k to code → k < to → escape_of_code code ≡ escape_of (slice_range s from k)
code_there s from k to code d lt = elim (bool_cases (ltb (from + 1) k)) [
  | inl h ↦
      let some : from + 1 < k = grind (arith, nat_tests) in
      sym (name_digits s from k d.order d.letter ∙ digits_done s (from + 1) k k code some (omega (arith, d.inside)) refl d.number (d.all k (omega arith)))
  | inr h ↦
      let none : k ≤ from + 1 = grind (arith, nat_tests) in
      let is : from + 1 ≡ k = omega (arith, d.order) in
      let zero_is : code ≡ 0 = d.number ∙ ap (λ j. number 16 lower_hex (slice_range s (from + 1) j)) (sym is) ∙ number_none 16 lower_hex s (from + 1) in
      ap escape_of_code zero_is ∙ no_code ∙ sym (name_digits s from k d.order d.letter ∙ digits_none s (from + 1) k none)
]

pub digits_end : (s : List ℕ) (from k to code : ℕ) (o : Option (List ℕ)) → Digits s from k to code → k < to → slice_get s k ≡ Some 36 → o ≡ escape_of_code code → option_map (λ t. (t, k - from + 1)) o ≡ leading_unit 36 (slice_range s from to)
digits_end s from k to code o d lt here e =
    escape_there s from k to o d.inside (omega (arith, d.order)) lt (omega (arith, d.place, place_found is_dollar s k to 36 lt here refl))
    (e ∙ code_there s from k to code d lt)

-- letters

-- no escape starts where the part is at its end
pub no_name : (s : List ℕ) (from to : ℕ) → to ≤ length s → to ≤ from → None ≡ leading_unit 36 (slice_range s from to)
no_name s from to within past = none_there s from to within (λ end le less place. absurd (omega arith))

-- a letter and no more
pub one_open : (s : List ℕ) (from to a : ℕ) → to ≤ length s → from + 1 ≡ to → slice_get s from ≡ Some a → None ≡ leading_unit 36 (slice_range s from to)
one_open s from to a within one here = none_there s from to within (λ end le less place. name_none s from end (omega arith))

place_one : (s : List ℕ) (from to a : ℕ) → from + 1 < to → slice_get s from ≡ Some a → slice_get s (from + 1) ≡ Some 36 → position_or_len is_dollar (slice_range s from to) ≤ 1
place_one s from to a lt here next = elim (bool_cases (is_dollar a)) [
  | inl h ↦ omega (arith, place_found is_dollar s from to a (omega arith) here h)
  | inr h ↦ omega (arith, place_passed is_dollar s from to a (omega arith) here h, place_found is_dollar s (from + 1) to 36 lt next refl)
]

pub one_letter : (s : List ℕ) (from to a : ℕ) → to ≤ length s → from + 1 < to → slice_get s from ≡ Some a → slice_get s (from + 1) ≡ Some 36 → a ≢ 117 → a ≢ 67 → None ≡ leading_unit 36 (slice_range s from to)
one_letter s from to a within lt here next no_u no_C = none_there s from to within (λ end le less place.
    let most = place_one s from to a lt here next in
    elim (bool_cases (ltb from end)) [
      | inl h ↦ let some : from < end = grind (arith, nat_tests) in name_other s from end a (omega arith) here no_u no_C
      | inr h ↦ let none : end ≤ from = grind (arith, nat_tests) in name_none s from end none
    ])

pub one_comma : (s : List ℕ) (from to a : ℕ) → to ≤ length s → from + 1 < to → slice_get s from ≡ Some a → slice_get s (from + 1) ≡ Some 36 → a ≡ 67 → Some (encode_utf8 44, from + 1 - from + 1) ≡ leading_unit 36 (slice_range s from to)
one_comma s from to a within lt here next is =
    escape_there s from (from + 1) to (Some (encode_utf8 44)) within (omega arith) lt
    (omega (arith, place_passed is_dollar s from to a (omega arith) here (no_dollar a (λ e. absurd (omega arith))), place_found is_dollar s (from + 1) to 36 lt next refl))
    (sym (name_comma s from (from + 1) a refl here is))

-- two letters and more

-- the first `$` is no later than the first byte, or past the second
after_two : (s : List ℕ) (from end to a b : ℕ) → from + 1 < to → slice_get s from ≡ Some a → slice_get s (from + 1) ≡ Some b → b ≢ 36 → position_or_len is_dollar (slice_range s from to) ≡ end - from → from < end
    → end - from ≡ 2 + position_or_len is_dollar (slice_range s (from + 1 + 1) to)
after_two s from end to a b lt here next other place some = elim (bool_cases (is_dollar a)) [
  | inl h ↦ absurd (omega (arith, place_found is_dollar s from to a (omega arith) here h))
  | inr h ↦ omega (arith, place_passed is_dollar s from to a (omega arith) here h, place_passed is_dollar s (from + 1) to b lt next (no_dollar b other))
]

pub two_open : (s : List ℕ) (from to a b : ℕ) → to ≤ length s → from + 2 ≡ to → slice_get s from ≡ Some a → slice_get s (from + 1) ≡ Some b → b ≢ 36 → None ≡ leading_unit 36 (slice_range s from to)
two_open s from to a b within two here next other = none_there s from to within (λ end le less place.
    elim (bool_cases (ltb from end)) [
      | inl h ↦ let some : from < end = grind (arith, nat_tests) in absurd (omega (arith, after_two s from end to a b (omega arith) here next other place some))
      | inr h ↦ let none : end ≤ from = grind (arith, nat_tests) in name_none s from end none
    ])

pub two_more : (s : List ℕ) (from to a b : ℕ) → to ≤ length s → from + 2 < to → slice_get s from ≡ Some a → slice_get s (from + 1) ≡ Some b → a ≢ 117 → b ≢ 36 → is_byte s (from + 2) 36 ≡ false → None ≡ leading_unit 36 (slice_range s from to)
two_more s from to a b within lt here next no_u other last =
    let two : from + 1 + 1 ≡ from + 2 = omega arith in
    let third = is_byte_not s (from + 2) 36 (omega arith) last in
    let passed : position_or_len is_dollar (slice_range s (from + 1 + 1) to) ≡ 1 + position_or_len is_dollar (slice_range s (from + 2 + 1) to) =
    ap (λ k. position_or_len is_dollar (slice_range s k to)) two ∙ place_passed is_dollar s (from + 2) to _ lt third.0 third.1 in
    none_there s from to within (λ end le less place.
    elim (bool_cases (ltb from end)) [
      | inl h ↦
          let some : from < end = grind (arith, nat_tests) in
          let far = after_two s from end to a b (omega arith) here next other place some in
          name_many s from end a (omega arith) (omega arith) here no_u
      | inr h ↦ let none : end ≤ from = grind (arith, nat_tests) in name_none s from end none
    ])

no_letters : (b : ℕ) → escape_of (36 ∷ b ∷ []) ≡ None
unfolding escape_of
no_letters b = refl

pub two_letters : (s : List ℕ) (from to a b : ℕ) (o : Option (List ℕ)) → to ≤ length s → from + 2 < to → slice_get s from ≡ Some a → slice_get s (from + 1) ≡ Some b → b ≢ 36 → is_byte s (from + 2) 36 ≡ true → o ≡ escape_of (a ∷ b ∷ [])
    → option_map (λ t. (t, from + 2 - from + 1)) o ≡ leading_unit 36 (slice_range s from to)
two_letters s from to a b o within lt here next other last e = elim (bool_cases (is_dollar a)) [
  | inl h ↦
      let is : a ≡ 36 = grind (arith, nat_tests) in
      let found = place_found is_dollar s from to a (omega arith) here h in
      let none : o ≡ None = e ∙ ap (λ x. escape_of (x ∷ b ∷ [])) is ∙ no_letters b in
      ap (option_map (λ (t : List ℕ). (t, from + 2 - from + 1))) none
      ∙ none_there s from to within (λ end le less place. name_none s from end (omega arith))
  | inr h ↦
      let two : from + 1 + 1 ≡ from + 2 = omega arith in
      let found : position_or_len is_dollar (slice_range s (from + 1 + 1) to) ≡ 0 =
      ap (λ k. position_or_len is_dollar (slice_range s k to)) two ∙ place_found is_dollar s (from + 2) to 36 lt (is_byte_there s (from + 2) 36 last) refl in
      escape_there s from (from + 2) to o within (omega arith) lt
      (omega (arith, place_passed is_dollar s from to a (omega arith) here h, place_passed is_dollar s (from + 1) to b (omega arith) next (no_dollar b other)))
      (e ∙ sym (name_two s from (from + 2) a b refl here next))
]
