-- The units of a legacy element, by their places in a symbol.
use Rattle.std.proofs.Common.{◌≡◌, ℕ, zero, suc, ◌+◌, ◌-◌, ◌*◌, ◌<◌, ◌≤◌, ◌≢◌, ◌⊎◌, inl, inr, ◌&&◌, Bool, true, false, not, cond, List, [], ◌∷◌, length, take, drop, get_or, slice_range, slice_index, Option, Some, None, refl, sym, ap, ◌∙◌, arith, eqb, option_map}
use Rattle.std.specs.Prelude.{codes, position, option_and_then, nat_eq}
use Rattle.std.specs.List.{slice_get, list_all, starts_with}
use Rattle.std.specs.Char.{is_ascii_hexdigit, is_control, encode_utf8}
use lib.Utf8.{scalar}
use Rattle.std.proofs.lemmas.Option.{get_or_from_slice_get, slice_get-get_or}
use Rattle.std.proofs.lemmas.Bool.Decides.{nat_tests}
use Rattle.demangle_symbol.specs.Digits.{number, is_byte}
use Rattle.demangle_legacy.specs.Unescaped.{is_dollar, is_special, is_lower_hex, lower_hex, escape_of_code, escape_of_digits, escape_of, leading_unit, pieces_from, unescaped, is_hash}
use Rattle.demangle_symbol.proofs.Digits.{is_byte_there, number_part, number_more}
use Rattle.demangle_symbol.proofs.Ranges.{is_byte_not, range_first, range_past, range_length, range_drop, range_take}

-- all bytes of a part pass the test, or not
pub all_more : (p : ℕ → Bool) (s : List ℕ) (k to b : ℕ) → k < to → slice_get s k ≡ Some b → p b ≡ true → list_all p (slice_range s k to) ≡ list_all p (slice_range s (k + 1) to)
all_more p s k to b lt here passes = ap (list_all p) (range_first s k to b lt here) ∙ ap (λ t. t && list_all p (slice_range s (k + 1) to)) passes

pub all_fails : (p : ℕ → Bool) (s : List ℕ) (k to b : ℕ) → k < to → slice_get s k ≡ Some b → p b ≡ false → list_all p (slice_range s k to) ≡ false
all_fails p s k to b lt here fails = ap (list_all p) (range_first s k to b lt here) ∙ ap (λ t. t && list_all p (slice_range s (k + 1) to)) fails

pub all_past : (p : ℕ → Bool) (s : List ℕ) (k to : ℕ) → to ≤ k → list_all p (slice_range s k to) ≡ true
all_past p s k to past = ap (list_all p) (range_past s k to past)

-- the hash

pub hash_none : (s : List ℕ) (from to : ℕ) → to ≤ from → is_hash (slice_range s from to) ≡ false
hash_none s from to past = ap is_hash (range_past s from to past)

pub hash_other : (s : List ℕ) (from to : ℕ) → from < to → to ≤ length s → is_byte s from 104 ≡ false → is_hash (slice_range s from to) ≡ false
hash_other s from to lt within h =
    let p = is_byte_not s from 104 (omega arith) h in
    ap is_hash (range_first s from to (get_or s from 0) lt p.0) ∙ ap (λ b. b && list_all is_ascii_hexdigit (slice_range s (from + 1) to)) p.1

pub hash_rest : (s : List ℕ) (from to : ℕ) → from < to → is_byte s from 104 ≡ true → is_hash (slice_range s from to) ≡ list_all is_ascii_hexdigit (slice_range s (from + 1) to)
hash_rest s from to lt h = ap is_hash (range_first s from to 104 lt (is_byte_there s from 104 h))

pub ruleset hash_steps = (hash_none, hash_other, hash_rest, all_more, all_fails, all_past)

-- the digits of an escape

pub digits_none : (s : List ℕ) (from to : ℕ) → to ≤ from → escape_of_digits (slice_range s from to) ≡ None
unfolding escape_of_digits
digits_none s from to past = ap escape_of_digits (range_past s from to past)

other_digits : (ds : List ℕ) → list_all is_lower_hex ds ≡ false → escape_of_digits ds ≡ None
unfolding escape_of_digits
other_digits [] h = refl
other_digits (d ∷ ds) h = ap (λ b. cond b (escape_of_code (number 16 lower_hex (d ∷ ds))) None) h

pub digits_other : (s : List ℕ) (from to : ℕ) → list_all is_lower_hex (slice_range s from to) ≡ false → escape_of_digits (slice_range s from to) ≡ None
digits_other s from to h = other_digits (slice_range s from to) h

no_code : (c : ℕ) → 0x110000 ≤ c → escape_of_code c ≡ None
no_code c h =
    let e : scalar c ≡ false = grind (arith, nat_tests) in
    ap (λ b. cond (b && not (is_control c)) (Some (encode_utf8 c)) None) e

large_digits : (ds : List ℕ) → 0x110000 ≤ number 16 lower_hex ds → escape_of_digits ds ≡ None
unfolding escape_of_digits
large_digits [] h = refl
large_digits (d ∷ ds) h = ap (λ o. cond (list_all is_lower_hex (d ∷ ds)) o None) (no_code _ h) ∙ both (list_all is_lower_hex (d ∷ ds)) where
  both : (b : Bool) → cond {A = Option (List ℕ)} b None None ≡ None
  both true = refl
  both false = refl

-- the digits up to k already spell a number that is too large
pub digits_large : (s : List ℕ) (from k to b : ℕ) → from ≤ k → k < to → slice_get s k ≡ Some b → 0x110000 ≤ number 16 lower_hex (slice_range s from k) * 16 + lower_hex b → escape_of_digits (slice_range s from to) ≡ None
digits_large s from k to b le lt here large =
    let more = number_more 16 lower_hex s from k b le here in
    let most : number 16 lower_hex (slice_range s from (k + 1)) ≤ number 16 lower_hex (slice_range s from to) = number_part 16 lower_hex s from (k + 1) to (omega arith) (omega arith) in
    large_digits (slice_range s from to) (omega arith)

all_digits : (ds : List ℕ) → ds ≢ [] → list_all is_lower_hex ds ≡ true → escape_of_digits ds ≡ escape_of_code (number 16 lower_hex ds)
unfolding escape_of_digits
all_digits [] some h = absurd (some refl)
all_digits (d ∷ ds) some h = ap (λ b. cond b (escape_of_code (number 16 lower_hex (d ∷ ds))) None) h

pub digits_all : (s : List ℕ) (from to : ℕ) → from < to → to ≤ length s → list_all is_lower_hex (slice_range s from to) ≡ true → escape_of_digits (slice_range s from to) ≡ escape_of_code (number 16 lower_hex (slice_range s from to))
digits_all s from to lt within h = all_digits (slice_range s from to) (λ e. absurd (omega (arith, range_length s from to within, ap length e))) h

-- after the last of them
pub digits_done : (s : List ℕ) (from to at code : ℕ) → from < to → to ≤ length s → at ≡ to → code ≡ number 16 lower_hex (slice_range s from at) → list_all is_lower_hex (slice_range s from to) ≡ list_all is_lower_hex (slice_range s at to) → escape_of_digits (slice_range s from to) ≡ escape_of_code code
digits_done s from to at code lt within e n all =
    digits_all s from to lt within (all ∙ all_past is_lower_hex s at to (omega arith))
    ∙ ap escape_of_code (ap (λ k. number 16 lower_hex (slice_range s from k)) (sym e) ∙ sym n)

-- a name between `$`

pub name_none : (s : List ℕ) (from to : ℕ) → to ≤ from → escape_of (slice_range s from to) ≡ None
unfolding escape_of
name_none s from to past = ap escape_of (range_past s from to past)

-- `u` and digits
pub name_digits : (s : List ℕ) (from to : ℕ) → from < to → slice_get s from ≡ Some 117 → escape_of (slice_range s from to) ≡ escape_of_digits (slice_range s (from + 1) to)
unfolding escape_of
name_digits s from to lt here = ap escape_of (range_first s from to 117 lt here)

one_letter : (c : ℕ) → c ≢ 117 → escape_of (c ∷ []) ≡ cond (eqb c 67) (Some (codes ",")) None
unfolding escape_of
one_letter c h = grind (arith, nat_tests)

many_letters : (c d e : ℕ) (t : List ℕ) → c ≢ 117 → escape_of (c ∷ d ∷ e ∷ t) ≡ None
unfolding escape_of
many_letters c d e t h = grind (arith, nat_tests)

name_one : (s : List ℕ) (from to c : ℕ) → from + 1 ≡ to → slice_get s from ≡ Some c → c ≢ 117 → escape_of (slice_range s from to) ≡ cond (eqb c 67) (Some (codes ",")) None
name_one s from to c one here other =
    ap escape_of (range_first s from to c (omega arith) here ∙ ap (λ t. c ∷ t) (range_past s (from + 1) to (omega arith))) ∙ one_letter c other

comma : codes "," ≡ encode_utf8 44
unfolding encode_utf8
comma = refl

pub full_stop : codes "." ≡ encode_utf8 46
unfolding encode_utf8
full_stop = refl

pub name_comma : (s : List ℕ) (from to c : ℕ) → from + 1 ≡ to → slice_get s from ≡ Some c → c ≡ 67 → escape_of (slice_range s from to) ≡ Some (encode_utf8 44)
name_comma s from to c one here is = name_one s from to c one here (λ e. absurd (omega arith)) ∙ ap (λ x. cond (eqb x 67) (Some (codes ",")) None) is ∙ ap (λ t. Some t) comma

pub name_other : (s : List ℕ) (from to c : ℕ) → from + 1 ≡ to → slice_get s from ≡ Some c → c ≢ 117 → c ≢ 67 → escape_of (slice_range s from to) ≡ None
name_other s from to c one here no_u no_C =
    let e : eqb c 67 ≡ false = grind (arith, nat_tests) in
    name_one s from to c one here no_u ∙ ap (λ b. cond b (Some (codes ",")) None) e

pub name_two : (s : List ℕ) (from to c d : ℕ) → from + 2 ≡ to → slice_get s from ≡ Some c → slice_get s (from + 1) ≡ Some d → escape_of (slice_range s from to) ≡ escape_of (c ∷ d ∷ [])
name_two s from to c d two here next =
    ap escape_of (range_first s from to c (omega arith) here ∙ ap (λ t. c ∷ t) (range_first s (from + 1) to d (omega arith) next ∙ ap (λ t. d ∷ t) (range_past s (from + 1 + 1) to (omega arith))))

-- three letters and more
pub name_many : (s : List ℕ) (from to c : ℕ) → from + 2 < to → to ≤ length s → slice_get s from ≡ Some c → c ≢ 117 → escape_of (slice_range s from to) ≡ None
name_many s from to c many within here other =
    let d = get_or s (from + 1) 0 in
    let e = get_or s (from + 1 + 1) 0 in
    let at_d = slice_get-get_or s (from + 1) 0 (omega arith) in
    let at_e = slice_get-get_or s (from + 1 + 1) 0 (omega arith) in
    ap escape_of (range_first s from to c (omega arith) here
    ∙ ap (λ t. c ∷ t) (range_first s (from + 1) to d (omega arith) at_d
    ∙ ap (λ t. d ∷ t) (range_first s (from + 1 + 1) to e (omega arith) at_e)))
    ∙ many_letters c d e (slice_range s (from + 1 + 1 + 1) to) other

-- a unit at its place

starts_dot : (c : ℕ) (t : List ℕ) → eqb c 46 ≡ false → starts_with nat_eq (c ∷ t) (codes ".") ≡ false
starts_dot c t h = grind (arith, nat_tests)

dot_unit : List ℕ → Option (List ℕ × ℕ)
dot_unit rest = cond (starts_with nat_eq rest (codes ".")) (Some (codes "::", 1)) (Some (codes ".", 0))

unit_of_dot : (rest : List ℕ) → leading_unit 46 rest ≡ dot_unit rest
unfolding leading_unit dot_unit
unit_of_dot rest = refl

pub unit_dots : (s : List ℕ) (next to : ℕ) → next < to → is_byte s next 46 ≡ true → leading_unit 46 (slice_range s next to) ≡ Some (codes "::", 1)
unfolding dot_unit
unit_dots s next to lt h = unit_of_dot (slice_range s next to) ∙ ap dot_unit (range_first s next to 46 lt (is_byte_there s next 46 h))

pub unit_dot : (s : List ℕ) (next to : ℕ) → next < to → to ≤ length s → is_byte s next 46 ≡ false → leading_unit 46 (slice_range s next to) ≡ Some (codes ".", 0)
unfolding dot_unit
unit_dot s next to lt within h =
    let p = is_byte_not s next 46 (omega arith) h in
    unit_of_dot (slice_range s next to) ∙ ap dot_unit (range_first s next to (get_or s next 0) lt p.0)
    ∙ ap (λ b. cond b (Some (codes "::", 1)) (Some (codes ".", 0))) (starts_dot (get_or s next 0) (slice_range s (next + 1) to) p.1)

pub unit_last_dot : (s : List ℕ) (next to : ℕ) → to ≤ next → leading_unit 46 (slice_range s next to) ≡ Some (codes ".", 0)
unfolding dot_unit
unit_last_dot s next to past = unit_of_dot (slice_range s next to) ∙ ap dot_unit (range_past s next to past)

unfoldable pub escape_unit : List ℕ → Option ℕ → Option (List ℕ × ℕ)
escape_unit rest end = option_and_then (λ n. option_map (λ text. (text, n + 1)) (escape_of (take n rest))) end

pub unit_of_dollar : (rest : List ℕ) → leading_unit 36 rest ≡ escape_unit rest (position is_dollar rest)
unfolding leading_unit escape_unit
unit_of_dollar rest = refl

pub unit_escape : (s : List ℕ) (next end to : ℕ) (o : Option (List ℕ)) → next ≤ end → end < to → Some (end - next) ≡ position is_dollar (slice_range s next to) → o ≡ escape_of (slice_range s next end) → leading_unit 36 (slice_range s next to) ≡ option_map (λ t. (t, (end - next) + 1)) o
unfolding escape_unit
unit_escape s next end to o le lt first e =
    unit_of_dollar (slice_range s next to) ∙ ap (escape_unit (slice_range s next to)) (sym first)
    ∙ ap (λ x. option_map (λ (t : List ℕ). (t, (end - next) + 1)) (escape_of x)) (range_take s next end to le (omega arith))
    ∙ ap (option_map (λ (t : List ℕ). (t, (end - next) + 1))) (sym e)

pub unit_open : (s : List ℕ) (next to : ℕ) → None ≡ position is_dollar (slice_range s next to) → leading_unit 36 (slice_range s next to) ≡ None
unfolding escape_unit
unit_open s next to none = unit_of_dollar (slice_range s next to) ∙ ap (escape_unit (slice_range s next to)) (sym none)

pub unit_of_run : (c : ℕ) (rest : List ℕ) → c ≢ 46 → c ≢ 36 → leading_unit c rest ≡ option_map (λ n. (c ∷ take n rest, n)) (position is_special rest)
unfolding leading_unit
unit_of_run c rest no_dot no_dollar =
    let a : eqb c 46 ≡ false = grind (arith, nat_tests) in
    let b : eqb c 36 ≡ false = grind (arith, nat_tests) in
    rw (a, b) refl

pub unit_run : (s : List ℕ) (at c end to : ℕ) → slice_get s at ≡ Some c → c ≢ 46 → c ≢ 36 → at + 1 ≤ end → end < to → Some (end - (at + 1)) ≡ position is_special (slice_range s (at + 1) to) → leading_unit c (slice_range s (at + 1) to) ≡ Some (slice_range s at end, end - (at + 1))
unit_run s at c end to here no_dot no_dollar le lt first =
    unit_of_run c (slice_range s (at + 1) to) no_dot no_dollar
    ∙ ap (option_map (λ n. (c ∷ take n (slice_range s (at + 1) to), n))) (sym first)
    ∙ ap (λ x. Some (c ∷ x, end - (at + 1))) (range_take s (at + 1) end to le (omega arith))
    ∙ ap (λ x. Some (x, end - (at + 1))) (sym (range_first s at end c (omega arith) here))

pub unit_no_run : (s : List ℕ) (at c to : ℕ) → c ≢ 46 → c ≢ 36 → None ≡ position is_special (slice_range s (at + 1) to) → leading_unit c (slice_range s (at + 1) to) ≡ None
unit_no_run s at c to no_dot no_dollar none =
    unit_of_run c (slice_range s (at + 1) to) no_dot no_dollar
    ∙ ap (option_map (λ n. (c ∷ take n (slice_range s (at + 1) to), n))) (sym none)

-- the unit that starts with the byte at a place
pub unit_there : (s : List ℕ) (at b n : ℕ) (rest : List ℕ) (o : Option (List ℕ × ℕ)) → slice_get s at ≡ Some b → b ≡ n → leading_unit n rest ≡ o → o ≡ leading_unit (slice_index s at) rest
unit_there s at b n rest o here is e = sym e ∙ ap (λ c. leading_unit c rest) (sym is ∙ sym (get_or_from_slice_get s at b 0 here))

pub one_byte : (a n : ℕ) (t : List ℕ) → n ≡ a → ◌≡◌ {A = Option (List ℕ × ℕ)} (Some (t, n)) (Some (t, a))
one_byte a n t e = ap (λ k. Some (t, k)) e

pub a_full_stop : (n : ℕ) → n ≡ 0 → ◌≡◌ {A = Option (List ℕ × ℕ)} (Some (encode_utf8 46, n)) (Some (codes ".", 0))
a_full_stop n e = ap (λ k. Some (encode_utf8 46, k)) e ∙ ap (λ t. Some (t, 0)) (sym full_stop)

-- the place of the first unit of an element

pub pieces_skip : (k : ℕ) (s : List ℕ) → pieces_from k s ≡ pieces_from 0 (drop k s)
unfolding pieces_from
pieces_skip zero s = refl
pieces_skip (suc k) [] = refl
pieces_skip (suc k) (c ∷ s) = pieces_skip k s

unfoldable pub begins_mark : List ℕ → Bool
begins_mark e = starts_with nat_eq e (codes "_$")

pub unescaped_is : (e : List ℕ) → unescaped e ≡ cond (begins_mark e) (pieces_from 1 e) (pieces_from 0 e)
unfolding unescaped begins_mark
unescaped_is e = refl

pub mark_two : (c d : ℕ) (t : List ℕ) → (eqb c 95 ≡ false) ⊎ (eqb d 36 ≡ false) → begins_mark (c ∷ d ∷ t) ≡ false
unfolding begins_mark
mark_two c d t (inl h) = grind (arith, nat_tests)
mark_two c d t (inr h) = grind (arith, nat_tests)

pub mark_short : (e : List ℕ) → length e < 2 → begins_mark e ≡ false
unfolding begins_mark
mark_short [] h = refl
mark_short (c ∷ []) h = elim (eqb 95 c) as (λ b. (b && false) ≡ false) [ true ↦ refl | false ↦ refl ]
mark_short (c ∷ d ∷ t) h = absurd (omega arith)

pub first_after : (s : List ℕ) (from to : ℕ) → from + 1 < to → is_byte s from 95 ≡ true → is_byte s (from + 1) 36 ≡ true → unescaped (slice_range s from to) ≡ pieces_from 0 (slice_range s (from + 1) to)
unfolding begins_mark
first_after s from to lt a b =
    let e = range_first s from to 95 (omega arith) (is_byte_there s from 95 a) in
    let f = range_first s (from + 1) to 36 lt (is_byte_there s (from + 1) 36 b) in
    ap unescaped (e ∙ ap (λ t. 95 ∷ t) f) ∙ unescaped_is (95 ∷ 36 ∷ slice_range s (from + 1 + 1) to)
    ∙ pieces_skip 1 (95 ∷ 36 ∷ slice_range s (from + 1 + 1) to) ∙ ap (pieces_from 0) (sym f)

pub unmarked : (e : List ℕ) → begins_mark e ≡ false → unescaped e ≡ pieces_from 0 e
unmarked e h = unescaped_is e ∙ ap (λ b. cond b (pieces_from 1 e) (pieces_from 0 e)) h

pub first_short : (s : List ℕ) (from to : ℕ) → to ≤ length s → to - from < 2 → unescaped (slice_range s from to) ≡ pieces_from 0 (slice_range s from to)
first_short s from to within short = unmarked (slice_range s from to) (mark_short (slice_range s from to) (omega (arith, range_length s from to within)))

pub first_plain : (s : List ℕ) (from to : ℕ) → to ≤ length s → 2 ≤ to - from → (is_byte s from 95 ≡ false) ⊎ (is_byte s (from + 1) 36 ≡ false) → unescaped (slice_range s from to) ≡ pieces_from 0 (slice_range s from to)
first_plain s from to within long other =
    let c = get_or s from 0 in
    let d = get_or s (from + 1) 0 in
    let t = slice_range s (from + 1 + 1) to in
    let e : slice_range s from to ≡ c ∷ d ∷ t =
    range_first s from to c (omega arith) (slice_get-get_or s from 0 (omega arith))
    ∙ ap (λ x. c ∷ x) (range_first s (from + 1) to d (omega arith) (slice_get-get_or s (from + 1) 0 (omega arith))) in
    unmarked (slice_range s from to) (ap begins_mark e ∙ mark_two c d t (elim other [
      | inl h ↦ inl ((is_byte_not s from 95 (omega arith) h).1)
      | inr h ↦ inr ((is_byte_not s (from + 1) 36 (omega arith) h).1)
    ]))

-- the pieces of an element from a place

pieces_unit : (c : ℕ) (s : List ℕ) (u : List ℕ × ℕ) → leading_unit c s ≡ Some u → pieces_from 0 (c ∷ s) ≡ u.0 ∷ pieces_from u.1 s
unfolding pieces_from
pieces_unit c s u h = rw (h, pieces_from) refl

pieces_raw : (c : ℕ) (s : List ℕ) → leading_unit c s ≡ None → pieces_from 0 (c ∷ s) ≡ (c ∷ s) ∷ []
unfolding pieces_from
pieces_raw c s h = rw (h, pieces_from) refl

pub pieces_turn : (s : List ℕ) (at next to : ℕ) (text : List ℕ) → to ≤ length s → at < to → at < next → next ≤ to → leading_unit (slice_index s at) (slice_range s (at + 1) to) ≡ Some (text, next - (at + 1)) → pieces_from 0 (slice_range s at to) ≡ text ∷ pieces_from 0 (slice_range s next to)
pieces_turn s at next to text within lt more le h =
    let k = next - (at + 1) in
    let n : at + 1 + k ≡ next = omega arith in
    ap (pieces_from 0) (range_first s at to (slice_index s at) lt (slice_get-get_or s at 0 (omega arith)))
    ∙ pieces_unit (slice_index s at) (slice_range s (at + 1) to) (text, k) h
    ∙ ap (λ ps. text ∷ ps) (pieces_skip k (slice_range s (at + 1) to) ∙ ap (pieces_from 0) (range_drop s (at + 1) k to (omega arith) ∙ ap (λ m. slice_range s m to) n))

pub pieces_stop : (s : List ℕ) (at to : ℕ) → to ≤ length s → at < to → leading_unit (slice_index s at) (slice_range s (at + 1) to) ≡ None → pieces_from 0 (slice_range s at to) ≡ slice_range s at to ∷ []
pieces_stop s at to within lt h =
    let e = range_first s at to (slice_index s at) lt (slice_get-get_or s at 0 (omega arith)) in
    ap (pieces_from 0) e ∙ pieces_raw (slice_index s at) (slice_range s (at + 1) to) h ∙ ap (λ t. t ∷ []) (sym e)

pub pieces_end : (s : List ℕ) (at to : ℕ) → to ≤ at → pieces_from 0 (slice_range s at to) ≡ slice_range s at to ∷ []
unfolding pieces_from
pieces_end s at to past = let e = range_past s at to past in ap (pieces_from 0) e ∙ ap (λ t. t ∷ []) (sym e)
