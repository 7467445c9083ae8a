-- The reading of identifiers, byte by byte.
use Rattle.std.proofs.Common.{◌≡◌, ℕ, zero, suc, ltb, leb, subst, ◌+◌, ◌-◌, ◌*◌, ◌^◌, ◌<◌, ◌≤◌, ◌≢◌, Bool, true, false, not, eqb, ◌==◌, cond, List, [], ◌∷◌, ◌++◌, length, get_or, Some, None, sym, refl, ap, ◌∙◌, arith}
use Rattle.std.specs.List.{slice_get, slice_range, prefix_len, suffix_len}
use Rattle.std.proofs.lemmas.List.{reverse-append}
use Rattle.std.proofs.lemmas.List.Edits.{between_none}
use Rattle.std.proofs.lemmas.Option.{slice_get-get_or}
use Rattle.demangle_symbol.specs.declared.cursor.ident.Ident.{Ident}
use Rattle.demangle_symbol.specs.Digits.{run_end, number, is_digit_10, digit_10, Decimal, is_byte}
use Rattle.std.specs.Prelude.{◌&&◌, option_map}
use Rattle.std.proofs.lemmas.Bool.{lt-ltb, ltb-true, le-leb, leb-true}
use Rattle.std.proofs.lemmas.Bool.Decides.{nat_tests}
use Rattle.demangle_symbol.proofs.Integers.{only_both, only_not_both}
use Rattle.std.proofs.lemmas.List.Sums.{suffix_len-le-length}
use Rattle.std.proofs.lemmas.List.Edits.{length-between}
use Rattle.demangle_symbol.specs.Primitives.{Name, length_end, length_value, Length, after_byte, tail_len, digits_from, name_from, name_len, name_of, punycode_len, ascii_to, identifier_at, Identifier}
use Rattle.demangle_symbol.specs.Idents.{DigitsUpTo, IsIdent, ident_parts, ident_at, name_in}
use Rattle.demangle_symbol.proofs.Digits.{range_more, number_none, number_more, is_byte_there, digits_none, digits_more}

pub length_none : (s : List ℕ) (i : ℕ) → is_byte s i 48 ≡ true → Length s i (i + 1) 0
unfolding length_end length_value
length_none s i h =
    let e : length_end s i ≡ i + 1 = rw h refl in
    let n : length_value s i ≡ 0 =
    rw e (number_more 10 digit_10 s i i 48 (omega arith) (is_byte_there s i 48 h) ∙ omega (arith, number_none 10 digit_10 s i)) in
    record { some = omega arith; next = sym e; value = sym n }

pub length_decimal : (s : List ℕ) (i j v : ℕ) → is_byte s i 48 ≡ false → Decimal s i j v → Length s i j v
unfolding length_end length_value
length_decimal s i j v other h =
    let e : length_end s i ≡ run_end is_digit_10 s i = rw other refl in
    record { some = omega (arith, h.some); next = h.next ∙ sym e; value = h.value ∙ ap (λ k. number 10 digit_10 (slice_range s i k)) (sym e) }

pub decimal_length : (s : List ℕ) (i j v : ℕ) → is_byte s i 48 ≡ false → Length s i j v → Decimal s i j v
unfolding length_end length_value
decimal_length s i j v other h =
    let e : length_end s i ≡ run_end is_digit_10 s i = rw other refl in
    record { some = omega (arith, h.some); next = h.next ∙ e; value = h.value ∙ ap (λ k. number 10 digit_10 (slice_range s i k)) e }

pub no_length : (s : List ℕ) (i : ℕ) → is_byte s i 48 ≡ false → ((j v : ℕ) → v < 2 ^ 64 → Decimal s i j v → ⊥) → (j v : ℕ) → v < 2 ^ 64 → Length s i j v → ⊥
no_length s i other none j v small h = none j v small (decimal_length s i j v other h)

pub digits_one : (s : List ℕ) (i d : ℕ) → slice_get s i ≡ Some (d + 48) → d < 10 → DigitsUpTo s i (i + 1) d
digits_one s i d here small =
    subst (λ n. DigitsUpTo s i (i + 1) n) (omega arith) (digits_more s i i 0 d (digits_none s i) here small)

pub digits_two : (s : List ℕ) (i d e : ℕ) → slice_get s i ≡ Some (d + 48) → d < 10 → slice_get s (i + 1) ≡ Some (e + 48) → e < 10 → DigitsUpTo s i (i + 2) (d * 10 + e)
digits_two s i d e here small next next_small =
    subst (λ k. DigitsUpTo s i k (d * 10 + e)) (omega arith) (digits_more s i (i + 1) d e (digits_one s i d here small) next next_small)

pub ruleset length_steps = (length_none, length_decimal, decimal_length)

pub tail_none : (s : List ℕ) (i : ℕ) → tail_len s i i ≡ 0
unfolding tail_len
tail_none s i = ap (λ xs. suffix_len (λ b. not (b == 95)) xs) (between_none s i)

-- the tail of a list with one more element
suffix_push : (p : ℕ → Bool) (xs : List ℕ) (x : ℕ) → suffix_len p (xs ++ x ∷ []) ≡ cond (p x) (1 + suffix_len p xs) 0
suffix_push p xs x = ap (λ ys. prefix_len p ys) (reverse-append xs (x ∷ []))

pub tail_push : (s : List ℕ) (i k b : ℕ) → i ≤ k → slice_get s k ≡ Some b → tail_len s i (k + 1) ≡ cond (not (b == 95)) (1 + tail_len s i k) 0
unfolding tail_len
tail_push s i k b le here =
    ap (λ xs. suffix_len (λ x. not (x == 95)) xs) (range_more s i k b le here) ∙ suffix_push (λ x. not (x == 95)) (slice_range s i k) b

pub tail_past : (s : List ℕ) (i k : ℕ) → i ≤ k → is_byte s k 95 ≡ true → tail_len s i (k + 1) ≡ 0
tail_past s i k le h = tail_push s i k 95 le (is_byte_there s k 95 h)

pub is_byte_not : (s : List ℕ) (k b : ℕ) → k < length s → is_byte s k b ≡ false → (slice_get s k ≡ Some (get_or s k 0)) × (eqb (get_or s k 0) b ≡ false)
unfolding is_byte
is_byte_not s k b within h =
    let here : slice_get s k ≡ Some (get_or s k 0) = slice_get-get_or s k 0 within in
    (here, rw here at h)

pub tail_more : (s : List ℕ) (i k : ℕ) → i ≤ k → k < length s → is_byte s k 95 ≡ false → tail_len s i (k + 1) ≡ tail_len s i k + 1
tail_more s i k le within h =
    let p = is_byte_not s k 95 within h in
    let q : tail_len s i (k + 1) ≡ cond (not (get_or s k 0 == 95)) (1 + tail_len s i k) 0 = tail_push s i k (get_or s k 0) le p.0 in
    q ∙ rw p.1 (omega arith)

pub ruleset tail_steps = (tail_none, tail_past, tail_more)

after_there : (t : Bool) (i : ℕ) → cond t (i + 1) i ≢ i → t ≡ true
after_there true i h = refl
after_there false i h = absurd (h refl)

-- No identifier starts at i, if its length would start at d and one of these holds. There is no length at d, or it says
-- too many bytes, or there is a `u` but no Punycode part.
pub no_ident_length : (s : List ℕ) (i d : ℕ) → d ≡ after_byte 117 s i → length s < 2 ^ 64 → ((j v : ℕ) → v < 2 ^ 64 → Length s d j v → ⊥) → (j : ℕ) (ident : Ident) → IsIdent s i j ident → ⊥
no_ident_length s i d d_is fits none j ident h =
    let there : Length s (after_byte 117 s i) (length_end s (after_byte 117 s i)) (length_value s (after_byte 117 s i)) = record { some = h.some; next = refl; value = refl } in
    none (length_end s (after_byte 117 s i)) (length_value s (after_byte 117 s i)) (omega (arith, h.next, h.inside)) (rw d_is there)

pub no_ident_past : (s : List ℕ) (i d e f len : ℕ) → d ≡ after_byte 117 s i → Length s d e len → f ≡ after_byte 95 s e → length s - f < len → (j : ℕ) (ident : Ident) → IsIdent s i j ident → ⊥
no_ident_past s i d e f len d_is there f_is past j ident h =
    let e_is : e ≡ length_end s (after_byte 117 s i) = there.next ∙ ap (length_end s) d_is in
    let len_is : len ≡ length_value s (after_byte 117 s i) = there.value ∙ ap (length_value s) d_is in
    let from : f ≡ name_from s i = f_is ∙ ap (after_byte 95 s) e_is in
    omega (arith, h.next, h.inside)

pub no_ident_empty : (s : List ℕ) (i d e f len : ℕ) → d ≡ after_byte 117 s i → Length s d e len → f ≡ after_byte 95 s e → d ≢ i → tail_len s f (f + len) ≡ 0 → (j : ℕ) (ident : Ident) → IsIdent s i j ident → ⊥
no_ident_empty s i d e f len d_is there f_is other empty j ident h =
    let e_is : e ≡ length_end s (after_byte 117 s i) = there.next ∙ ap (length_end s) d_is in
    let len_is : len ≡ length_value s (after_byte 117 s i) = there.value ∙ ap (length_value s) d_is in
    let from : f ≡ name_from s i = f_is ∙ ap (after_byte 95 s) e_is in
    let j_is : j ≡ f + len = h.next ∙ omega arith in
    let u : is_byte s i 117 ≡ true = after_there (is_byte s i 117) i (λ e. other (d_is ∙ e)) in
    let some : 0 < tail_len s (name_from s i) j = h.not_empty u in
    let same : tail_len s f (f + len) ≡ tail_len s (name_from s i) j = ap (λ x. tail_len s x (f + len)) from ∙ ap (tail_len s (name_from s i)) (sym j_is) in
    omega arith

-- the start of its length
pub after_u : (s : List ℕ) (i : ℕ) → is_byte s i 117 ≡ true → i + 1 ≡ after_byte 117 s i
after_u s i h = rw h refl

pub after_no_u : (s : List ℕ) (i : ℕ) → is_byte s i 117 ≡ false → i ≡ after_byte 117 s i
after_no_u s i h = rw h refl

pub ruleset ident_steps = (after_u, after_no_u, no_ident_length, no_ident_past, no_ident_empty)

tail_most : (s : List ℕ) (from to : ℕ) → to ≤ length s → from ≤ to → from + tail_len s from to ≤ to
unfolding tail_len
tail_most s from to inside order =
    omega (arith, suffix_len-le-length (λ b. not (b == 95)) (slice_range s from to), length-between s from to inside)

punycode_most : (s : List ℕ) (i j : ℕ) → j ≤ length s → name_from s i ≤ j → punycode_len s i j ≤ j
punycode_most s i j inside order = go (is_byte s i 117) where
  go : (u : Bool) → cond u (tail_len s (name_from s i) j) 0 ≤ j
  go true = omega (arith, tail_most s (name_from s i) j inside order)
  go false = omega arith

-- the bounds of its parts
parts_are : (a b c d : ℕ) (x : Ident) → x.ascii.from ≡ a → x.ascii.to ≡ b → x.punycode.from ≡ c → x.punycode.to ≡ d → record { ascii = record { from = a; to = b }; punycode = record { from = c; to = d } } ≡ x
parts_are a b c d x e f g h = rw (sym e, sym f, sym g, sym h) refl

ident_parts_are : (s : List ℕ) (i j : ℕ) (ident : Ident) → IsIdent s i j ident → ident_parts s i j ≡ ident
ident_parts_are s i j ident h =
    parts_are (name_from s i) (ascii_to s i j) (j - punycode_len s i j) j ident h.ascii_from h.ascii_to (omega (arith, h.punycode_from)) h.punycode_to

ident_name : (s : List ℕ) (i j : ℕ) (ident : Ident) → IsIdent s i j ident → name_in s ident ≡ name_of s i j
ident_name s i j ident h = ap (name_in s) (sym (ident_parts_are s i j ident h))

pub ident_spelled : (s : List ℕ) (i j : ℕ) (ident : Ident) → IsIdent s i j ident → Identifier s i j (name_in s ident)
ident_spelled s i j ident h = record { some = h.some; next = h.next; inside = h.inside; not_empty = h.not_empty; value = ident_name s i j ident h }

pub ident_unspelled : (s : List ℕ) (i : ℕ) → ((j : ℕ) (ident : Ident) → IsIdent s i j ident → ⊥) → (j : ℕ) (name : Name) → Identifier s i j name → ⊥
ident_unspelled s i none j name h =
    let order : name_from s i ≤ j = omega (arith, h.next) in
    none j (ident_parts s i j) (record {
      some = h.some;
      next = h.next;
      inside = h.inside;
      ascii_from = refl;
      ascii_to = refl;
      punycode_from = omega (arith, punycode_most s i j h.inside order);
      punycode_to = refl;
      not_empty = h.not_empty;
    })

and_both : (a b : Bool) → a ≡ true → b ≡ true → (a && b) ≡ true
and_both true true p q = refl
and_both true false p q = absurd (cc)
and_both false b p q = absurd (cc)

and_left : (a b : Bool) → (a && b) ≡ true → a ≡ true
and_left true b p = refl
and_left false b p = absurd (cc)

and_right : (a b : Bool) → (a && b) ≡ true → b ≡ true
and_right true b p = p
and_right false b p = absurd (cc)

-- after a `u`, the part is not empty
left_over : (u : Bool) (n : ℕ) → (u ≡ true → 0 < n) → not (u && n == 0) ≡ true
left_over true n h = let some : 0 < n = h refl in let other : eqb n 0 ≡ false = grind (arith, nat_tests) in rw other refl
left_over false n h = refl

left_over_some : (u : Bool) (n : ℕ) → not (u && n == 0) ≡ true → u ≡ true → 0 < n
left_over_some true zero h e = absurd (cc)
left_over_some true (suc n) h e = omega arith
left_over_some false n h e = absurd (cc)

abbrev end_of : List ℕ → ℕ → ℕ
end_of s i = name_from s i + name_len s i

-- the test of the function
abbrev some_test : List ℕ → ℕ → Bool
some_test s i = ltb (digits_from s i) (length_end s (digits_from s i))

abbrev inside_test : List ℕ → ℕ → Bool
inside_test s i = leb (end_of s i) (length s)

abbrev left_test : List ℕ → ℕ → Bool
left_test s i = not (is_byte s i 117 && tail_len s (name_from s i) (end_of s i) == 0)

identifier_ends : (s : List ℕ) (i : ℕ) (name : Name) → Identifier s i (end_of s i) name → identifier_at s i ≡ Some (name, end_of s i)
unfolding identifier_at
identifier_ends s i name h =
    only_both (some_test s i && inside_test s i) (left_test s i) (name_of s i (end_of s i), end_of s i)
    (and_both (some_test s i) (inside_test s i) (lt-ltb _ _ h.some) (le-leb _ _ h.inside))
    (left_over (is_byte s i 117) (tail_len s (name_from s i) (end_of s i)) h.not_empty)
    ∙ ap (λ n. Some (n, end_of s i)) (sym h.value)

-- the relation and the function agree
pub identifier_read : (s : List ℕ) (i j : ℕ) (name : Name) → Identifier s i j name → identifier_at s i ≡ Some (name, j)
identifier_read s i j name h =
    identifier_ends s i name (subst (λ k. Identifier s i k name) h.next h) ∙ ap (λ k. Some (name, k)) (sym h.next)

pub identifier_unread : (s : List ℕ) (i : ℕ) → ((j : ℕ) (name : Name) → Identifier s i j name → ⊥) → identifier_at s i ≡ None
unfolding identifier_at
identifier_unread s i none =
    only_not_both (some_test s i && inside_test s i) (left_test s i) (name_of s i (end_of s i), end_of s i)
    (λ prefix left. none (end_of s i) (name_of s i (end_of s i)) (record {
      some = ltb-true _ _ (and_left (some_test s i) (inside_test s i) prefix);
      next = refl;
      inside = leb-true _ _ (and_right (some_test s i) (inside_test s i) prefix);
      not_empty = left_over_some (is_byte s i 117) (tail_len s (name_from s i) (end_of s i)) left;
      value = refl;
    }))

pub ident_read : (s : List ℕ) (i j : ℕ) (ident : Ident) → IsIdent s i j ident → identifier_at s i ≡ Some (name_in s ident, j)
ident_read s i j ident h = identifier_read s i j (name_in s ident) (ident_spelled s i j ident h)

pub ident_unread : (s : List ℕ) (i : ℕ) → ((j : ℕ) (ident : Ident) → IsIdent s i j ident → ⊥) → identifier_at s i ≡ None
ident_unread s i none = identifier_unread s i (ident_unspelled s i none)

pub ident_there : (s : List ℕ) (i j : ℕ) (ident : Ident) → IsIdent s i j ident → ident_at s i ≡ Some (ident, j)
ident_there s i j ident h =
    ap (option_map (λ (r : Name × ℕ). (ident_parts s i r.1, r.1))) (ident_read s i j ident h)
    ∙ ap (λ (x : Ident). Some (x, j)) (ident_parts_are s i j ident h)

pub ident_not_there : (s : List ℕ) (i : ℕ) → ((j : ℕ) (ident : Ident) → IsIdent s i j ident → ⊥) → ident_at s i ≡ None
ident_not_there s i none = ap (option_map (λ (r : Name × ℕ). (ident_parts s i r.1, r.1))) (ident_unread s i none)

pub ruleset ident_reads = (ident_spelled, ident_unspelled, ident_read, ident_unread, ident_there, ident_not_there)
