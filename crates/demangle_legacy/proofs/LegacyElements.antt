-- The elements of a legacy symbol: the functions read exactly the elements that the grammar spells.
use Rattle.std.proofs.Common.{◌≡◌, ℕ, zero, suc, ◌+◌, ◌-◌, ◌^◌, ◌<◌, ◌≤◌, ◌≢◌, ◌⊎◌, inl, inr, ◌&&◌, Bool, true, false, cond, List, [], ◌∷◌, ◌++◌, length, take, drop, get_or, slice_range, Option, Some, None, refl, sym, ap, ◌∙◌, arith, subst, length-append, length-take, length-drop, eqb, ltb}
use Rattle.std.specs.List.{list_all, prefix_len}
use Rattle.std.proofs.lemmas.List.{take-append-drop, at_drop_more, at_drop_all, drop-drop}
use Rattle.std.proofs.Math.Seq.{drop-append_seam, take-append_seam}
use Rattle.std.proofs.lemmas.Bool.Decides.{nat_tests, leb_tells}
use Rattle.std.proofs.lemmas.Bool.{le-leb}
use Rattle.std.proofs.lemmas.Option.{get_or_from_slice_get}
use Rattle.demangle_symbol.proofs.Digits.{is_byte_there, is_byte_within}
use Rattle.demangle_symbol.proofs.Ranges.{is_byte_not}
use Rattle.demangle_symbol.specs.Digits.{run_end, number, is_digit_10, digit_10, Decimal, is_byte}
use Rattle.demangle_legacy.specs.Legacy.{IsLength, NoDigitFirst, IsElements, cut_at, element_of, before_element, parts_within, parts_of, elements_of, after_E, suffix_of}
use Rattle.demangle_symbol.proofs.Options.{none_some, option_cases}

pub bool_cases : (b : Bool) → (b ≡ true) ⊎ (b ≡ false)
bool_cases true = inl refl
bool_cases false = inr refl

lt_or_le : (a b : ℕ) → (a < b) ⊎ (b ≤ a)
lt_or_le a b = elim (bool_cases (ltb a b)) [ inl h ↦ inl (grind (arith, nat_tests)) | inr h ↦ inr (grind (arith, nat_tests)) ]

and_left : (a b : Bool) → (a && b) ≡ true → a ≡ true
and_left true b h = refl
and_left false b h = h

and_right : (a b : Bool) → (a && b) ≡ true → b ≡ true
and_right true b h = h
and_right false b h = cc

-- the condition for cutting a text

cut_some : (d n : ℕ) (t : List ℕ) → d ≢ 0 → n ≤ length t → cut_at d n t ≡ Some (take n t, drop n t)
cut_some zero n t some fits = absurd (some refl)
cut_some (suc d) n t some fits = rw (le-leb n (length t) fits) refl

cut_past : (d n : ℕ) (t : List ℕ) → length t < n → cut_at d n t ≡ None
cut_past zero n t past = refl
cut_past (suc d) n t past = elim (leb_tells n (length t)) [ inl e ↦ let le : n ≤ length t = e.1 in absurd (omega arith) | inr e ↦ rw e.0 refl ]

-- the parts of a text that was cut
record WasCut (d n : ℕ) (t : List ℕ) (u : List ℕ × List ℕ) : Type 0 where
  some : d ≢ 0
  fits : n ≤ length t
  is : u ≡ (take n t, drop n t)

was_cut : (d n : ℕ) (t : List ℕ) (u : List ℕ × List ℕ) → cut_at d n t ≡ Some u → WasCut d n t u
was_cut zero n t u e = absurd (none_some u e)
was_cut (suc d) n t u e = elim (leb_tells n (length t)) [
  | inl h ↦ let same : ◌≡◌ {A = Option (List ℕ × List ℕ)} (Some (take n t, drop n t)) (Some u) = sym (cut_some (suc d) n t (λ z. absurd (omega arith)) h.1) ∙ e in
      record { some = λ z. absurd (omega arith); fits = h.1; is = cc }
  | inr h ↦ let past : length t < n = omega (arith, h.1) in absurd (none_some u (sym (cut_past (suc d) n t past) ∙ e))
]

-- the digits at the start

digits_all : (s : List ℕ) → list_all is_digit_10 (take (prefix_len is_digit_10 s) s) ≡ true
digits_all [] = refl
digits_all (c ∷ s) = elim (bool_cases (is_digit_10 c)) [
  | inl h ↦ ap (λ b. list_all is_digit_10 (take (cond b (1 + prefix_len is_digit_10 s) 0) (c ∷ s))) h
      ∙ ap (λ n. list_all is_digit_10 (take n (c ∷ s))) (one_more (prefix_len is_digit_10 s))
      ∙ ap (λ b. b && list_all is_digit_10 (take (prefix_len is_digit_10 s) s)) h ∙ digits_all s
  | inr h ↦ ap (λ b. list_all is_digit_10 (take (cond b (1 + prefix_len is_digit_10 s) 0) (c ∷ s))) h
] where
  one_more : (n : ℕ) → 1 + n ≡ suc n
  one_more n = omega arith

digits_stop : (s : List ℕ) → NoDigitFirst (drop (prefix_len is_digit_10 s) s)
digits_stop [] = tt
digits_stop (c ∷ s) = elim (bool_cases (is_digit_10 c)) [
  | inl h ↦ subst (λ n. NoDigitFirst (drop n (c ∷ s))) (sym (ap (λ b. cond b (1 + prefix_len is_digit_10 s) 0) h ∙ one_more (prefix_len is_digit_10 s))) (digits_stop s)
  | inr h ↦ subst (λ n. NoDigitFirst (drop n (c ∷ s))) (sym (ap (λ b. cond b (1 + prefix_len is_digit_10 s) 0) h)) h
] where
  one_more : (n : ℕ) → 1 + n ≡ suc n
  one_more n = omega arith

digits_within : (s : List ℕ) → prefix_len is_digit_10 s ≤ length s
digits_within [] = omega arith
digits_within (c ∷ s) = elim (bool_cases (is_digit_10 c)) [
  | inl h ↦ let e = ap (λ b. cond b (1 + prefix_len is_digit_10 s) 0) h in omega (arith, digits_within s, e)
  | inr h ↦ let e = ap (λ b. cond b (1 + prefix_len is_digit_10 s) 0) h in omega (arith, e)
]

digits_stopped : (t : List ℕ) → NoDigitFirst t → prefix_len is_digit_10 t ≡ 0
digits_stopped [] h = refl
digits_stopped (c ∷ t) h = ap (λ b. cond b (1 + prefix_len is_digit_10 t) 0) h

digits_word : (word t : List ℕ) → list_all is_digit_10 word ≡ true → NoDigitFirst t → prefix_len is_digit_10 (word ++ t) ≡ length word
digits_word [] t h stop = digits_stopped t stop
digits_word (c ∷ w) t h stop =
    ap (λ b. cond b (1 + prefix_len is_digit_10 (w ++ t)) 0) (and_left _ (list_all is_digit_10 w) h)
    ∙ omega (arith, digits_word w t (and_right (is_digit_10 c) _ h) stop)

-- one element

-- an element that was read is one of the grammar
pub record Spelled (s : List ℕ) (u : List ℕ × List ℕ) : Type 0 where
  pub word : List ℕ
  pub whole : s ≡ word ++ (u.0 ++ u.1)
  pub digits : IsLength word (length u.0)
  pub stop : NoDigitFirst (u.0 ++ u.1)

not_empty : (n : ℕ) (s : List ℕ) → n ≢ 0 → n ≤ length s → take n s ≢ []
not_empty n s some fits e = some (omega (arith, ap length e, length-take n s))

spelled_cut : (s : List ℕ) → WasCut (prefix_len is_digit_10 s) (number 10 digit_10 (take (prefix_len is_digit_10 s) s)) (drop (prefix_len is_digit_10 s) s)
    (take (number 10 digit_10 (take (prefix_len is_digit_10 s) s)) (drop (prefix_len is_digit_10 s) s), drop (number 10 digit_10 (take (prefix_len is_digit_10 s) s)) (drop (prefix_len is_digit_10 s) s))
    → Spelled s (take (number 10 digit_10 (take (prefix_len is_digit_10 s) s)) (drop (prefix_len is_digit_10 s) s), drop (number 10 digit_10 (take (prefix_len is_digit_10 s) s)) (drop (prefix_len is_digit_10 s) s))
spelled_cut s h =
    let d = prefix_len is_digit_10 s in
    let n = number 10 digit_10 (take d s) in
    let t = drop d s in
    let joined = take-append-drop n t in
    record {
      word = take d s;
      whole = sym (take-append-drop d s) ∙ ap (λ x. take d s ++ x) (sym joined);
      digits = (not_empty d s h.some (digits_within s), digits_all s, omega (arith, length-take n t, h.fits));
      stop = subst NoDigitFirst (sym joined) (digits_stop s);
    }

pub element_spelled : (s : List ℕ) (u : List ℕ × List ℕ) → element_of s ≡ Some u → Spelled s u
unfolding element_of
element_spelled s u e =
    let h = was_cut _ _ _ u e in
    subst (Spelled s) (sym h.is) (spelled_cut s (record { some = h.some; fits = h.fits; is = refl }))

length_some : (word : List ℕ) → word ≢ [] → length word ≢ 0
length_some [] h e = h refl
length_some (c ∷ w) h e = absurd (omega (arith, e))

-- and the first element of the grammar is the one that is read
pub element_takes : (word e rest : List ℕ) → IsLength word (length e) → NoDigitFirst (e ++ rest) → element_of (word ++ (e ++ rest)) ≡ Some (e, rest)
unfolding element_of
element_takes word e rest h stop =
    let d = digits_word word (e ++ rest) h.1 stop in
    ap (λ k. cut_at k (number 10 digit_10 (take k (word ++ (e ++ rest)))) (drop k (word ++ (e ++ rest)))) d
    ∙ ap (λ x. cut_at (length word) (number 10 digit_10 x) (drop (length word) (word ++ (e ++ rest)))) (take-append_seam word (e ++ rest))
    ∙ ap (cut_at (length word) (number 10 digit_10 word)) (drop-append_seam word (e ++ rest))
    ∙ ap (λ n. cut_at (length word) n (e ++ rest)) h.2
    ∙ cut_some (length word) (length e) (e ++ rest) (length_some word h.0) (omega (arith, length-append e rest))
    ∙ ap (λ x. Some (x, drop (length e) (e ++ rest))) (take-append_seam e rest)
    ∙ ap (λ x. Some (e, x)) (drop-append_seam e rest)

-- the text after an element is shorter
pub element_shorter : (s : List ℕ) (u : List ℕ × List ℕ) → element_of s ≡ Some u → length u.1 < length s
element_shorter s u e =
    let d = element_spelled s u e in
    let some = length_some d.word d.digits.0 in
    omega (arith, ap length d.whole, length-append d.word (u.0 ++ u.1), length-append u.0 u.1)

-- the element whose length is at a place

element_cut : (s : List ℕ) (at : ℕ) → element_of (drop at s) ≡ cut_at (run_end is_digit_10 s at - at) (number 10 digit_10 (slice_range s at (run_end is_digit_10 s at))) (drop (run_end is_digit_10 s at) s)
unfolding element_of
element_cut s at =
    let d = prefix_len is_digit_10 (drop at s) in
    let k : d ≡ (at + d) - at = omega arith in
    ap (λ t. cut_at d (number 10 digit_10 (take d (drop at s))) t) (drop-drop d at s)
    ∙ ap (λ m. cut_at m (number 10 digit_10 (take m (drop at s))) (drop (at + d) s)) k

pub element_there : (s : List ℕ) (at j v : ℕ) → Decimal s at j v → v ≤ length s - j → element_of (drop at s) ≡ Some (slice_range s j (j + v), drop (j + v) s)
element_there s at j v h fits =
    let end = run_end is_digit_10 s at in
    let n : number 10 digit_10 (slice_range s at end) ≡ v = sym h.value in
    let e : end ≡ j = sym h.next in
    let k : v ≡ (j + v) - j = omega arith in
    element_cut s at
    ∙ ap (λ m. cut_at (end - at) m (drop end s)) n
    ∙ ap (λ m. cut_at (m - at) v (drop m s)) e
    ∙ cut_some (j - at) v (drop j s) (λ z. absurd (omega (arith, h.some, h.next))) (omega (arith, length-drop j s))
    ∙ ap (λ x. Some (take v (drop j s), x)) (drop-drop v j s)
    ∙ ap (λ m. Some (take m (drop j s), drop (j + v) s)) k

pub element_past : (s : List ℕ) (at j v : ℕ) → Decimal s at j v → length s - j < v → element_of (drop at s) ≡ None
element_past s at j v h past =
    let end = run_end is_digit_10 s at in
    let n : number 10 digit_10 (slice_range s at end) ≡ v = sym h.value in
    let e : end ≡ j = sym h.next in
    element_cut s at
    ∙ ap (λ m. cut_at (end - at) m (drop end s)) n
    ∙ cut_past (end - at) v (drop end s) (omega (arith, length-drop end s, e))

-- A number of 64 bits or more exceeds the end of every symbol.
pub element_none : (s : List ℕ) (at : ℕ) → length s < 2 ^ 64 → ((j v : ℕ) → v < 2 ^ 64 → Decimal s at j v → ⊥) → element_of (drop at s) ≡ None
element_none s at small none = elim (option_cases (element_of (drop at s))) [
  | inl e ↦ e
  | inr e ↦
      let end = run_end is_digit_10 s at in
      let v = number 10 digit_10 (slice_range s at end) in
      let h = was_cut (end - at) v (drop end s) e.0 (sym (element_cut s at) ∙ e.1) in
      let fits : v ≤ length (drop end s) = h.fits in
      let some : at < end = apart (end - at) at end h.some refl in
      absurd (none end v (omega (arith, length-drop end s)) (record { some = some; next = refl; value = refl }))
] where
  apart : (n a b : ℕ) → n ≢ 0 → n ≡ b - a → a < b
  apart zero a b h e = absurd (h refl)
  apart (suc n) a b h e = omega arith

-- all the elements

within_end : (n : ℕ) (s : List ℕ) → element_of s ≡ None → parts_within n s ≡ ([], s)
unfolding parts_within
within_end zero s h = refl
within_end (suc n) s h = rw (h, parts_within) refl

within_more : (n : ℕ) (s : List ℕ) (u : List ℕ × List ℕ) → element_of s ≡ Some u → parts_within (suc n) s ≡ before_element u.0 (parts_within n u.1)
unfolding parts_within
within_more n s u h = rw (h, parts_within) refl

no_element : (s : List ℕ) → length s ≤ 0 → element_of s ≡ None
no_element s h = elim (option_cases (element_of s)) [ inl e ↦ e | inr e ↦ absurd (omega (arith, element_shorter s e.0 e.1)) ]

-- with as many iterations as the text has bytes, all elements are read
within_enough : (n m : ℕ) (s : List ℕ) → length s ≤ n → length s ≤ m → parts_within n s ≡ parts_within m s
within_enough zero m s a b = let e = no_element s a in within_end zero s e ∙ sym (within_end m s e)
within_enough (suc n) zero s a b = let e = no_element s b in within_end (suc n) s e ∙ sym (within_end zero s e)
within_enough (suc n) (suc m) s a b = elim (option_cases (element_of s)) [
  | inl e ↦ within_end (suc n) s e ∙ sym (within_end (suc m) s e)
  | inr e ↦
      let u : List ℕ × List ℕ = e.0 in
      let l = element_shorter s u e.1 in
      within_more n s u e.1 ∙ ap (before_element u.0) (within_enough n m u.1 (omega arith) (omega arith)) ∙ sym (within_more m s u e.1)
]

pub parts_end : (s : List ℕ) → element_of s ≡ None → parts_of s ≡ ([], s)
unfolding parts_of
parts_end s h = within_end (length s) s h

pub parts_more : (s : List ℕ) (u : List ℕ × List ℕ) → element_of s ≡ Some u → parts_of s ≡ before_element u.0 (parts_of u.1)
unfolding parts_of
parts_more s u h =
    let l = element_shorter s u h in
    within_enough (length s) (suc (length s)) s (omega arith) (omega arith)
    ∙ within_more (length s) s u h
    ∙ ap (before_element u.0) (within_enough (length s) (length u.1) u.1 (omega arith) (omega arith))

behind_E_is : (s x : List ℕ) → after_E s ≡ Some x → s ≡ 69 ∷ x
behind_E_is [] x e = absurd (none_some x e)
behind_E_is (c ∷ s) x e = elim (bool_cases (eqb c 69)) [
  | inl h ↦ let is : c ≡ 69 = grind (arith, nat_tests) in
      let same : ◌≡◌ {A = Option (List ℕ)} (Some s) (Some x) = sym (ap (λ b. cond b (Some s) None) h) ∙ e in
      let rest : s ≡ x = cc in
      ap (λ y. y ∷ s) is ∙ ap (λ y. 69 ∷ y) rest
  | inr h ↦ absurd (none_some x (sym (ap (λ b. cond b (Some s) None) h) ∙ e))
]

within_zero : (s : List ℕ) → parts_within 0 s ≡ ([], s)
unfolding parts_within
within_zero s = refl

-- the end of the elements
spelled_end : (n : ℕ) (s x : List ℕ) → parts_within n s ≡ ([], s) → after_E (parts_within n s).1 ≡ Some x → IsElements (parts_within n s).0 s x
spelled_end n s x p h =
    let q : after_E s ≡ Some x = ap (λ (r : List (List ℕ) × List ℕ). after_E r.1) (sym p) ∙ h in
    subst (λ (r : List (List ℕ) × List ℕ). IsElements r.0 s x) (sym p) (behind_E_is s x q)

within_spelled : (n : ℕ) (s x : List ℕ) → after_E (parts_within n s).1 ≡ Some x → IsElements (parts_within n s).0 s x
within_spelled zero s x h = spelled_end 0 s x (within_zero s) h
within_spelled (suc n) s x h = elim (option_cases (element_of s)) [
  | inl e ↦ spelled_end (suc n) s x (within_end (suc n) s e) h
  | inr e ↦
      let u : List ℕ × List ℕ = e.0 in
      let p = within_more n s u e.1 in
      let d = element_spelled s u e.1 in
      let q : after_E (parts_within n u.1).1 ≡ Some x = ap (λ (r : List (List ℕ) × List ℕ). after_E r.1) (sym p) ∙ h in
      subst (λ (r : List (List ℕ) × List ℕ). IsElements r.0 s x) (sym p) (d.word, u.1, d.whole, d.digits, d.stop, within_spelled n u.1 x q)
]

pub parts_spelled : (s x : List ℕ) → suffix_of s ≡ Some x → IsElements (elements_of s) s x
unfolding parts_of
parts_spelled s x h = within_spelled (length s) s x h

no_element_E : (x : List ℕ) → element_of (69 ∷ x) ≡ None
unfolding element_of
no_element_E x = refl

pub element_E : (s : List ℕ) (at : ℕ) → is_byte s at 69 ≡ true → element_of (drop at s) ≡ None
element_E s at h =
    let is : get_or s at 0 ≡ 69 = get_or_from_slice_get s at 69 0 (is_byte_there s at 69 h) in
    at_drop_more element_of s at 0 (is_byte_within s at 69 h) ∙ ap (λ c. element_of (c ∷ drop (at + 1) s)) is ∙ no_element_E (drop (at + 1) s)

pub parts_E : (x : List ℕ) → parts_of (69 ∷ x) ≡ ([], 69 ∷ x)
parts_E x = parts_end (69 ∷ x) (no_element_E x)

pub spelled_parts : (es : List (List ℕ)) (s x : List ℕ) → IsElements es s x → parts_of s ≡ (es, 69 ∷ x)
spelled_parts [] s x h = ap parts_of h ∙ parts_E x
spelled_parts (e ∷ es) s x h =
    let t = ap element_of h.2 ∙ element_takes h.0 e h.1 h.3 h.4 in
    parts_more s (e, h.1) t ∙ ap (before_element e) (spelled_parts es h.1 x h.5)

-- the suffix, if no element is left

pub no_byte_E : (s : List ℕ) (at : ℕ) → is_byte s at 69 ≡ false → after_E (drop at s) ≡ None
no_byte_E s at h = elim (lt_or_le at (length s)) [
  | inl lt ↦ let p = is_byte_not s at 69 lt h in at_drop_more after_E s at 0 lt ∙ ap (λ b. cond b (Some (drop (at + 1) s)) None) p.1
  | inr le ↦ at_drop_all after_E s at le
]

pub suffix_there : (s : List ℕ) (at : ℕ) → (parts_of s).1 ≡ (parts_of (drop at s)).1 → element_of (drop at s) ≡ None → is_byte s at 69 ≡ true → suffix_of s ≡ Some (drop (at + 1) s)
suffix_there s at same none h =
    let here = is_byte_there s at 69 h in
    let lt = is_byte_within s at 69 h in
    let is : get_or s at 0 ≡ 69 = get_or_from_slice_get s at 69 0 here in
    ap after_E (same ∙ ap (λ (r : List (List ℕ) × List ℕ). r.1) (parts_end (drop at s) none))
    ∙ at_drop_more after_E s at 0 lt ∙ ap (λ c. after_E (c ∷ drop (at + 1) s)) is

pub suffix_none : (s : List ℕ) (at : ℕ) → (parts_of s).1 ≡ (parts_of (drop at s)).1 → element_of (drop at s) ≡ None → is_byte s at 69 ≡ false → suffix_of s ≡ None
suffix_none s at same none h =
    ap after_E (same ∙ ap (λ (r : List (List ℕ) × List ℕ). r.1) (parts_end (drop at s) none)) ∙ no_byte_E s at h

pub after_more : (s : List ℕ) (at from to : ℕ) → element_of (drop at s) ≡ Some (slice_range s from to, drop to s) → (parts_of (drop at s)).1 ≡ (parts_of (drop to s)).1
after_more s at from to e = ap (λ (r : List (List ℕ) × List ℕ). r.1) (parts_more (drop at s) (slice_range s from to, drop to s) e)
