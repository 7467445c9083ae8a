-- The test of a suffix, a byte at a time.
use Rattle.std.proofs.Common.{◌≡◌, ℕ, zero, suc, ◌+◌, ◌<◌, Bool, true, false, ◌&&◌, List, [], ◌∷◌, length, drop, get_or, Some, ◌≤◌, sym, refl, ap, ◌∙◌, arith}
use Rattle.std.specs.List.{list_all, slice_get}
use Rattle.std.proofs.lemmas.List.{drop_all}
use Rattle.std.proofs.lemmas.Option.{slice_get_within, get_or_from_slice_get}
use Rattle.demangle_symbol.specs.Digits.{is_byte}
use Rattle.demangle_value.specs.Stripped.{is_graphic, is_allowed}

list_all-drop : (p : ℕ → Bool) (xs : List ℕ) (i : ℕ) → i < length xs → list_all p (drop i xs) ≡ (p (get_or xs i 0) && list_all p (drop (suc i) xs))
list_all-drop p [] i h = absurd (omega arith)
list_all-drop p (x ∷ xs) zero h = refl
list_all-drop p (x ∷ xs) (suc i) h = list_all-drop p xs i (omega arith)

add-one' : (i : ℕ) → i + 1 ≡ suc i
add-one' i = omega arith

-- after a graphic byte, the rest is tested
pub graphic_more : (s : List ℕ) (i b : ℕ) → slice_get s i ≡ Some b → is_graphic b ≡ true → list_all is_graphic (drop i s) ≡ list_all is_graphic (drop (i + 1) s)
graphic_more s i b here passes =
    let within : i < length s = slice_get_within s i b here in
    let is : get_or s i 0 ≡ b = get_or_from_slice_get s i b 0 here in
    list_all-drop is_graphic s i within
    ∙ ap (λ x. x && list_all is_graphic (drop (suc i) s)) (ap is_graphic is ∙ passes)
    ∙ ap (λ k. list_all is_graphic (drop k s)) (sym (add-one' i))

-- a byte that is not graphic fails the test
pub graphic_not : (s : List ℕ) (i b : ℕ) → slice_get s i ≡ Some b → is_graphic b ≡ false → list_all is_graphic (drop i s) ≡ false
graphic_not s i b here fails =
    let within : i < length s = slice_get_within s i b here in
    let is : get_or s i 0 ≡ b = get_or_from_slice_get s i b 0 here in
    list_all-drop is_graphic s i within
    ∙ ap (λ x. x && list_all is_graphic (drop (suc i) s)) (ap is_graphic is ∙ fails)

-- at the end, nothing is left to test
pub graphic_end : (s : List ℕ) (i : ℕ) → length s ≤ i → list_all is_graphic (drop i s) ≡ true
graphic_end s i h = ap (λ xs. list_all is_graphic xs) (drop_all i s h)

-- after the dot, the characters are graphic
pub allowed_dot : (s : List ℕ) → is_byte s 0 46 ≡ true → is_allowed s ≡ list_all is_graphic (drop 1 s)
unfolding is_byte
allowed_dot [] h = cc
allowed_dot (c ∷ s) h = ap (λ b. b && list_all is_graphic s) h

pub allowed_other : (s : List ℕ) → 0 < length s → is_byte s 0 46 ≡ false → is_allowed s ≡ false
unfolding is_byte
allowed_other [] some h = absurd (omega arith)
allowed_other (c ∷ s) some h = ap (λ b. b && list_all is_graphic s) h

pub allowed_empty : (s : List ℕ) → length s ≡ 0 → is_allowed s ≡ true
allowed_empty [] h = refl
allowed_empty (c ∷ s) h = absurd (omega (arith, h))

pub ruleset suffix_steps = (graphic_more, graphic_not, graphic_end, allowed_dot, allowed_other, allowed_empty)
