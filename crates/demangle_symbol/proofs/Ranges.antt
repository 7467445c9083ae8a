-- A part of a symbol from a place to before another, byte by byte from its start.
use Rattle.std.proofs.Common.{◌≡◌, ℕ, zero, suc, ◌+◌, ◌-◌, ◌<◌, ◌≤◌, ◌&&◌, Bool, true, false, not, cond, List, [], ◌∷◌, length, take, drop, get_or, slice_range, Some, None, refl, ap, ◌∙◌, arith, length-take, length-drop, eqb}
use Rattle.demangle_symbol.specs.Digits.{is_byte}
use Rattle.std.specs.Prelude.{position}
use Rattle.std.specs.List.{slice_get, list_all, position_or_len}
use Rattle.std.proofs.lemmas.List.{at_drop_more, drop-drop, drop-take}
use Rattle.std.proofs.lemmas.Option.{slice_get-get_or, slice_get_within, get_or_from_slice_get}
use Rattle.std.proofs.lemmas.Bool.Decides.{nat_tests}

-- a byte that is another one
pub is_byte_not : (s : List ℕ) (k b : ℕ) → k < length s → is_byte s k b ≡ false → (slice_get s k ≡ Some (get_or s k 0)) × (eqb (get_or s k 0) b ≡ false)
unfolding is_byte
is_byte_not s k b within h =
    let here : slice_get s k ≡ Some (get_or s k 0) = slice_get-get_or s k 0 within in
    (here, rw here at h)

-- the first byte, and the rest
pub range_first : (s : List ℕ) (k to b : ℕ) → k < to → slice_get s k ≡ Some b → slice_range s k to ≡ b ∷ slice_range s (k + 1) to
range_first s k to b lt here =
    let within : k < length s = slice_get_within s k b here in
    let is : get_or s k 0 ≡ b = get_or_from_slice_get s k b 0 here in
    let n : to - k ≡ suc (to - (k + 1)) = omega arith in
    ap (λ m. take m (drop k s)) n ∙ at_drop_more (λ t. take (suc (to - (k + 1))) t) s k 0 within ∙ ap (λ x. x ∷ slice_range s (k + 1) to) is

-- an empty part
pub range_past : (s : List ℕ) (k to : ℕ) → to ≤ k → slice_range s k to ≡ []
range_past s k to past =
    let n : to - k ≡ 0 = omega arith in
    ap (λ m. take m (drop k s)) n

pub range_length : (s : List ℕ) (i j : ℕ) → j ≤ length s → length (slice_range s i j) ≡ j - i
range_length s i j within = omega (arith, length-take (j - i) (drop i s), length-drop i s)

-- the rest of a part after its first k bytes
pub range_drop : (s : List ℕ) (i k to : ℕ) → i + k ≤ to → drop k (slice_range s i to) ≡ slice_range s (i + k) to
range_drop s i k to le =
    let n : to - i ≡ k + (to - (i + k)) = omega arith in
    ap (λ m. drop k (take m (drop i s))) n ∙ drop-take k (to - (i + k)) (drop i s) ∙ ap (take (to - (i + k))) (drop-drop k i s)

-- the first bytes of a part
pub range_take : (s : List ℕ) (i j to : ℕ) → i ≤ j → j ≤ to → take (j - i) (slice_range s i to) ≡ slice_range s i j
range_take s i j to le within = take_of_take (j - i) (to - i) (drop i s) (omega arith) where
  take_of_take : (n m : ℕ) (xs : List ℕ) → n ≤ m → take n (take m xs) ≡ take n xs
  take_of_take zero m xs h = refl
  take_of_take (suc n) zero xs h = absurd (omega arith)
  take_of_take (suc n) (suc m) [] h = refl
  take_of_take (suc n) (suc m) (x ∷ xs) h = ap (λ t. x ∷ t) (take_of_take n m xs (omega arith))

-- the place of the first byte that passes the test
pub place_found : (p : ℕ → Bool) (s : List ℕ) (k to b : ℕ) → k < to → slice_get s k ≡ Some b → p b ≡ true → position_or_len p (slice_range s k to) ≡ 0
place_found p s k to b lt here passes = ap (position_or_len p) (range_first s k to b lt here) ∙ ap (λ t. cond (not t) (1 + position_or_len p (slice_range s (k + 1) to)) 0) passes

pub place_passed : (p : ℕ → Bool) (s : List ℕ) (k to b : ℕ) → k < to → slice_get s k ≡ Some b → p b ≡ false → position_or_len p (slice_range s k to) ≡ 1 + position_or_len p (slice_range s (k + 1) to)
place_passed p s k to b lt here fails = ap (position_or_len p) (range_first s k to b lt here) ∙ ap (λ t. cond (not t) (1 + position_or_len p (slice_range s (k + 1) to)) 0) fails

pub place_past : (p : ℕ → Bool) (s : List ℕ) (k to : ℕ) → to ≤ k → position_or_len p (slice_range s k to) ≡ 0
place_past p s k to past = ap (position_or_len p) (range_past s k to past)

pub position_found : (p : ℕ → Bool) (s : List ℕ) (from at to : ℕ) → to ≤ length s → at < to → from ≤ at → position_or_len p (slice_range s from to) ≡ at - from → position p (slice_range s from to) ≡ Some (at - from)
position_found p s from at to within lt le e =
    let n = range_length s from to within in
    at_place (slice_range s from to) (at - from) e (omega arith) where
      at_place : (xs : List ℕ) (n : ℕ) → position_or_len p xs ≡ n → n < length xs → position p xs ≡ Some n
      at_place xs n e lt = grind (arith, nat_tests)

pub position_past : (p : ℕ → Bool) (s : List ℕ) (from to n : ℕ) → to ≤ length s → to - from ≤ n → position_or_len p (slice_range s from to) ≡ n → position p (slice_range s from to) ≡ None
position_past p s from to n within le e =
    let m = range_length s from to within in
    at_end (slice_range s from to) e (omega arith) where
      at_end : (xs : List ℕ) → position_or_len p xs ≡ n → length xs ≤ n → position p xs ≡ None
      at_end xs e lt = grind (arith, nat_tests)

pub ruleset place_steps = (place_found, place_passed, place_past, position_found, position_past)
