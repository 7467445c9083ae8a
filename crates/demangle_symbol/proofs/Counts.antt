-- The ends of primitives: after their start, and within the symbol.
use Rattle.std.specs.Prelude.{ℕ, ◌≤◌, ◌<◌, ◌^◌, ◌==◌, ◌&&◌, ◌||◌, nat_lt, nat_le, not, slice_get}
use Rattle.std.proofs.Common.{◌≡◌, Bool, true, false, cond, List, length, Option, Some, None, refl, ◌+◌, subst, arith}
use Rattle.std.proofs.lemmas.Option.{slice_get_within}
use Rattle.std.proofs.lemmas.Bool.{leb-true, ltb-true}
use Rattle.demangle_symbol.specs.Digits.{run_end, is_byte}
use Rattle.demangle_symbol.specs.Primitives.{Read, only_if, then_if_some, is_upper, is_lower, byte_at, namespace_at, is_digit_62, integer_value, integer_at, optional_at, backref_at, digits_from, length_end, name_from, name_len, name_of, tail_len, after_byte, identifier_at, is_nibble, nibbles_at}
use Rattle.demangle_symbol.proofs.Digits.{is_byte_within}

-- a primitive that starts at i ends at `low` or later, and within the bytes
abbrev pub Placed : {A : Type 0} → ℕ → List ℕ → Read A → Type 0
Placed low s None = Unit {0}
Placed low s (Some r) = (low ≤ r.1) × (r.1 ≤ length s)

only_placed : {A : Type 0} (low : ℕ) (s : List ℕ) (c : Bool) (x : A × ℕ) → (c ≡ true → (low ≤ x.1) × (x.1 ≤ length s)) → Placed low s (only_if c x)
only_placed low s true x h = h refl
only_placed low s false x h = tt

then_placed : {A B : Type 0} (low mid : ℕ) (s : List ℕ) (o : Read A) (f : A × ℕ → Read B) → Placed mid s o → ((a : A × ℕ) → mid ≤ a.1 → a.1 ≤ length s → Placed low s (f a)) → Placed low s (then_if_some o f)
then_placed low mid s None f h k = tt
then_placed low mid s (Some a) f h k = k a h.0 h.1

and_left : (a b : Bool) → a && b ≡ true → a ≡ true
and_left true b h = refl
and_left false b h = cc

and_right : (a b : Bool) → a && b ≡ true → b ≡ true
and_right true b h = h
and_right false b h = cc

pub byte_placed : (s : List ℕ) (i : ℕ) → Placed (i + 1) s (byte_at s i)
unfolding byte_at
byte_placed s i = go (slice_get s i) refl
  where
    go : (o : Option ℕ) → slice_get s i ≡ o → Placed (i + 1) s (then_if_some o (λ b. Some (b, i + 1)))
    go None e = tt
    go (Some b) e = let w : i < length s = slice_get_within s i b e in (omega arith, omega (arith, w))

pub namespace_placed : (s : List ℕ) (i : ℕ) → Placed (i + 1) s (namespace_at s i)
unfolding namespace_at
namespace_placed s i = go (slice_get s i) refl
  where
    go : (o : Option ℕ) → slice_get s i ≡ o → Placed (i + 1) s (then_if_some o (λ b. only_if (is_upper b || is_lower b) (b, i + 1)))
    go None e = tt
    go (Some b) e = let w : i < length s = slice_get_within s i b e in only_placed (i + 1) s (is_upper b || is_lower b) (b, i + 1) (λ _. (omega arith, omega (arith, w)))

pub integer_placed : (s : List ℕ) (i : ℕ) → Placed (i + 1) s (integer_at s i)
unfolding integer_at
integer_placed s i =
    let end : ℕ = run_end is_digit_62 s i in
    only_placed (i + 1) s (is_byte s end 95 && nat_lt (integer_value s i end) (2 ^ 64)) (integer_value s i end, end + 1)
    (λ e. let w : end < length s = is_byte_within s end 95 (and_left (is_byte s end 95) _ e) in (omega arith, omega (arith, w)))

pub optional_placed : (tag : ℕ) (s : List ℕ) (i : ℕ) → i ≤ length s → Placed i s (optional_at tag s i)
unfolding optional_at
optional_placed tag s i h = go (is_byte s i tag)
  where
    go : (c : Bool) → Placed i s (cond c (then_if_some (integer_at s (i + 1)) (λ r. only_if (nat_lt (r.0 + 1) (2 ^ 64)) (r.0 + 1, r.1))) (Some (0, i)))
    go true = then_placed i (i + 1 + 1) s (integer_at s (i + 1)) _ (integer_placed s (i + 1)) (λ a l m. only_placed i s (nat_lt (a.0 + 1) (2 ^ 64)) (a.0 + 1, a.1) (λ _. (omega (arith, l), m)))
    go false = (omega arith, h)

pub backref_placed : (s : List ℕ) (i : ℕ) → Placed (i + 1) s (backref_at s i)
unfolding backref_at
backref_placed s i = then_placed (i + 1) (i + 1) s (integer_at s i) _ (integer_placed s i) (λ a l m. only_placed (i + 1) s (nat_lt (a.0 + 1) i) a (λ _. (l, m)))

pub nibbles_placed : (s : List ℕ) (i : ℕ) → Placed (i + 1) s (nibbles_at s i)
unfolding nibbles_at
nibbles_placed s i =
    let end : ℕ = run_end is_nibble s i in
    only_placed (i + 1) s (is_byte s end 95) (_, end + 1) (λ e. let w : end < length s = is_byte_within s end 95 e in (omega arith, omega (arith, w)))

after_later : (b : ℕ) (s : List ℕ) (i : ℕ) → i ≤ after_byte b s i
after_later b s i = go (is_byte s i b)
  where
    go : (c : Bool) → i ≤ cond c (i + 1) i
    go true = omega arith
    go false = omega arith

pub identifier_placed : (s : List ℕ) (i : ℕ) → Placed (i + 1) s (identifier_at s i)
unfolding identifier_at
identifier_placed s i =
    let d : ℕ = digits_from s i in
    let j : ℕ = name_from s i + name_len s i in
    let first : i ≤ d = after_later 117 s i in
    let second : length_end s d ≤ name_from s i = after_later 95 s (length_end s d) in
    only_placed (i + 1) s (nat_lt d (length_end s d) && nat_le j (length s) && not (is_byte s i 117 && tail_len s (name_from s i) j == 0)) (name_of s i j, j)
    (λ e.
    let both : nat_lt d (length_end s d) && nat_le j (length s) ≡ true = and_left (nat_lt d (length_end s d) && nat_le j (length s)) (not (is_byte s i 117 && tail_len s (name_from s i) j == 0)) e in
    let some : d < length_end s d = ltb-true d (length_end s d) (and_left (nat_lt d (length_end s d)) (nat_le j (length s)) both) in
    (omega (arith, first, second, some), leb-true j (length s) (and_right (nat_lt d (length_end s d)) (nat_le j (length s)) both)))

-- a primitive that was read
pub placed : {A : Type 0} (low : ℕ) (s : List ℕ) (r : Read A) → Placed low s r → (v : A) (j : ℕ) → r ≡ Some (v, j) → (low ≤ j) × (j ≤ length s)
placed low s r h v j e = subst (Placed low s) e h
