-- Internal: no public contract cites this.
-- Integers in base 62 of which some digits were read, and integers after a tag.
use Rattle.std.specs.Prelude.{◌≡◌, ℕ, ◌+◌, ◌^◌, ◌<◌, ◌≤◌, true, List, Some, slice_get, slice_range, nat_lt}
use Rattle.demangle_symbol.specs.Digits.{run_end, number}
use Rattle.demangle_symbol.specs.Primitives.{Read, only_if, then_if_some, is_digit_62, digit_62, Integer, integer_at}

-- The byte at i is a digit in base 62, and d is its value.
pub record Digit62 (s : List ℕ) (i d : ℕ) : Type 0 where
  pub byte : ℕ
  pub there : slice_get s i ≡ Some byte
  pub passes : is_digit_62 byte ≡ true
  pub value : d ≡ digit_62 byte

-- The bytes from i to before k are digits in base 62, and n is the number that they spell.
pub record Digits62UpTo (s : List ℕ) (i k n : ℕ) : Type 0 where
  pub order : i ≤ k
  pub run : run_end is_digit_62 s i ≡ run_end is_digit_62 s k
  pub value : n ≡ number 62 digit_62 (slice_range s i k)

-- The same digits spell a number below m.
pub record DigitsBelow (s : List ℕ) (i k m : ℕ) : Type 0 where
  pub n : ℕ
  pub digits : Digits62UpTo s i k n
  pub small : n < m

-- the integer at i plus one, as after a tag
abbrev pub one_more_at : List ℕ → ℕ → Read ℕ
one_more_at s i = then_if_some (integer_at s i) (λ r. only_if (nat_lt (r.0 + 1) (2 ^ 64)) (r.0 + 1, r.1))

-- The bytes from i to before j spell the integer v - 1.
abbrev pub OneMore : List ℕ → ℕ → ℕ → ℕ → Type 0
OneMore s i j v = (n : ℕ) × Integer s i j n × (v ≡ n + 1) × (v < 2 ^ 64)
