-- The digits of a symbol.
use Rattle.std.specs.Prelude.{◌≡◌, ◌==◌, ℕ, ◌+◌, ◌-◌, ◌<◌, ◌&&◌, Bool, false, List, map, drop, nat_le, Option, Some, None, slice_get, slice_range}
use Rattle.std.specs.List.{prefix_len}
use Rattle.std.specs.Int.Digits.{number_from_digits}

-- the end of the longest run of bytes from place i that pass the test
abbrev pub run_end : (ℕ → Bool) → List ℕ → ℕ → ℕ
run_end passes s i = i + prefix_len passes (drop i s)

-- the option has a value, and the value is this number
abbrev pub option_is : Option ℕ → ℕ → Bool
option_is None b = false
option_is (Some x) b = x == b

-- the byte at place i is b
unfoldable pub is_byte : List ℕ → ℕ → ℕ → Bool
is_byte s i b = option_is (slice_get s i) b

-- the number that digits spell in a base
unfoldable pub number : ℕ → (ℕ → ℕ) → List ℕ → ℕ
number base digit ds = number_from_digits base (map digit ds)

-- `0` to `9`
abbrev pub is_digit_10 : ℕ → Bool
is_digit_10 b = nat_le 48 b && nat_le b 57

abbrev pub digit_10 : ℕ → ℕ
digit_10 b = b - 48

-- The bytes from i to before j are all consecutive decimal digits from i, at least one. They spell the number v.
pub record Decimal (s : List ℕ) (i j v : ℕ) : Type 0 where
  pub some : i < run_end is_digit_10 s i
  pub next : j ≡ run_end is_digit_10 s i
  pub value : v ≡ number 10 digit_10 (slice_range s i (run_end is_digit_10 s i))
