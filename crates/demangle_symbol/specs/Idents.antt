-- Internal: no public contract cites this.
-- Decimal digits read so far, identifiers as the bounds of their parts, and back references with their errors.
use Rattle.std.specs.Prelude.{◌≡◌, ℕ, ◌+◌, ◌-◌, ◌<◌, ◌≤◌, true, List, [], ◌∷◌, codes, length, slice_range, option_map, nat_lt, None, Some, Result, Ok, Err, if◌then◌else◌}
use Rattle.demangle_symbol.specs.Digits.{is_byte, run_end, number, is_digit_10, digit_10}
use Rattle.demangle_symbol.specs.Primitives.{Read, Name, identifier_at, max_depth, length_end, tail_len, digits_from, name_from, name_len, punycode_len, ascii_to}
use Rattle.demangle_symbol.specs.Names.{is_empty}
use Rattle.demangle_symbol.specs.declared.cursor.ParseError.{ParseError}
use Rattle.demangle_symbol.specs.declared.cursor.ParseError.TheVariants.{Invalid, RecursedTooDeep}
use Rattle.demangle_symbol.specs.declared.cursor.ident.Ident.{Ident}

-- The bytes from i to before k are digits, and n is the number that they spell.
pub record DigitsUpTo (s : List ℕ) (i k n : ℕ) : Type 0 where
  pub order : i ≤ k
  pub run : run_end is_digit_10 s i ≡ run_end is_digit_10 s k
  pub value : n ≡ number 10 digit_10 (slice_range s i k)

-- the bytes of both parts
abbrev pub name_in : List ℕ → Ident → Name
name_in s ident = record { ascii = slice_range s ident.ascii.from ident.ascii.to; punycode = slice_range s ident.punycode.from ident.punycode.to }

-- the number of bytes of both parts
abbrev pub name_size : Ident → ℕ
name_size ident = (ident.ascii.to - ident.ascii.from) + (ident.punycode.to - ident.punycode.from)

-- the pieces between `punycode{` and the Punycode part of a name that can't be decoded
abbrev pub ascii_prefix : Name → List (List ℕ)
ascii_prefix a = if is_empty a.ascii then [] else a.ascii ∷ codes "-" ∷ []

-- both parts are within these bytes
pub record IsIdentWithin (s : List ℕ) (ident : Ident) : Type 0 where
  pub ascii_order : ident.ascii.from ≤ ident.ascii.to
  pub ascii_inside : ident.ascii.to ≤ length s
  pub punycode_order : ident.punycode.from ≤ ident.punycode.to
  pub punycode_inside : ident.punycode.to ≤ length s

-- The bytes from i to before j spell an identifier, and its parts have these bounds.
pub record IsIdent (s : List ℕ) (i j : ℕ) (ident : Ident) : Type 0 where
  pub some : digits_from s i < length_end s (digits_from s i)
  pub next : j ≡ name_from s i + name_len s i
  pub inside : j ≤ length s
  pub ascii_from : ident.ascii.from ≡ name_from s i
  pub ascii_to : ident.ascii.to ≡ ascii_to s i j
  pub punycode_from : ident.punycode.from + punycode_len s i j ≡ j
  pub punycode_to : ident.punycode.to ≡ j
  pub not_empty : is_byte s i 117 ≡ true → 0 < tail_len s (name_from s i) j

-- the bounds of the parts of the identifier from i to before j
abbrev pub ident_parts : List ℕ → ℕ → ℕ → Ident
ident_parts s i j = record { ascii = record { from = name_from s i; to = ascii_to s i j }; punycode = record { from = j - punycode_len s i j; to = j } }

abbrev pub ident_at : List ℕ → ℕ → Read Ident
ident_at s i = option_map (λ r. (ident_parts s i r.1, r.1)) (identifier_at s i)

-- The result of reading a back reference at a depth. A primitive that is not a back reference is `Invalid`. At the
-- greatest depth, a valid one is `RecursedTooDeep`.
abbrev pub backref_result : ℕ → Read ℕ → Result (ℕ × ℕ) ParseError
backref_result depth None = Err Invalid
backref_result depth (Some r) = if nat_lt depth max_depth then Ok r else Err RecursedTooDeep
