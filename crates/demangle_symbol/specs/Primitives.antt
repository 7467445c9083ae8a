-- The primitives of a v0 symbol (RFC 2603). Each is defined twice. A function of the bytes and a place returns the
-- value and the place after the primitive, or `None`. A relation says that the bytes from one place to before another
-- spell a value.
use Rattle.std.specs.Prelude.{◌≡◌, ◌⊎◌, IsTrue, ◌==◌, ℕ, ◌+◌, ◌-◌, ◌^◌, ◌<◌, ◌≤◌, ◌&&◌, ◌||◌, Bool, true, false, not, List, length, Option, Some, None, slice_get, slice_range, nat_le, nat_lt, if◌then◌else◌}
use Rattle.std.specs.List.{prefix_len, suffix_len}
use Rattle.demangle_symbol.specs.Digits.{run_end, is_byte, number, is_digit_10, digit_10}

-- the value of a primitive, and the place after it
abbrev pub Read : Type 0 → Type 0
Read A = Option (A × ℕ)

-- the value, if the test holds
abbrev pub only_if : {A : Type 0} → Bool → A → Option A
only_if true a = Some a
only_if false a = None

abbrev pub then_if_some : {A B : Type 0} → Option A → (A → Option B) → Option B
then_if_some None f = None
then_if_some (Some a) f = f a

abbrev pub some_or : {A B : Type 0} → B → Option A → (A → B) → B
some_or other None f = other
some_or other (Some a) f = f a

-- `A` to `Z`
abbrev pub is_upper : ℕ → Bool
is_upper b = nat_le 65 b && nat_le b 90

-- `a` to `z`
abbrev pub is_lower : ℕ → Bool
is_lower b = nat_le 97 b && nat_le b 122

-- one byte
unfoldable pub byte_at : List ℕ → ℕ → Read ℕ
byte_at s i = then_if_some (slice_get s i) (λ b. Some (b, i + 1))

-- The letter of a namespace.
unfoldable pub namespace_at : List ℕ → ℕ → Read ℕ
namespace_at s i = then_if_some (slice_get s i) (λ b. only_if (is_upper b || is_lower b) (b, i + 1))

-- the byte at i is the letter of a namespace
abbrev pub Namespace : List ℕ → ℕ → ℕ → Type 0
Namespace s i b = (slice_get s i ≡ Some b) × IsTrue (is_upper b || is_lower b)

-- Integers in base 62: `_` is 0, and digits before `_` spell the integer minus one.

-- `0` to `9`, `a` to `z` and `A` to `Z`
abbrev pub is_digit_62 : ℕ → Bool
is_digit_62 b = is_digit_10 b || is_lower b || is_upper b

-- the value of such a digit: 0 to 9, 10 to 35 and 36 to 61
abbrev pub digit_62 : ℕ → ℕ
digit_62 b = if nat_le 97 b then b - 87 else (if nat_le 65 b then b - 29 else b - 48)

-- the value of the digits from i to before `end`, with the `_` at `end`
abbrev pub integer_value : List ℕ → ℕ → ℕ → ℕ
integer_value s i end = if i == end then 0 else number 62 digit_62 (slice_range s i end) + 1

-- the integer at i; it has all the consecutive digits from i
unfoldable pub integer_at : List ℕ → ℕ → Read ℕ
integer_at s i =
    let end = run_end is_digit_62 s i in
    let v = integer_value s i end in
    only_if (is_byte s end 95 && nat_lt v (2 ^ 64)) (v, end + 1)

-- The bytes from i to before j spell the integer v.
pub record Integer (s : List ℕ) (i j v : ℕ) : Type 0 where
  pub ends : slice_get s (run_end is_digit_62 s i) ≡ Some 95
  pub next : j ≡ run_end is_digit_62 s i + 1
  pub value : v ≡ integer_value s i (run_end is_digit_62 s i)
  pub fits : v < 2 ^ 64

-- an optional integer: 0 without the tag, which then reads nothing, and the integer after the tag plus one with it
unfoldable pub optional_at : ℕ → List ℕ → ℕ → Read ℕ
optional_at tag s i =
    if is_byte s i tag then then_if_some (integer_at s (i + 1)) (λ r. only_if (nat_lt (r.0 + 1) (2 ^ 64)) (r.0 + 1, r.1))
    else Some (0, i)

-- The bytes from i to before j spell the optional integer v with this tag.
abbrev pub OptInteger : ℕ → List ℕ → ℕ → ℕ → ℕ → Type 0
OptInteger tag s i j v =
    ((is_byte s i tag ≡ true) × ((n : ℕ) × Integer s (i + 1) j n × (v ≡ n + 1) × (v < 2 ^ 64)))
    ⊎ ((is_byte s i tag ≡ false) × (j ≡ i) × (v ≡ 0))

-- a back reference after its `B`: an integer that names a place before the `B`
unfoldable pub backref_at : List ℕ → ℕ → Read ℕ
backref_at s i = then_if_some (integer_at s i) (λ r. only_if (nat_lt (r.0 + 1) i) r)

-- The bytes from i, after a `B`, to before j spell a back reference to `target`.
abbrev pub Backref : List ℕ → ℕ → ℕ → ℕ → Type 0
Backref s i j target = Integer s i j target × (target + 1 < i)

-- Identifiers: optionally `u`, a length in decimal digits, optionally `_`, and as many bytes as the length says.

-- a name: its ASCII part, and its Punycode part, which is empty if the name has none
pub record Name : Type 0 where
  pub ascii : List ℕ
  pub punycode : List ℕ

-- the place after the digits of a length; a first `0` is the whole length
unfoldable pub length_end : List ℕ → ℕ → ℕ
length_end s i = if is_byte s i 48 then i + 1 else run_end is_digit_10 s i

-- the number that these digits spell
unfoldable pub length_value : List ℕ → ℕ → ℕ
length_value s i = number 10 digit_10 (slice_range s i (length_end s i))

-- The bytes from i to before j spell the length v in decimal digits. There is at least one digit.
pub record Length (s : List ℕ) (i j v : ℕ) : Type 0 where
  pub some : i < length_end s i
  pub next : j ≡ length_end s i
  pub value : v ≡ length_value s i

-- the place after an optional byte
abbrev pub after_byte : ℕ → List ℕ → ℕ → ℕ
after_byte b s i = if is_byte s i b then i + 1 else i

-- the number of bytes after the last `_` of a part, or of all its bytes if it has no `_`
unfoldable pub tail_len : List ℕ → ℕ → ℕ → ℕ
tail_len s from to = suffix_len (λ b. not (b == 95)) (slice_range s from to)

-- The start of the length of an identifier, after an optional `u`. Then the start of its bytes, after an optional `_`,
-- and the number of its bytes.
abbrev pub digits_from : List ℕ → ℕ → ℕ
digits_from s i = after_byte 117 s i

abbrev pub name_from : List ℕ → ℕ → ℕ
name_from s i = after_byte 95 s (length_end s (digits_from s i))

abbrev pub name_len : List ℕ → ℕ → ℕ
name_len s i = length_value s (digits_from s i)

-- the number of bytes of the Punycode part: those after the last `_` with a `u`, and 0 without it
abbrev pub punycode_len : List ℕ → ℕ → ℕ → ℕ
punycode_len s i j = if is_byte s i 117 then tail_len s (name_from s i) j else 0

-- the end of the ASCII part: without a `u`, the end of the name; otherwise the last `_`, or the start if it has none
abbrev pub ascii_to : List ℕ → ℕ → ℕ → ℕ
ascii_to s i j = if is_byte s i 117 then name_from s i + (j - name_from s i - tail_len s (name_from s i) j - 1) else j

-- the two parts of the identifier from i to before j
abbrev pub name_of : List ℕ → ℕ → ℕ → Name
name_of s i j = record { ascii = slice_range s (name_from s i) (ascii_to s i j); punycode = slice_range s (j - punycode_len s i j) j }

-- the identifier at i: it has a length and all its bytes, and after a `u` its Punycode part is not empty
unfoldable pub identifier_at : List ℕ → ℕ → Read Name
identifier_at s i =
    let j = name_from s i + name_len s i in
    only_if (nat_lt (digits_from s i) (length_end s (digits_from s i)) && nat_le j (length s) && not (is_byte s i 117 && tail_len s (name_from s i) j == 0))
    (name_of s i j, j)

-- The bytes from i to before j spell the identifier of this name.
pub record Identifier (s : List ℕ) (i j : ℕ) (name : Name) : Type 0 where
  pub some : digits_from s i < length_end s (digits_from s i)
  pub next : j ≡ name_from s i + name_len s i
  pub inside : j ≤ length s
  pub not_empty : is_byte s i 117 ≡ true → 0 < tail_len s (name_from s i) j
  pub value : name ≡ name_of s i j

-- Hexadecimal strings: any number of nibbles, then `_`.

-- `0` to `9` and `a` to `f`
abbrev pub is_nibble : ℕ → Bool
is_nibble b = is_digit_10 b || (nat_le 97 b && nat_le b 102)

abbrev pub nibble : ℕ → ℕ
nibble b = if nat_le 97 b then b - 87 else b - 48

-- the nibbles of the hexadecimal string at i
unfoldable pub nibbles_at : List ℕ → ℕ → Read (List ℕ)
nibbles_at s i = let end = run_end is_nibble s i in only_if (is_byte s end 95) (slice_range s i end, end + 1)

-- The bytes from i to before j spell a hexadecimal string, whose nibbles end before `end`.
pub record Hex (s : List ℕ) (i j end : ℕ) : Type 0 where
  pub nibbles : end ≡ run_end is_nibble s i
  pub ends : slice_get s end ≡ Some 95
  pub next : j ≡ end + 1

-- the number of leading zeros
abbrev pub zeros : List ℕ → ℕ
zeros ns = prefix_len (λ b. b == 48) ns

-- the number that nibbles spell, if at most `most` nibbles follow the leading zeros
unfoldable pub hex_number : ℕ → List ℕ → Option ℕ
hex_number most ns = only_if (nat_le (length ns - zeros ns) most) (number 16 nibble ns)

-- the most nibbles that a number has after its leading zeros
abbrev pub most_nibbles : ℕ
most_nibbles = 32

-- the number of a hexadecimal string
unfoldable pub number_of : List ℕ → Option ℕ
number_of ns = hex_number most_nibbles ns

-- Depth.

-- the number of times that the depth can be raised
abbrev pub max_depth : ℕ
max_depth = 500
