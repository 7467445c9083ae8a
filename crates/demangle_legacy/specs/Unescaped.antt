-- The printed form of a legacy element.
use Rattle.std.specs.Prelude.{ℕ, zero, suc, ◌+◌, ◌-◌, Bool, not, ◌&&◌, ◌||◌, ◌==◌, nat_le, nat_eq, List, [], ◌∷◌, ◌++◌, drop, codes, take, position, option_and_then, Option, Some, None, option_map, if◌then◌else◌, encode_utf8, bytes_eq, flat_map, slice_index}
use Rattle.std.specs.List.{list_all, starts_with}
use Rattle.std.specs.Char.{is_ascii_hexdigit, is_control}
use Rattle.std.specs.Int.{is_in_range}
use Rattle.demangle_symbol.specs.Digits.{number}
use lib.Utf8.{scalar as is_scalar}
use Rattle.demangle_symbol.specs.declared.form.Form.{Form}

-- '$'
abbrev pub is_dollar : ℕ → Bool
is_dollar c = c == 36

-- '$' or '.'
abbrev pub is_special : ℕ → Bool
is_special c = c == 36 || c == 46

-- '0' to '9' and 'a' to 'f'
abbrev pub is_lower_hex : ℕ → Bool
is_lower_hex c = is_in_range 48 57 c || is_in_range 97 102 c

-- the value of such a digit
abbrev pub lower_hex : ℕ → ℕ
lower_hex c = if nat_le c 57 then c - 48 else c - 87

-- the character of this code, if it may be escaped: a scalar value that is not a control character
abbrev pub escape_of_code : ℕ → Option (List ℕ)
escape_of_code c = if is_scalar c && not (is_control c) then Some (encode_utf8 c) else None

-- the character that `u` and these digits escape, if they are a valid escape
unfoldable pub escape_of_digits : List ℕ → Option (List ℕ)
escape_of_digits [] = None
escape_of_digits (d ∷ ds) = if list_all is_lower_hex (d ∷ ds) then escape_of_code (number 16 lower_hex (d ∷ ds)) else None

-- the text that `$name$` prints, if the name is an escape
unfoldable pub escape_of : List ℕ → Option (List ℕ)
escape_of name =
    if bytes_eq name (codes "SP") then Some (codes "@") else
    (if bytes_eq name (codes "BP") then Some (codes "*") else
    (if bytes_eq name (codes "RF") then Some (codes "&") else
    (if bytes_eq name (codes "LT") then Some (codes "<") else
    (if bytes_eq name (codes "GT") then Some (codes ">") else
    (if bytes_eq name (codes "LP") then Some (codes "(") else
    (if bytes_eq name (codes "RP") then Some (codes ")") else
    (if bytes_eq name (codes "C") then Some (codes ",") else
    (if starts_with nat_eq name (codes "u") then escape_of_digits (drop 1 name) else None))))))))

-- The first unit of the byte c followed by s: its text, and the number of bytes of s that belong to it.
unfoldable pub leading_unit : ℕ → List ℕ → Option (List ℕ × ℕ)
leading_unit c s =
    if c == 46 then (if starts_with nat_eq s (codes ".") then Some (codes "::", 1) else Some (codes ".", 0)) else
    (if c == 36
    then option_and_then (λ n. option_map (λ text. (text, n + 1)) (escape_of (take n s))) (position is_dollar s)
    else option_map (λ n. (c ∷ take n s, n)) (position is_special s))

-- The pieces of the text after its first `skip` bytes: one for each unit, and then the rest unchanged.
unfoldable pub pieces_from : ℕ → List ℕ → List (List ℕ)
pieces_from skip [] = [] ∷ []
pieces_from (suc skip) (c ∷ s) = pieces_from skip s
pieces_from zero (c ∷ s) = elim (leading_unit c s) [ None ↦ (c ∷ s) ∷ [] | Some u ↦ u.0 ∷ pieces_from (u.1) s ]

-- The pieces of an element. A `_` before a `$` is omitted.
unfoldable pub unescaped : List ℕ → List (List ℕ)
unescaped element = if starts_with nat_eq element (codes "_$") then pieces_from 1 element else pieces_from 0 element

-- `h` followed only by hexadecimal digits, of either case
abbrev pub is_hash : List ℕ → Bool
is_hash s = slice_index s 0 == 104 && list_all is_ascii_hexdigit (drop 1 s)

-- the elements that are printed: all of them with the hash, and without it all except a last one that is a hash
unfoldable pub printed_elements : Bool → List (List ℕ) → List (List ℕ)
printed_elements hash [] = []
printed_elements hash (e ∷ []) = if not hash && is_hash e then [] else e ∷ []
printed_elements hash (e ∷ f ∷ es) = e ∷ printed_elements hash (f ∷ es)

-- the pieces of elements that follow others
abbrev pub following_pieces : List (List ℕ) → List (List ℕ)
following_pieces elements = flat_map (λ e. codes "::" ∷ unescaped e) elements

-- the pieces of each element, with `::` between
abbrev pub joined_pieces : List (List ℕ) → List (List ℕ)
joined_pieces [] = []
joined_pieces (e ∷ es) = unescaped e ++ following_pieces es

-- the pieces of a legacy symbol, with the hash or without it
abbrev pub legacy_pieces : Form → List (List ℕ) → List (List ℕ)
legacy_pieces form elements = joined_pieces (printed_elements form.include_hash elements)
