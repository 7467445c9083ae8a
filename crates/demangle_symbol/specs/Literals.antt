-- The literals of constants.
use Rattle.std.specs.Prelude.{ℕ, ◌+◌, ◌*◌, Bool, true, false, not, ◌&&◌, ◌||◌, if◌then◌else◌, nat_lt, nat_le, ◌==◌, List, [], ◌∷◌, ◌++◌, map, flat_map, Option, Some, None, codes, encode_utf8, chars}
use Rattle.std.specs.Str.{is_utf8}
use Rattle.std.specs.Fmt.{digits}
use Rattle.unicode.specs.Binary.{is_grapheme_extend}
use Rattle.ucd_category.specs.GeneralCategory.{general_category}
use Rattle.ucd_category.specs.declared.GeneralCategory.{GeneralCategory}
use Rattle.ucd_category.specs.declared.GeneralCategory.TheVariants.{SpaceSeparator, LineSeparator, ParagraphSeparator, Control, Format, Surrogate, PrivateUse, Unassigned}
use Prim.Native.Char.{code}
use Rattle.demangle_symbol.specs.Primitives.{only_if, then_if_some, nibble}

-- General_Category Cc, Cf, Cs, Co, Cn, Zl, Zp or Zs
abbrev pub is_hidden_category : GeneralCategory → Bool
is_hidden_category Control = true
is_hidden_category Format = true
is_hidden_category Surrogate = true
is_hidden_category PrivateUse = true
is_hidden_category Unassigned = true
is_hidden_category LineSeparator = true
is_hidden_category ParagraphSeparator = true
is_hidden_category SpaceSeparator = true
is_hidden_category _ = false

-- a character past ASCII that a literal contains unescaped: it has none of these categories and not Grapheme_Extend
abbrev pub is_shown : ℕ → Bool
is_shown c = nat_le 128 c && not (is_hidden_category (general_category c)) && not (is_grapheme_extend c)

-- the escaped form of one character, in a literal with this quote
abbrev pub literal_escape : ℕ → ℕ → List ℕ
literal_escape quote c =
    if c == quote || c == code "\\" then code "\\" ∷ c ∷ []
    else if c == 0 then codes "\\0"
    else if c == 9 then codes "\\t"
    else if c == 10 then codes "\\n"
    else if c == 13 then codes "\\r"
    else if (nat_le 32 c && nat_lt c 127) || is_shown c then c ∷ []
    else codes "\\u{" ++ digits 16 false c ++ codes "}"

-- the pieces of a literal of these characters: one for each character of the escaped forms and for each quote
unfoldable pub literal : ℕ → List ℕ → List (List ℕ)
literal quote cs = map encode_utf8 (quote ∷ flat_map (literal_escape quote) cs ++ quote ∷ [])

-- the bytes that pairs of nibbles spell
abbrev pub nibble_bytes : List ℕ → Option (List ℕ)
nibble_bytes [] = Some []
nibble_bytes (a ∷ []) = None
nibble_bytes (a ∷ b ∷ r) = then_if_some (nibble_bytes r) (λ bs. Some ((nibble a * 16 + nibble b) ∷ bs))

-- the characters of a string constant, which has an even number of nibbles and UTF-8 bytes
unfoldable pub string_of : List ℕ → Option (List ℕ)
string_of nibbles = then_if_some (nibble_bytes nibbles) (λ bs. only_if (is_utf8 bs) (chars bs))
