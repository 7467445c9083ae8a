-- Internal: no public contract cites this.
-- The nibbles of a hexadecimal string as a part of the symbol.
use Rattle.std.specs.Prelude.{ℕ, ◌-◌, List, [], slice_range, option_map, map, flat_map, encode_utf8}
use Rattle.demangle_symbol.specs.Primitives.{Read, some_or, nibbles_at, Hex}
use Rattle.demangle_symbol.specs.Literals.{literal_escape, string_of}
use Rattle.demangle_symbol.specs.declared.cursor.Part.{Part}

-- the part is all the nibbles of the hexadecimal string at its start
abbrev pub HexPart : List ℕ → Part → Type 0
HexPart s part = (j : ℕ) × Hex s part.from j part.to

-- the part of the nibbles of the hexadecimal string at i
abbrev pub hex_at : List ℕ → ℕ → Read Part
hex_at s i = option_map (λ r. (record { from = i; to = r.1 - 1 }, r.1)) (nibbles_at s i)

abbrev pub nibbles_in : List ℕ → Part → List ℕ
nibbles_in s part = slice_range s part.from part.to

-- the characters of a string constant, or the empty list if the nibbles do not spell one
abbrev pub characters_of : List ℕ → List ℕ
characters_of nibbles = some_or [] (string_of nibbles) (λ cs. cs)

-- the pieces of the characters of a string literal
abbrev pub character_pieces : List ℕ → List (List ℕ)
character_pieces cs = map encode_utf8 (flat_map (literal_escape 34) cs)
