-- Internal: no public contract cites this.
-- The escaped form of a character in a literal, and the constants that a number represents.
use Rattle.std.specs.Prelude.{ℕ, Bool, true, false, ◌==◌, if◌then◌else◌, List, [], ◌∷◌, ◌++◌, codes, Option, Some, None}
use lib.Utf8.{scalar}
use Rattle.std.specs.Fmt.{digits}
use Prim.Native.Char.{code}
use Rattle.demangle_symbol.specs.Primitives.{only_if}
use Rattle.demangle_symbol.specs.declared.literal.Escape.{Escape}
use Rattle.demangle_symbol.specs.declared.literal.Escape.TheVariants.{Itself, Backslash, Code}

-- the characters of the escaped form
abbrev pub escape_text : Escape → ℕ → List ℕ
escape_text Itself c = c ∷ []
escape_text (Backslash letter) c = code "\\" ∷ letter ∷ []
escape_text Code c = codes "\\u{" ++ digits 16 false c ++ codes "}"

-- the character with this number, if the number is a Unicode scalar value
abbrev pub character_of : Option ℕ → Option ℕ
character_of None = None
character_of (Some n) = only_if (scalar n) n

-- 0 is false and 1 is true; no other number is a bool
abbrev pub bool_of : Option ℕ → Option Bool
bool_of None = None
bool_of (Some n) = if n == 0 then Some false else if n == 1 then Some true else None
