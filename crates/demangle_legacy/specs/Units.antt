-- Internal: no public contract cites this.
-- The printed form of a unit of a legacy element.
use Rattle.std.specs.Prelude.{ℕ, List, codes, encode_utf8}
use Rattle.demangle_legacy.specs.declared.units.Unit.{Unit}
use Rattle.demangle_legacy.specs.declared.units.Unit.TheVariants.{Separator, Char, Run}

-- the text of the unit that these bytes spell
abbrev pub text_of_unit : List ℕ → Unit → List ℕ
text_of_unit bytes Separator = codes "::"
text_of_unit bytes (Char c) = encode_utf8 c
text_of_unit bytes Run = bytes
