-- A whole v0 symbol, with its prefix.
use Rattle.std.specs.Prelude.{◌≡◌, ◌⊎◌, ℕ, true, ◌&&◌, if◌then◌else◌, nat_lt, List, ◌++◌, drop, Option, Some, None, codes, IsAscii}
use Rattle.std.specs.List.{list_all}
use Rattle.demangle_symbol.specs.Prefix.{after_prefix}
use Rattle.demangle_symbol.specs.Primitives.{then_if_some, some_or}
use Rattle.demangle_v0_grammar.specs.Reading.{starts_second_path, suffix_place}
use Rattle.demangle_v0_grammar.specs.Spelling.{IsPaths}

abbrev pub IsV0Prefix : List ℕ → Type 0
IsV0Prefix p = (p ≡ codes "_R") ⊎ (p ≡ codes "R") ⊎ (p ≡ codes "__R")

-- a v0 symbol: its prefix, then these bytes, which are ASCII, begin with `A` to `Z` and end with this suffix
abbrev pub IsV0 : List ℕ → List ℕ → List ℕ → Type 0
IsV0 symbol inner suffix =
    (prefix : List ℕ) × (symbol ≡ prefix ++ inner) × IsV0Prefix prefix × IsAscii inner × (starts_second_path inner 0 ≡ true)
    × ((k : ℕ) × IsPaths inner k × (suffix ≡ drop k inner))

-- the bytes after a v0 prefix
abbrev pub v0_inner : List ℕ → Option (List ℕ)
v0_inner s = some_or (some_or (after_prefix (codes "__R") s) (after_prefix (codes "R") s) Some) (after_prefix (codes "_R") s) Some

-- these bytes after a prefix, and the suffix
unfoldable pub v0_in : List ℕ → Option (List ℕ × List ℕ)
v0_in inner =
    if list_all (λ b. nat_lt b 128) inner && starts_second_path inner 0 then then_if_some (suffix_place inner) (λ k. Some (inner, drop k inner))
    else None

-- the bytes after the prefix, and the suffix, as they are read
unfoldable pub v0_of : List ℕ → Option (List ℕ × List ℕ)
v0_of symbol = then_if_some (v0_inner symbol) v0_in
