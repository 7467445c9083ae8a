-- The grammar of legacy symbols: `_ZN`, then elements, each after its length in decimal, then `E` and a suffix.
use Rattle.std.specs.Prelude.{◌≡◌, ℕ, zero, suc, ◌==◌, ◌⊎◌, ◌≢◌, true, false, List, [], ◌∷◌, ◌++◌, length, take, drop, codes, nat_le, IsAscii, Option, None, Some, option_map, option_and_then, if◌then◌else◌}
use Rattle.std.specs.List.{list_all, prefix_len}
use Rattle.std.specs.Char.{is_ascii}
use Rattle.std.specs.Option.{option_or}
use Rattle.demangle_symbol.specs.Digits.{number, is_digit_10, digit_10}
use Rattle.demangle_symbol.specs.Prefix.{after_prefix}

-- one or more decimal digits that spell n
abbrev pub IsLength : List ℕ → ℕ → Type 0
IsLength word n = (word ≢ []) × (list_all is_digit_10 word ≡ true) × (number 10 digit_10 word ≡ n)

-- the text does not start with a digit
abbrev pub NoDigitFirst : List ℕ → Type 0
NoDigitFirst [] = Unit {0}
NoDigitFirst (c ∷ s) = is_digit_10 c ≡ false

-- the text is these elements, each after the decimal digits of its length, then `E` and the suffix
abbrev pub IsElements : List (List ℕ) → List ℕ → List ℕ → Type 0
IsElements [] text suffix = text ≡ 69 ∷ suffix
IsElements (element ∷ elements) text suffix =
    (word : List ℕ) × (rest : List ℕ) × (text ≡ word ++ (element ++ rest)) × IsLength word (length element)
    × NoDigitFirst (element ++ rest) × IsElements elements rest suffix

-- the leading underscore may be missing, as on Windows, or doubled, as on macOS
abbrev pub IsLegacyPrefix : List ℕ → Type 0
IsLegacyPrefix p = (p ≡ codes "_ZN") ⊎ (p ≡ codes "ZN") ⊎ (p ≡ codes "__ZN")

-- the symbol is a legacy symbol with these elements and this suffix
abbrev pub IsLegacy : List ℕ → List (List ℕ) → List ℕ → Type 0
IsLegacy symbol elements suffix =
    (prefix : List ℕ) × (inner : List ℕ) × (symbol ≡ prefix ++ inner) × IsLegacyPrefix prefix × IsAscii inner
    × IsElements elements inner suffix

-- the text after the prefix of a legacy symbol
unfoldable pub inner_of : List ℕ → Option (List ℕ)
inner_of s = option_or (after_prefix (codes "_ZN") s) (option_or (after_prefix (codes "ZN") s) (after_prefix (codes "__ZN") s))

-- the first n bytes of the text and the rest, if there are n bytes; `None` if the length before them had no digit
abbrev pub cut_at : ℕ → ℕ → List ℕ → Option (List ℕ × List ℕ)
cut_at zero n s = None
cut_at (suc more) n s = if nat_le n (length s) then Some (take n s, drop n s) else None

-- the first element, whose length is all the digits at the start, and the text after it
unfoldable pub element_of : List ℕ → Option (List ℕ × List ℕ)
element_of s =
    let digits = prefix_len is_digit_10 s in
    cut_at digits (number 10 digit_10 (take digits s)) (drop digits s)

-- the same parts with one more element at the start
abbrev pub before_element : List ℕ → List (List ℕ) × List ℕ → List (List ℕ) × List ℕ
before_element element parts = (element ∷ parts.0, parts.1)

-- the elements at the start, at most as many as the first argument says, and the text after them
unfoldable pub parts_within : ℕ → List ℕ → List (List ℕ) × List ℕ
parts_within zero s = ([], s)
parts_within (suc turns) s = elim (element_of s) [ None ↦ ([], s) | Some e ↦ before_element e.0 (parts_within turns e.1) ]

-- all the elements at the start, and the text after them
unfoldable pub parts_of : List ℕ → List (List ℕ) × List ℕ
parts_of s = parts_within (length s) s

-- the elements of the text after the prefix
abbrev pub elements_of : List ℕ → List (List ℕ)
elements_of inner = (parts_of inner).0

-- the text after an `E`
abbrev pub after_E : List ℕ → Option (List ℕ)
after_E [] = None
after_E (c ∷ s) = if c == 69 then Some s else None

-- the suffix after the elements and the `E`
abbrev pub suffix_of : List ℕ → Option (List ℕ)
suffix_of inner = after_E (parts_of inner).1

-- the elements and the suffix of the text after the prefix, if all of it is ASCII
abbrev pub read_inner : List ℕ → Option (List (List ℕ) × List ℕ)
read_inner inner = if list_all is_ascii inner then option_map (λ suffix. (elements_of inner, suffix)) (suffix_of inner) else None

-- the elements and the suffix of a legacy symbol
unfoldable pub legacy_of : List ℕ → Option (List (List ℕ) × List ℕ)
legacy_of s = option_and_then read_inner (inner_of s)
