-- The symbol of a text, without the suffix that ThinLTO appends, and the suffixes that a symbol may have.
use Rattle.std.specs.Prelude.{◌≡◌, ℕ, ◌≤◌, Bool, true, ◌&&◌, ◌||◌, ◌==◌, nat_le, nat_eq, List, [], ◌∷◌, ◌++◌, drop, length, codes, if◌then◌else◌}
use Rattle.std.specs.List.{starts_with, list_all}
use Rattle.std.specs.Char.{is_ascii_digit}

-- `A` to `F`, `0` to `9` or `@`
abbrev pub is_thin_lto : ℕ → Bool
is_thin_lto c = (nat_le 65 c && nat_le c 70) || is_ascii_digit c || c == 64

-- the text up to its first `.llvm.` if only such characters follow, and otherwise the complete text
unfoldable pub stripped : List ℕ → List ℕ
stripped [] = []
stripped (c ∷ s) =
    if starts_with nat_eq (c ∷ s) (codes ".llvm.") then (if list_all is_thin_lto (drop 5 s) then [] else c ∷ s)
    else c ∷ stripped s

-- `a` is the text before the first `.llvm.` of `s`, and `b` is the text after it
pub record IsCut (s a b : List ℕ) : Type 0 where
  pub whole : s ≡ a ++ (codes ".llvm." ++ b)
  pub first : (x y : List ℕ) → s ≡ x ++ (codes ".llvm." ++ y) → length a ≤ length x

-- a printable ASCII character other than a space
abbrev pub is_graphic : ℕ → Bool
is_graphic c = nat_le 0x21 c && nat_le c 0x7E

-- empty, or `.` followed only by graphic characters
abbrev pub is_allowed : List ℕ → Bool
is_allowed [] = true
is_allowed (c ∷ s) = c == 46 && list_all is_graphic s
