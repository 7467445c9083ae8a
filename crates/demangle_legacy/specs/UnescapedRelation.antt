-- The printed form of a legacy element as a relation. The text is a sequence of units, then a rest that does not start
-- with a unit.
use Rattle.std.specs.Prelude.{◌≡◌, ℕ, ◌⊎◌, Bool, true, false, List, [], ◌∷◌, ◌++◌, codes, ◌==◌, Some}
use Rattle.demangle_legacy.specs.Unescaped.{is_dollar, is_special, escape_of}

-- '.'
abbrev pub is_dot : ℕ → Bool
is_dot c = c == 46

-- the text starts with a byte that passes the test
abbrev pub HasFirst : (ℕ → Bool) → List ℕ → Type 0
HasFirst is [] = ⊥
HasFirst is (c ∷ s) = is c ≡ true

-- no byte of the text passes the test
abbrev pub HasNo : (ℕ → Bool) → List ℕ → Type 0
HasNo is [] = Unit {0}
HasNo is (c ∷ s) = (is c ≡ false) × HasNo is s

-- `..` prints `::`
abbrev pub IsDots : List ℕ → List ℕ → Type 0
IsDots unit piece = (unit ≡ codes "..") × (piece ≡ codes "::")

-- a `.` that is not followed by another prints itself
abbrev pub IsDot : List ℕ → List ℕ → List ℕ → Type 0
IsDot unit piece following = (unit ≡ codes ".") × (piece ≡ codes ".") × (HasFirst is_dot following → ⊥)

-- a name between two `$` prints the text of its escape
abbrev pub IsEscape : List ℕ → List ℕ → Type 0
IsEscape unit piece = (name : List ℕ) × (unit ≡ codes "$" ++ (name ++ codes "$")) × HasNo is_dollar name × (escape_of name ≡ Some piece)

-- bytes other than `$` and `.`, up to the next `$` or `.`, print themselves
abbrev pub IsPlain : List ℕ → List ℕ → List ℕ → Type 0
IsPlain unit piece following = (unit ≡ piece) × (unit ≡ [] → ⊥) × HasNo is_special unit × HasFirst is_special following

-- these bytes are a unit that prints the piece, if `following` follows them
abbrev pub IsUnit : List ℕ → List ℕ → List ℕ → Type 0
IsUnit unit piece following = IsDots unit piece ⊎ IsDot unit piece following ⊎ IsEscape unit piece ⊎ IsPlain unit piece following

-- the text does not start with a unit
abbrev pub NoUnitFirst : List ℕ → Type 0
NoUnitFirst text = (unit piece following : List ℕ) → text ≡ unit ++ following → IsUnit unit piece following → ⊥

-- the text is a sequence of units, which print all pieces except the last, and a rest, which is the last piece
abbrev pub AreUnits : List (List ℕ) → List ℕ → Type 0
AreUnits [] text = ⊥
AreUnits (piece ∷ pieces) text =
    ((pieces ≡ []) × (text ≡ piece) × NoUnitFirst text)
    ⊎ ((unit : List ℕ) × (following : List ℕ) × (text ≡ unit ++ following) × IsUnit unit piece following × AreUnits pieces following)

-- the element is a `_` followed by this text, and the text starts with a `$`
abbrev pub HasEscapedStart : List ℕ → List ℕ → Type 0
HasEscapedStart element text = (element ≡ codes "_" ++ text) × HasFirst is_dollar text

-- the element prints these pieces; a `_` before a `$` is omitted
abbrev pub IsUnescaped : List ℕ → List (List ℕ) → Type 0
IsUnescaped element pieces =
    ((text : List ℕ) × HasEscapedStart element text × AreUnits pieces text)
    ⊎ (((text : List ℕ) → HasEscapedStart element text → ⊥) × AreUnits pieces element)
