-- The lines of a text.
use Rattle.std.specs.Prelude.{◌≡◌, ◌≢◌, ◌+◌, ◌<◌, ◌⊎◌, ◌++◌, ℕ, List, [], ◌∷◌, ◌==◌, if◌then◌else◌, length, All}
use Rattle.std.specs.List.{concat}

-- the lines with a byte added at the start of the first one
abbrev pub onto_first : ℕ → List (List ℕ) → List (List ℕ)
onto_first b [] = (b ∷ []) ∷ []
onto_first b (line ∷ rest) = (b ∷ line) ∷ rest

-- the lines of the byte `b` and a text after it that has the lines `rest`; a line feed is a line by itself
abbrev pub lines_from : ℕ → List (List ℕ) → List (List ℕ)
lines_from b rest = if b == 10 then (b ∷ []) ∷ rest else onto_first b rest

-- the parts of a text up to and including each line feed, and the text after the last one
unfoldable pub lines : List ℕ → List (List ℕ)
lines [] = []
lines (b ∷ bs) = lines_from b (lines bs)

-- the line has one line feed, at its end
abbrev pub IsEnded : List ℕ → Type 0
IsEnded line = (prefix : List ℕ) × (line ≡ prefix ++ 10 ∷ []) × All (λ b. b ≢ 10) prefix

-- nonempty parts with one line feed each, at the end; the last part may have none
abbrev pub AreLines : List (List ℕ) → Type 0
AreLines [] = Unit {0}
AreLines (line ∷ []) = IsEnded line ⊎ ((0 < length line) × All (λ b. b ≢ 10) line)
AreLines (line ∷ next ∷ rest) = IsEnded line × AreLines (next ∷ rest)

-- `lines text` are such parts, and they are the only ones that join to the text
pub record OnlyLines (text : List ℕ) : Type 0 where
  pub are : AreLines (lines text)
  pub whole : concat (lines text) ≡ text
  pub only : (parts : List (List ℕ)) → AreLines parts → concat parts ≡ text → parts ≡ lines text

-- the number of line feeds in a text
abbrev pub line_feeds : List ℕ → ℕ
line_feeds [] = 0
line_feeds (b ∷ bs) = (if b == 10 then 1 else 0) + line_feeds bs
