-- The text after the prefix of a symbol.
use Rattle.std.specs.Prelude.{ℕ, ◌==◌, List, [], ◌∷◌, Option, None, Some, if◌then◌else◌}

-- the text after this prefix, if the text starts with the prefix
abbrev pub after_prefix : List ℕ → List ℕ → Option (List ℕ)
after_prefix [] s = Some s
after_prefix (p ∷ ps) [] = None
after_prefix (p ∷ ps) (c ∷ s) = if c == p then after_prefix ps s else None
