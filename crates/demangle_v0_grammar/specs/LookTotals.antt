-- Internal: no public contract cites this.
-- The sums of looks that are allowed.
use Rattle.std.specs.Prelude.{List, [], ℕ, ◌+◌, ◌∷◌}
use Rattle.demangle_v0_grammar.specs.Traces.{Event, allows, prints_text, refers, returns}

-- The sum of several allowances of looks.

abbrev pub total : List ℕ → ℕ
total [] = 0
total (k ∷ ks) = k + total ks

-- The looks that a trace allows.

-- how many looks are allowed in all
abbrev pub allowed_in : List Event → ℕ
allowed_in [] = 0
allowed_in (prints_text t ∷ xs) = allowed_in xs
allowed_in (allows k ∷ xs) = k + allowed_in xs
allowed_in (refers t ∷ xs) = allowed_in xs
allowed_in (returns e ∷ xs) = allowed_in xs
