use Rattle.std.specs.Prelude.{ℕ, List, if◌then◌else◌, nat_eq}
use Rattle.std.specs.Cmp.Lexicographic.{pointwise}

-- 0 if two columns have the same bytes, otherwise 1
abbrev pub difference : List ℕ → List ℕ → ℕ
difference expected actual = if pointwise nat_eq expected actual then 0 else 1
