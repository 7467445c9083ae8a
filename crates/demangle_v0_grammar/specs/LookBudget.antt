-- The cost of tokens in looks, and the look budget that pays for it.
use Rattle.std.specs.Prelude.{ℕ, ◌+◌, ◌-◌, ◌*◌, ◌≤◌, List, [], ◌∷◌}

-- the cost of a token: the bytes that it prints, and the looks that it makes
pub record LookCost : Type 0 where
  pub bytes : ℕ
  pub looks : ℕ

abbrev pub bytes_of : List LookCost → ℕ
bytes_of [] = 0
bytes_of (s ∷ xs) = s.bytes + bytes_of xs

abbrev pub looks_of : List LookCost → ℕ
looks_of [] = 0
looks_of (s ∷ xs) = s.looks + looks_of xs

-- A budget of `from` looks pays for the tokens in order, and at least `to` is left at the end. A token is paid before
-- its bytes count. Then each of its bytes adds `rate`.
abbrev pub IsWithinBudget : (rate from : ℕ) → List LookCost → (to : ℕ) → Type 0
IsWithinBudget rate from [] to = to ≤ from
IsWithinBudget rate from (s ∷ xs) to = (s.looks ≤ from) × IsWithinBudget rate (from - s.looks + rate * s.bytes) xs to
