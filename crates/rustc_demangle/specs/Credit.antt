-- Internal: no public contract cites this.
-- What a run that was printed in vain costs.
use Rattle.std.specs.Prelude.{ℕ, ◌+◌, ◌/◌, List, length, if◌then◌else◌}
use Rattle.demangle_value.specs.Tried.{is_v0_run}

-- what the runs in vain cost after this one, of which so many bytes were printed with so much fuel within references,
-- if they cost `owed` before
abbrev pub owed_after : List ℕ → (printed fuel owed : ℕ) → ℕ
owed_after run printed fuel owed = if is_v0_run run then owed + (length run / 8 + printed / 12 + fuel / 32 + 1) else owed

-- the same after a symbol whose print gave up
abbrev pub owed_for_symbol : List ℕ → (owed : ℕ) → ℕ
owed_for_symbol run owed = if is_v0_run run then owed + 16 else owed
