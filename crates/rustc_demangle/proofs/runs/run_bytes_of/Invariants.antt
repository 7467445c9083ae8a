use Rattle.std.proofs.Common.{◌≡◌, ℕ, ◌<◌, ◌≤◌, eqb, get_or, length}
use Rattle.demangle_value.specs.Filtered.{is_run_byte}
use Rattle.rustc_demangle.proofs.runs.run_bytes_of.Given as goal

abbrev pub invariant-loop-k : goal.invariant-loop-k
invariant-loop-k l = (length l.distances ≡ 16) × ((j : ℕ) → get_or l.distances j 0 < 256)
    × ((j : ℕ) → j < l.k → eqb (get_or l.distances j 0) 0 ≡ is_run_byte (get_or l.group j 0))
    × ((j : ℕ) → l.k ≤ j → get_or l.distances j 0 ≡ 0)
