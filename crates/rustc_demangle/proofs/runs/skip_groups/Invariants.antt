use Rattle.std.proofs.Common.{◌≡◌, ℕ, ◌-◌, ◌<◌, ◌≤◌, false, drop, length}
use Rattle.demangle_value.specs.Filtered.{starts_run}
use Rattle.rustc_demangle.proofs.runs.skip_groups.Given as goal

abbrev pub invariant-loop-at : goal.invariant-loop-at
invariant-loop-at g l = (l.from ≤ l.at) × (l.at ≤ length l.text)
    × ((k : ℕ) → l.from ≤ k → k < l.at → starts_run (drop k l.text) ≡ false)

abbrev pub decreases-loop-at : goal.decreases-loop-at
decreases-loop-at g l = length l.text - l.at
