use Rattle.std.proofs.Common.{◌≡◌, ℕ, ◌-◌, ◌<◌, ◌≤◌, false, drop, length}
use Rattle.demangle_value.specs.Filtered.{starts_run}
use Rattle.rustc_demangle.proofs.runs.run_start.Given as goal

abbrev pub invariant-loop-offset : goal.invariant-loop-offset
invariant-loop-offset l = (l.from ≤ length l.text) × ((k : ℕ) → k < l.from → starts_run (drop k l.text) ≡ false)

abbrev pub decreases-loop-offset : goal.decreases-loop-offset
decreases-loop-offset l = length l.text - l.from
