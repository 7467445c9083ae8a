use Rattle.std.proofs.Common.{◌≡◌, ℕ, ◌-◌, ◌<◌, ◌≤◌, true, get_or, length}
use Rattle.demangle_value.specs.Filtered.{is_run_byte}
use Rattle.rustc_demangle.proofs.runs.run_len_by_groups.Given as goal

abbrev pub invariant-loop-group : goal.invariant-loop-group
invariant-loop-group l = (l.at ≤ length l.text) × ((k : ℕ) → k < l.at → is_run_byte (get_or l.text k 0) ≡ true)

abbrev pub decreases-loop-group : goal.decreases-loop-group
decreases-loop-group l = length l.text - l.at
