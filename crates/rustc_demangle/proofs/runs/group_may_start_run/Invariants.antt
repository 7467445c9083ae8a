use Rattle.std.proofs.Common.{◌≡◌, ℕ, ◌+◌, ◌<◌, ◌≤◌, false, drop}
use Rattle.demangle_value.specs.Filtered.{starts_run}
use Rattle.rustc_demangle.proofs.runs.group_may_start_run.Given as goal

abbrev pub invariant-loop-k : goal.invariant-loop-k
invariant-loop-k g l = l.any ≡ false → (j : ℕ) → l.from ≤ j → j < l.from + l.k → starts_run (drop j l.text) ≡ false
