use Rattle.std.proofs.Common.{◌≡◌, ℕ, ◌<◌, ◌≤◌, true, length, slice_index}
use Rattle.demangle_value.specs.Stripped.{is_thin_lto}
use Rattle.demangle_value.proofs.strip.thin_lto_from.Given as goal

abbrev pub invariant-loop-from : goal.invariant-loop-from
invariant-loop-from l = record {
  within : l.from ≤ length l.bytes;
  after : (k : ℕ) → l.from ≤ k → k < length l.bytes → is_thin_lto (slice_index l.bytes k) ≡ true;
}

abbrev pub decreases-loop-from : goal.decreases-loop-from
decreases-loop-from l = l.from
