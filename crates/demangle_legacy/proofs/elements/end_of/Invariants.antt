use Rattle.std.proofs.Common.{◌≡◌, ◌+◌, ◌-◌, ◌*◌, ◌≤◌, length, drop}
use Rattle.demangle_legacy.specs.Legacy.{parts_of}
use Rattle.demangle_legacy.proofs.elements.end_of.Given as goal

abbrev pub invariant-loop-element : goal.invariant-loop-element
invariant-loop-element l = record {
  inside : l.at ≤ length l.symbol;
  same : (parts_of l.symbol).1 ≡ (parts_of (drop l.at l.symbol)).1;
  grows : l.initial.looks ≤ l.looks;
  looked : l.looks ≤ l.initial.looks + 6 * l.at;
}

abbrev pub decreases-loop-element : goal.decreases-loop-element
decreases-loop-element l = length l.symbol - l.at
