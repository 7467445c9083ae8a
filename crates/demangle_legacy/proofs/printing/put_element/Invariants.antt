use Rattle.std.proofs.Common.{◌+◌, ◌-◌, ◌*◌, ◌≤◌, slice_range}
use Rattle.demangle_legacy.specs.Unescaped.{unescaped, pieces_from}
use Rattle.demangle_sink.specs.Limit.{PrintedPrefix}
use Rattle.demangle_legacy.proofs.printing.put_element.Given as goal

abbrev pub invariant-loop-at : goal.invariant-loop-at
invariant-loop-at g l = record {
  inside : l.at ≤ l.element.to;
  following : l.element.from ≤ l.at;
  printed : PrintedPrefix g.S.TextSink l.fn.out (unescaped (slice_range l.symbol l.element.from l.element.to)) (pieces_from 0 (slice_range l.symbol l.at l.element.to)) l.out;
  grows : l.initial.looks ≤ l.looks;
  looked : l.looks + 3 * l.element.from ≤ l.initial.looks + 3 * l.at;
}

abbrev pub decreases-loop-at : goal.decreases-loop-at
decreases-loop-at g l = l.element.to - l.at
