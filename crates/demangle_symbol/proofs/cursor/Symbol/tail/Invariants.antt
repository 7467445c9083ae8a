use Rattle.std.proofs.Common.{◌≡◌, ◌+◌, ◌≤◌}
use Rattle.demangle_symbol.specs.Primitives.{tail_len}
use Rattle.demangle_symbol.proofs.cursor.Symbol.tail.Given as goal

abbrev pub invariant-loop-at : goal.invariant-loop-at
invariant-loop-at l = record {
  from : l.from ≤ l.at;
  tail : l.at + tail_len l.self l.from l.to ≡ l.to + tail_len l.self l.from l.at;
  looked : l.looks + l.at ≡ l.initial.looks + l.to;
}
