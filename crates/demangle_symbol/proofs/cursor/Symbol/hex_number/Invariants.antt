use Rattle.std.proofs.Common.{◌≡◌, ◌+◌, ◌-◌, ◌^◌, ◌<◌}
use Rattle.std.specs.List.{slice_range}
use Rattle.demangle_symbol.specs.Digits.{number}
use Rattle.demangle_symbol.specs.Primitives.{nibble}
use Rattle.demangle_symbol.proofs.cursor.Symbol.hex_number.Given as goal

abbrev pub invariant-loop-at : goal.invariant-loop-at
invariant-loop-at l = record {
  number : l.number ≡ number 16 nibble (slice_range l.self l.fn.nibbles.from l.at);
  small : l.number < 16 ^ (l.at - l.start);
  looked : l.looks + l.start ≡ l.initial.looks + l.at;
}
