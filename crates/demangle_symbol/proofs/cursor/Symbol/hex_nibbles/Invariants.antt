use Rattle.std.proofs.Common.{◌≡◌, ◌+◌}
use Rattle.demangle_symbol.specs.Digits.{run_end}
use Rattle.demangle_symbol.specs.Primitives.{is_nibble}
use Rattle.demangle_symbol.proofs.cursor.Symbol.hex_nibbles.Given as goal

abbrev pub invariant-loop-at : goal.invariant-loop-at
invariant-loop-at l = record {
  nibbles : run_end is_nibble l.self l.place ≡ run_end is_nibble l.self l.at;
  looked : l.looks + l.place ≡ l.initial.looks + l.at;
}
