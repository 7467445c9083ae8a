use Rattle.std.proofs.Common.{◌≡◌, ◌+◌}
use Rattle.demangle_symbol.specs.Idents.{DigitsUpTo}
use Rattle.demangle_symbol.proofs.cursor.Symbol.decimal_from.Given as goal

abbrev pub invariant-loop-at : goal.invariant-loop-at
invariant-loop-at l = record {
  digits : DigitsUpTo l.self l.start l.at l.number;
  looked : l.looks + l.from ≡ l.initial.looks + l.at;
}
