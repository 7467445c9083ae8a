use Rattle.std.proofs.Common.{◌≡◌, ◌+◌, ◌≤◌, length}
use Rattle.demangle_symbol.specs.Integers.{Digits62UpTo}
use Rattle.demangle_symbol.proofs.cursor.Symbol.after_checked_integer.Given as goal

abbrev pub invariant-loop-at : goal.invariant-loop-at
invariant-loop-at l = record {
  digits : Digits62UpTo l.self l.place l.at l.number;
  within : l.at ≤ length l.self;
  looked : l.looks + l.place ≡ l.fn.looks + l.at;
}
