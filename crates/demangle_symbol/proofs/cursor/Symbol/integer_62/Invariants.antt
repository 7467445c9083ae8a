use Rattle.std.proofs.Common.{◌≡◌, ◌+◌, ◌^◌, ◌<◌, ◌≤◌, length}
use Rattle.demangle_symbol.specs.Integers.{Digits62UpTo}
use Rattle.demangle_symbol.proofs.cursor.Symbol.integer_62.Given as goal

abbrev pub invariant-loop-step : goal.invariant-loop-step
invariant-loop-step l = record {
  digits : Digits62UpTo l.self l.place (l.place + l.step) l.number;
  small : l.number < 62 ^ l.step;
  within : l.place + l.step ≤ length l.self;
  looked : l.looks ≡ l.fn.looks + l.step;
}

abbrev pub invariant-loop-at : goal.invariant-loop-at
invariant-loop-at l = record {
  digits : Digits62UpTo l.self l.place l.at l.number;
  within : l.at ≤ length l.self;
  looked : l.looks + l.place ≡ l.fn.looks + l.at;
}
