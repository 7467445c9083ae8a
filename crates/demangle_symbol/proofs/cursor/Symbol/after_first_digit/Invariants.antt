use Rattle.std.proofs.Common.{◌≡◌, ◌+◌, ◌*◌, ◌^◌}
use Rattle.demangle_symbol.specs.Integers.{DigitsBelow}
use Rattle.demangle_symbol.proofs.cursor.Symbol.after_first_digit.Given as goal

abbrev pub invariant-loop-step : goal.invariant-loop-step
invariant-loop-step l = record {
  digits : DigitsBelow l.self l.place (l.place + (l.step + 1)) ((l.first + 1) * 62 ^ l.step);
  looked : l.looks ≡ l.fn.looks + l.step;
}
