use Rattle.std.proofs.Common.{◌≡◌, ◌+◌, ◌<◌}
use Rattle.demangle_legacy.proofs.LegacyEscapes.{Digits}
use Rattle.demangle_legacy.proofs.units.digits_escape.Given as goal

abbrev pub invariant-loop-at : goal.invariant-loop-at
invariant-loop-at l = record {
  digits : Digits l.symbol l.fn.part.from l.at l.fn.part.to l.code;
  small : l.code < 0x110000;
  looked : l.looks + l.fn.part.from + 1 ≡ l.initial.looks + l.at;
}
