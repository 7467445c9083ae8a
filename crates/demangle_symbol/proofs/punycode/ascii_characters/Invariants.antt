use Rattle.std.proofs.Common.{◌≡◌, ◌+◌, length}
use Rattle.std.specs.List.{slice_range}
use Rattle.demangle_symbol.proofs.punycode.ascii_characters.Given as goal

abbrev pub invariant-loop-at : goal.invariant-loop-at
invariant-loop-at l = record {
  taken : l.characters.items ≡ slice_range l.symbol l.fn.ascii.from l.at;
  count : length l.characters.items + l.fn.ascii.from ≡ l.at;
  looked : l.looks + l.fn.ascii.from ≡ l.initial.looks + l.at;
}
