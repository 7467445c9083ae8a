use Rattle.std.proofs.Common.{◌≡◌, ◌+◌, drop}
use Rattle.std.specs.List.{list_all}
use Rattle.demangle_value.specs.Stripped.{is_allowed, is_graphic}
use Rattle.demangle_value.proofs.value.is_allowed.Given as goal

abbrev pub invariant-loop-at : goal.invariant-loop-at
invariant-loop-at l = record {
  rest : is_allowed l.symbol ≡ list_all is_graphic (drop l.at l.symbol);
  looked : l.looks + 1 ≡ l.initial.looks + l.at;
}
