use Rattle.std.proofs.Common.{◌≡◌, ◌+◌}
use Rattle.std.specs.List.{slice_range}
use Rattle.demangle_symbol.specs.Digits.{number}
use Rattle.demangle_symbol.specs.Primitives.{nibble, zeros}
use Rattle.demangle_symbol.proofs.Hex.{zeros_from}
use Rattle.demangle_symbol.proofs.cursor.Symbol.after_zeros.Given as goal

abbrev pub invariant-loop-at : goal.invariant-loop-at
invariant-loop-at l = record {
  zeros : l.part.from + zeros (slice_range l.self l.part.from l.part.to) ≡ l.at + zeros_from l.self l.part.from l.part.to l.at;
  nothing : number 16 nibble (slice_range l.self l.part.from l.at) ≡ 0;
  looked : l.looks + l.part.from ≡ l.initial.looks + l.at;
}
