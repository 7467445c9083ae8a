use Rattle.std.proofs.Common.{◌≡◌, ◌+◌, ◌-◌, slice_range}
use Rattle.std.specs.List.{position_or_len}
use Rattle.demangle_legacy.specs.Unescaped.{is_special}
use Rattle.demangle_legacy.proofs.units.special_in.Given as goal

abbrev pub invariant-loop-at : goal.invariant-loop-at
invariant-loop-at l = record {
  place : position_or_len is_special (slice_range l.symbol l.fn.part.from l.fn.part.to) ≡ (l.at - l.fn.part.from) + position_or_len is_special (slice_range l.symbol l.at l.fn.part.to);
  looked : l.looks + l.fn.part.from ≡ l.initial.looks + l.at;
}
