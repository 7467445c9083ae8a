use Rattle.std.proofs.Common.{◌≡◌, ◌+◌, slice_range}
use Rattle.std.specs.List.{list_all}
use Rattle.std.specs.Char.{is_ascii_hexdigit}
use Rattle.demangle_legacy.proofs.printing.has_only_digits.Given as goal

abbrev pub invariant-loop-at : goal.invariant-loop-at
invariant-loop-at l = record {
  all : list_all is_ascii_hexdigit (slice_range l.symbol l.fn.part.from l.fn.part.to) ≡ list_all is_ascii_hexdigit (slice_range l.symbol l.at l.fn.part.to);
  looked : l.looks + l.fn.part.from ≡ l.initial.looks + l.at;
}
