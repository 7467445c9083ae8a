use Rattle.std.proofs.Common.{◌≡◌, ◌+◌, ◌-◌, ◌<◌, ◌≤◌, length}
use Rattle.std.specs.List.{slice_range}
use Rattle.std.specs.Prelude.{option_and_then}
use Rattle.demangle_symbol.specs.Punycode.{next_delta, deltas, insertions, puny}
use Rattle.demangle_symbol.proofs.punycode.decode.Given as goal

abbrev pub invariant-loop-at : goal.invariant-loop-at
invariant-loop-at l = record {
  begun : l.fn.name.punycode.from ≤ l.at;
  inside : l.at ≤ l.fn.name.punycode.to;
  short : length l.characters.items ≤ 128;
  here : l.i ≤ length l.characters.items;
  scalar : l.n < 0x11_0000;
  rest : option_and_then (insertions l.n l.i l.characters.items) (deltas (next_delta (length l.characters.items) l.first l.bias) (slice_range l.symbol l.at l.fn.name.punycode.to))
      ≡ puny (slice_range l.symbol l.fn.name.ascii.from l.fn.name.ascii.to) (slice_range l.symbol l.fn.name.punycode.from l.fn.name.punycode.to);
  grows : l.fn.looks ≤ l.looks;
  looked : l.looks + l.fn.name.punycode.from ≤ l.fn.looks + (l.fn.name.ascii.to - l.fn.name.ascii.from) + l.at;
}

abbrev pub decreases-loop-at : goal.decreases-loop-at
decreases-loop-at l = l.end - l.at
