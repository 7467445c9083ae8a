use Rattle.std.proofs.Common.{◌≡◌, ℕ, ◌+◌, ◌*◌, ◌<◌, ◌≤◌, Bool}
use Rattle.std.specs.List.{slice_range}
use Rattle.demangle_symbol.specs.Punycode.{next_delta, deltas}
use Rattle.demangle_symbol.proofs.punycode.delta_at.Given as goal

abbrev pub invariant-loop-at : goal.invariant-loop-at
invariant-loop-at l = record {
  small : l.sum < 0x11_0000 * 129;
  weight : (1 ≤ l.weight) × (l.weight ≤ 35 * (l.sum + 1));
  place : (36 ≤ l.place) × (l.place ≤ 36 * l.weight);
  begun : l.fn.digits.from < l.at → 36 < l.place;
  rest : (count : ℕ) (first : Bool) → deltas (record { count = count; first = first; bias = l.bias; sum = l.sum; weight = l.weight; place = l.place }) (slice_range l.symbol l.at l.fn.digits.to)
      ≡ deltas (next_delta count first l.bias) (slice_range l.symbol l.fn.digits.from l.fn.digits.to);
  looked : l.looks + l.fn.digits.from ≡ l.initial.looks + l.at;
}
