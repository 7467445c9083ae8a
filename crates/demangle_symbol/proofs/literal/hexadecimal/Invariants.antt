use Rattle.std.proofs.Common.{◌≡◌, ◌-◌, ◌^◌, ◌<◌, false, length}
use Rattle.std.specs.Fmt.{digits, digits_onto}
use Rattle.demangle_symbol.proofs.literal.hexadecimal.Given as goal

abbrev pub invariant-loop-turn : goal.invariant-loop-turn
invariant-loop-turn l = record {
  count : length l.text.items ≡ l._turn;
  small : l.rest < 16 ^ (16 - l._turn);
  begun : 0 < l._turn → 0 < l.rest;
  onto : digits_onto (64 - l._turn) 16 false l.rest l.text.items ≡ digits 16 false l.fn.number;
}
