use Rattle.std.proofs.Common.{◌≡◌, ◌≤◌, ◌-◌, ◌*◌, ◌/◌, ◌^◌, length, drop}
use Rattle.demangle_v0_tokens.proofs.HexDigits.{low_digits}
use Rattle.demangle_v0_tokens.proofs.render.numbers.write_hexadecimal.Given as goal

abbrev pub invariant-loop-pairs : goal.invariant-loop-pairs
invariant-loop-pairs l = record {
  within : l.pairs ≤ 8;
  long : length l.text ≡ 16;
  left : l.rest ≡ l.number / 16 ^ (16 - l.pairs * 2);
  written : drop (l.pairs * 2) l.text ≡ low_digits (16 - l.pairs * 2) l.number;
}

abbrev pub decreases-loop-pairs : goal.decreases-loop-pairs
decreases-loop-pairs l = l.pairs
