use Rattle.std.proofs.Common.{◌≡◌, ℕ, ◌+◌, ◌*◌, ◌<◌, ◌≤◌, length, take}
use Rattle.std.specs.Str.{IsUtf8}
use Rattle.demangle_symbol.specs.Nibbles.{nibbles_in}
use Rattle.demangle_symbol.proofs.Nibbles.{pairs}
use Rattle.demangle_symbol.proofs.literal.strings.char_at.Given as goal

abbrev pub invariant-loop-len : goal.invariant-loop-len
invariant-loop-len l = record {
  left : l.fn.rest.from + 2 * l.len ≤ l.fn.rest.to;
  size : length l.bytes ≡ 4;
  bytes : take l.len l.bytes ≡ take l.len (pairs (nibbles_in l.symbol l.fn.rest));
  none : (m : ℕ) → 0 < m → m ≤ l.len → IsUtf8 (take m (pairs (nibbles_in l.symbol l.fn.rest))) → ⊥;
  looked : l.looks ≡ l.initial.looks + 2 * l.len;
}
