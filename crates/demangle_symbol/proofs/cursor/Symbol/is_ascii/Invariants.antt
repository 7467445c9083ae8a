use Rattle.std.proofs.Common.{◌≡◌, ℕ, ◌+◌, ◌<◌, ◌↔◌, IsTrue, get_or}
use Rattle.demangle_symbol.proofs.cursor.Symbol.is_ascii.Given as goal

abbrev pub invariant-loop-at : goal.invariant-loop-at
invariant-loop-at l = record {
  below : IsTrue l.all ↔ ((k : ℕ) → k < l.at → get_or l.self k 0 < 128);
  looked : l.looks ≡ l.initial.looks + l.at;
}
