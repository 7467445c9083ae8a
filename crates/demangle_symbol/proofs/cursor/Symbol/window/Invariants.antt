use Rattle.std.proofs.Common.{◌≡◌, ◌+◌}
use Rattle.demangle_symbol.proofs.cursor.Symbol.window.Given as goal

abbrev pub invariant-loop : goal.invariant-loop
invariant-loop l = l.looks ≡ l.initial.looks + l.counter
