use Rattle.std.proofs.Common.{◌≡◌, ℕ, ◌+◌, ◌*◌, ◌≤◌}
use Rattle.demangle_symbol.specs.Punycode.{bias_after}
use Rattle.demangle_symbol.proofs.punycode.adapt.Given as goal

abbrev pub invariant-loop-delta : goal.invariant-loop-delta
invariant-loop-delta l = record {
  small : l.place + l.delta ≤ l.initial.delta;
  rest : (turns : ℕ) × (l.delta ≤ 2 * turns) × (l.place + bias_after turns l.delta ≡ bias_after l.damped l.initial.delta);
}

abbrev pub decreases-loop-delta : goal.decreases-loop-delta
decreases-loop-delta l = l.delta
