use Rattle.std.proofs.Common.{◌≡◌, ◌+◌, ◌-◌, ◌*◌, ◌≤◌, IsSome, length, drop}
use Rattle.demangle_legacy.specs.Legacy.{elements_of, parts_of, suffix_of}
use Rattle.demangle_legacy.specs.Unescaped.{legacy_pieces}
use Rattle.demangle_legacy.proofs.LegacyPrinting.{left_pieces}
use Rattle.demangle_sink.specs.Limit.{PrintedPrefix, Ready}
use Rattle.demangle_legacy.proofs.value.print_elements.Given as goal

abbrev pub invariant-loop-element : goal.invariant-loop-element
invariant-loop-element g l = record {
  inside : l.at ≤ length l.symbol;
  same : (parts_of l.symbol).1 ≡ (parts_of (drop l.at l.symbol)).1;
  ready : Ready g.S.TextSink l.out;
  printed : IsSome (suffix_of l.symbol) → PrintedPrefix g.S.TextSink l.fn.out (legacy_pieces l.form (elements_of l.symbol)) (left_pieces l.form.include_hash l.at (elements_of (drop l.at l.symbol))) l.out;
  grows : l.initial.looks ≤ l.looks;
  looked : l.looks ≤ l.initial.looks + 10 * l.at;
}

abbrev pub decreases-loop-element : goal.decreases-loop-element
decreases-loop-element g l = length l.symbol - l.at
