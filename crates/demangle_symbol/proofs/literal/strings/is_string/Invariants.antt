use Rattle.std.proofs.Common.{◌≡◌, ◌+◌, ◌-◌, ◌≤◌}
use Rattle.std.specs.Prelude.{is_some}
use Rattle.demangle_symbol.specs.Literals.{string_of}
use Rattle.demangle_symbol.specs.Nibbles.{HexPart, nibbles_in}
use Rattle.demangle_symbol.proofs.literal.strings.is_string.Given as goal

abbrev pub invariant-loop-chars : goal.invariant-loop-chars
invariant-loop-chars l = record {
  hex : HexPart l.symbol l.chars.rest;
  text : is_some (string_of (nibbles_in l.symbol l.chars.rest)) ≡ is_some (string_of (nibbles_in l.symbol l.fn.nibbles));
  begun : l.fn.nibbles.from ≤ l.chars.rest.from;
  order : l.chars.rest.from ≤ l.chars.rest.to;
  same_end : l.chars.rest.to ≡ l.fn.nibbles.to;
  grows : l.fn.looks ≤ l.looks;
  looked : l.looks + l.fn.nibbles.from ≤ l.fn.looks + l.chars.rest.from;
}

abbrev pub decreases-loop-chars : goal.decreases-loop-chars
decreases-loop-chars l = l.chars.rest.to - l.chars.rest.from
