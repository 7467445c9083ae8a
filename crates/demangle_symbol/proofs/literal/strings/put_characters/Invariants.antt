use Rattle.std.proofs.Common.{◌≡◌, ℕ, ◌+◌, ◌-◌, ◌≤◌, List, ◌++◌, Ok}
use Rattle.std.specs.Prelude.{IsSome}
use Rattle.demangle_sink.specs.Limit.{Prints}
use Rattle.demangle_symbol.specs.Literals.{string_of}
use Rattle.demangle_symbol.specs.Nibbles.{HexPart, nibbles_in, characters_of, character_pieces}
use Rattle.demangle_symbol.proofs.literal.strings.put_characters.Given as goal

abbrev pub invariant-loop-chars : goal.invariant-loop-chars
invariant-loop-chars g l = record {
  hex : HexPart l.symbol l.chars.rest;
  text : IsSome (string_of (nibbles_in l.symbol l.chars.rest));
  begun : l.fn.nibbles.from ≤ l.chars.rest.from;
  order : l.chars.rest.from ≤ l.chars.rest.to;
  same_end : l.chars.rest.to ≡ l.fn.nibbles.to;
  put : (done : List ℕ) × (characters_of (nibbles_in l.symbol l.fn.nibbles) ≡ done ++ characters_of (nibbles_in l.symbol l.chars.rest)) × Prints g.S.TextSink l.fn.out (character_pieces done) (Ok tt) l.out;
  grows : l.fn.looks ≤ l.looks;
  looked : l.looks + l.fn.nibbles.from ≤ l.fn.looks + l.chars.rest.from;
}

abbrev pub decreases-loop-chars : goal.decreases-loop-chars
decreases-loop-chars g l = l.chars.rest.to - l.chars.rest.from
