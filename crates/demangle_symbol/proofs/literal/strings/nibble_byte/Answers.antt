use Rattle.std.proofs.Common.{◌+◌, arith}
use Rattle.demangle_symbol.proofs.Nibbles.{nibble_in}
use Rattle.demangle_symbol.proofs.literal.strings.nibble_byte.Goals as goal

pub nibble_at-high-requires-clause-hex : goal.nibble_at-high-requires-clause-hex
nibble_at-high-requires-clause-hex c = (nibble_in c.args.symbol.now c.args.rest c.args.place c.requires.hex c.requires.begun (omega arith)).1

pub nibble_at-low-requires-clause-inside : goal.nibble_at-low-requires-clause-inside
nibble_at-low-requires-clause-inside c = (nibble_in c.args.symbol.now c.args.rest (c.args.place + 1) c.requires.hex (omega arith) (omega arith)).0

pub nibble_at-low-requires-clause-hex : goal.nibble_at-low-requires-clause-hex
nibble_at-low-requires-clause-hex c = (nibble_in c.args.symbol.now c.args.rest (c.args.place + 1) c.requires.hex (omega arith) (omega arith)).1
