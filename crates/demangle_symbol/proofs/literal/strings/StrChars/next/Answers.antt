use Rattle.std.proofs.Common.{arith}
use Rattle.demangle_symbol.proofs.Nibbles.{hex_later}
use Rattle.demangle_symbol.proofs.literal.strings.StrChars.next.Goals as goal

pub returns-clause-hex : goal.returns-clause-hex
returns-clause-hex c =
    let rest = c.args.self.now.rest in
    (c.requires.hex.0, hex_later c.args.symbol.now rest.from c.in-Some.next rest.to c.requires.hex.0 c.requires.hex.1 (omega (arith, c.in-Some.ensures.within)) (omega (arith, c.in-Some.ensures.within)))
