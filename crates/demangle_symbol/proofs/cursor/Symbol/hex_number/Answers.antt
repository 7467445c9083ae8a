use Rattle.std.proofs.Common.{◌≡◌, ◌+◌, ◌*◌, ◌-◌, ◌^◌, ◌<◌, sym, arith}
use Rattle.demangle_symbol.proofs.Digits.{number_more}
use Rattle.demangle_symbol.proofs.Hex.{nibbles_fit, nibbles_more}
use Rattle.demangle_symbol.specs.Primitives.{nibble}
use Rattle.demangle_symbol.proofs.cursor.Symbol.hex_number.Goals as goal

pub overflow_mul-number : goal.overflow_mul-number
overflow_mul-number c =
    omega (arith, nibbles_fit 32 c.loop-at.number c.in-Some-nibble_of.digit (c.loop-at.at - c.after_zeros-start.result) c.loop-at.invariant.small c.in-Some-nibble_of.ensures.2 (omega arith))

pub overflow_add-number : goal.overflow_add-number
overflow_add-number c =
    omega (arith, nibbles_fit 32 c.loop-at.number c.in-Some-nibble_of.digit (c.loop-at.at - c.after_zeros-start.result) c.loop-at.invariant.small c.in-Some-nibble_of.ensures.2 (omega arith))

pub loop-at-preserved : goal.loop-at-preserved
loop-at-preserved c =
    let count = c.loop-at.at - c.after_zeros-start.result in
    let more : c.loop-at.number * 16 + c.in-Some-nibble_of.digit < 16 ^ (count + 1) = nibbles_more c.loop-at.number c.in-Some-nibble_of.digit count c.loop-at.invariant.small c.in-Some-nibble_of.ensures.2 in
    let next : c.loop-at.at + 1 - c.after_zeros-start.result ≡ count + 1 = omega arith in
    record {
      number = omega (arith, number_more 16 nibble c.args.self.now c.args.nibbles.from c.loop-at.at c.in-Some.byte (omega arith) (sym c.in-Some.ensures.byte), c.in-Some-nibble_of.ensures.1, c.loop-at.invariant.number);
      small = rw next (omega arith);
      looked = omega arith;
    }
