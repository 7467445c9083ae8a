use Rattle.std.proofs.Common.{◌≡◌, suc, set, get_or, ◌+◌, ◌-◌, ◌*◌, ◌/◌, ◌%◌, ◌^◌, ◌∷◌, false, drop, sym, ap, ◌∙◌, arith, drop_of_length-le}
use Rattle.std.specs.Fmt.{digit_glyph}
use Rattle.std.specs.Int.Bits.{bit_or}
use Rattle.std.specs.Int.Count.{count_leading_zeros}
use Rattle.std.proofs.Math.Nat.{div-one}
use Rattle.std.proofs.lemmas.List.{length-set}
use Rattle.std.proofs.lemmas.Nat.{leading_le}
use Rattle.demangle_v0_tokens.specs.declared.render.numbers.TheConstants.{DIGIT_PAIRS_16}
use Rattle.demangle_v0_tokens.proofs.HexDigits.{low_digits, next_digit, high_digit, low_digit, digit_put, zeros_off}
use Rattle.demangle_v0_tokens.proofs.render.numbers.write_hexadecimal.Goals as goal

pub loop-pairs-init : goal.loop-pairs-init
loop-pairs-init c = record {
  within = omega arith;
  long = c.told-text;
  left = sym (div-one c.args.number);
  written = drop_of_length-le c.args.text.now {i = 16} (omega (arith, c.told-text));
}

pub loop-pairs-preserved : goal.loop-pairs-preserved
loop-pairs-preserved c =
    let l = c.loop-pairs in
    let n = c.args.number in
    let at = (l.pairs - 1) * 2 in
    let i = 16 - l.pairs * 2 in
    let next : suc (suc i) ≡ 16 - at = omega (arith, c.loop-pairs-test.true, l.invariant.within) in
    let up : at + 1 + 1 ≡ l.pairs * 2 = omega (arith, c.loop-pairs-test.true) in
    let low = low_digit l.rest ∙ ap (λ r. digit_glyph false (r % 16)) l.invariant.left in
    let high = high_digit l.rest ∙ (ap (λ r. digit_glyph false (r / 16 % 16)) l.invariant.left ∙ ap (λ r. digit_glyph false (r % 16)) (next_digit i n)) in
    let second = get_or DIGIT_PAIRS_16 (l.rest % 256 * 2 + 1) 0 in
    let halves : l.rest / 256 ≡ l.rest / 16 / 16 = omega arith in
    record {
      within = omega (arith, l.invariant.within);
      long = length-set _ at _ ∙ (length-set l.text (at + 1) _ ∙ l.invariant.long);
      left = halves ∙ (ap (λ r. r / 16 / 16) l.invariant.left ∙ (ap (λ r. r / 16) (next_digit i n) ∙ (next_digit (suc i) n ∙ ap (λ e. n / 16 ^ e) next)));
      written =
          digit_put (set l.text (at + 1) second) at _ _ (omega (arith, l.invariant.within, length-set l.text (at + 1) second, l.invariant.long)) high
          ∙ (ap (λ ds. digit_glyph false (n / 16 ^ suc i % 16) ∷ ds) (digit_put l.text (at + 1) _ _ (omega (arith, l.invariant.within, l.invariant.long)) low
          ∙ ap (λ ds. digit_glyph false (n / 16 ^ i % 16) ∷ ds) (ap (λ k. drop k l.text) up ∙ l.invariant.written)) ∙ ap (λ e. low_digits e n) next);
    }

pub returns : goal.returns
returns c =
    let l = c.loop-pairs in
    let n = c.args.number in
    let done : l.pairs ≡ 0 = omega (arith, c.loop-pairs-test.false) in
    let all : l.text ≡ low_digits 16 n = rw done at l.invariant.written in
    record {
      bound = omega (arith, leading_le 64 (bit_or n 1));
      value = ap (drop (count_leading_zeros 64 (bit_or n 1) / 4)) all ∙ zeros_off n c.ranges.number.fits;
    }
