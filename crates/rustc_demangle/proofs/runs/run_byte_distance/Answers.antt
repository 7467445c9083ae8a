use Rattle.std.proofs.Common.{ℕ, ◌-◌, ◌+◌, ◌%◌, Bool, ◌||◌, eqb, sym, ap, ap₂, ◌∙◌, refl}
use Rattle.std.specs.Prelude.{min, bit_or, bit_xor}
use Rattle.std.proofs.lemmas.Bool.{agree_below_at}
use Rattle.demangle_value.specs.Filtered.{is_run_byte}
use Rattle.rustc_demangle.proofs.runs.run_byte_distance.Goals as goal

abbrev is_mark : ℕ → Bool
is_mark b = (eqb b 95 || eqb b 46) || eqb b 36

abbrev distance : ℕ → ℕ
distance b = min ((bit_or b 32 + 159) % 256 - 25) (bit_xor b 48 - 9)

pub returns-else-byte : goal.returns-else-byte
returns-else-byte c =
    let byte = c.args.byte in
    let same = c.min.ensures ∙ ap₂ min c.saturating_sub-letter.ensures c.saturating_sub-digit.ensures in
    ap (λ r. eqb r 0) same ∙ sym (ap (λ m. m || eqb (distance byte) 0) c.if-byte.false)
    ∙ agree_below_at (λ b. is_mark b || eqb (distance b) 0) is_run_byte 256 byte refl c.ranges.byte.fits
