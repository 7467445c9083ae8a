-- Hexadecimal digits, by their distance from the digits.
use Rattle.std.proofs.Common.{◌≡◌, ℕ, ◌+◌, ◌-◌, ◌%◌, ◌<◌, ◌&&◌, Bool, true, false, List, length, take, get_or, min, eqb, refl, sym, ap, ◌∙◌, arith}
use Rattle.std.specs.Int.Bits.{bit_or, bit_xor}
use Rattle.std.specs.List.{list_all}
use Rattle.std.specs.Char.{is_ascii_hexdigit}
use Rattle.std.proofs.lemmas.Bool.{agree_below_at}
use Rattle.std.proofs.lemmas.Bool.Decides.{nat_tests}
use Rattle.std.proofs.lemmas.List.Folds.{list_all_more}
use Rattle.std.proofs.lemmas.Nat.{le_or_l, le_or_r}

abbrev pub distance_of : ℕ → ℕ
distance_of b = min (bit_xor b 48 - 9) ((bit_or b 32 + (256 - 97)) % 256 - 5)

pub distance_is : (b : ℕ) → b < 256 → is_ascii_hexdigit b ≡ eqb (distance_of b) 0
distance_is b lt = agree_below_at is_ascii_hexdigit (λ n. eqb (distance_of n) 0) 256 b refl lt

pub ruleset distance_steps = (distance_is)

-- two distances are 0 exactly if their union is
pub or_zero : (a b : ℕ) → eqb (bit_or a b) 0 ≡ (eqb a 0 && eqb b 0)
or_zero a b = by_cases (eqb a 0) (eqb b 0) refl refl where
  by_cases : (x y : Bool) → eqb a 0 ≡ x → eqb b 0 ≡ y → eqb (bit_or a b) 0 ≡ (x && y)
  by_cases true true e f = grind (arith, nat_tests)
  by_cases true false e f = let h = le_or_r a b in grind (arith, nat_tests, h)
  by_cases false y e f = let h = le_or_l a b in grind (arith, nat_tests, h)

pub digits_more : (s : List ℕ) (k any d : ℕ) → k < length s → eqb any 0 ≡ list_all is_ascii_hexdigit (take k s) → is_ascii_hexdigit (get_or s k 0) ≡ eqb d 0
    → eqb (bit_or any d) 0 ≡ list_all is_ascii_hexdigit (take (k + 1) s)
digits_more s k any d lt so_far here =
    or_zero any d ∙ ap (λ x. x && eqb d 0) so_far ∙ ap (λ x. list_all is_ascii_hexdigit (take k s) && x) (sym here)
    ∙ sym (list_all_more is_ascii_hexdigit s k 0 lt)
