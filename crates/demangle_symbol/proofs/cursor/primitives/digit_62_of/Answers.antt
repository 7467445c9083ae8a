use Rattle.std.proofs.Common.{◌≡◌, ℕ, ◌<◌, ◌≤◌, true, false, map, cond, get_or, refl, ap, ◌∙◌, arith}
use Rattle.std.proofs.lemmas.Bool.Decides.{nat_tests}
use Rattle.std.proofs.lemmas.List.FromFn.{get_or-map-range_with_len}
use Rattle.std.specs.List.{range_with_len}
use Rattle.demangle_symbol.specs.Primitives.{is_digit_62, digit_62}
use Rattle.demangle_symbol.specs.declared.cursor.primitives.TheConstants.{DIGITS_62}
use Rattle.demangle_symbol.proofs.cursor.primitives.digit_62_of.Goals as goal

abbrev mark : ℕ → ℕ
mark b = cond (is_digit_62 b) (digit_62 b) 255

-- the table has the value of each byte
table_is : DIGITS_62 ≡ map mark (range_with_len 0 256)
table_is = refl

read : (b : ℕ) → b < 256 → get_or DIGITS_62 b 0 ≡ mark b
read b h = ap (λ t. get_or t b 0) table_is ∙ get_or-map-range_with_len mark 0 256 b b 0 h (omega arith)

digit : (b v : ℕ) → v ≡ mark b → v < 62 → (is_digit_62 b ≡ true) × (v ≡ digit_62 b)
digit b v is small = grind (arith, nat_tests)

other : (b v : ℕ) → v ≡ mark b → 62 ≤ v → is_digit_62 b ≡ false
other b v is large = grind (arith, nat_tests)

value : (b r : ℕ) → b < 256 → r ≡ b → get_or DIGITS_62 r 0 ≡ mark b
value b r h is = rw is (read b h)

pub returns-clause-digit : goal.returns-clause-digit
returns-clause-digit c = digit c.args.byte (get_or DIGITS_62 c.from.result 0) (value c.args.byte c.from.result (omega arith) c.from.ensures)

pub returns-clause-other : goal.returns-clause-other
returns-clause-other c = other c.args.byte (get_or DIGITS_62 c.from.result 0) (value c.args.byte c.from.result (omega arith) c.from.ensures)
