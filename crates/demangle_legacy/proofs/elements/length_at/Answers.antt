use Rattle.std.proofs.Common.{◌≡◌, ℕ, ◌+◌, ◌*◌, ◌<◌, List, Some, subst, arith}
use Rattle.std.specs.List.{slice_get}
use Rattle.demangle_symbol.specs.Idents.{DigitsUpTo}
use Rattle.demangle_symbol.proofs.Digits.{digits_none, digits_more, digits_decimal}
use Rattle.demangle_legacy.proofs.elements.length_at.Goals as goal

-- one more digit, of the number m
more : (s : List ℕ) (at k j n m d : ℕ) → DigitsUpTo s at k n → slice_get s k ≡ Some (d + 48) → d < 10 → k + 1 ≡ j → n * 10 + d ≡ m → DigitsUpTo s at j m
more s at k j n m d h here small next is =
    subst (λ x. DigitsUpTo s at x m) next (subst (λ x. DigitsUpTo s at (k + 1) x) is (digits_more s at k n d h here small))

pub returns-in_default-digit_at-clause-some : goal.returns-in_default-digit_at-clause-some
returns-in_default-digit_at-clause-some c =
    let s = c.args.symbol.now in
    let at = c.args.at in
    let one = more s at at (at + 1) 0 c.from.result c.in-Some.first (digits_none s at) c.in-Some.ensures.digit c.in-Some.ensures.small (omega arith) (omega (arith, c.from.ensures)) in
    digits_decimal s at (at + 1) c.from.result one (omega arith) c.in_default-digit_at.ensures.none

pub returns-in_default-digit_at-2-clause-some : goal.returns-in_default-digit_at-2-clause-some
returns-in_default-digit_at-2-clause-some c =
    let s = c.args.symbol.now in
    let at = c.args.at in
    let a = c.from-in_default-digit_at-2.result in
    let b = c.from-in_default-digit_at-2-2.result in
    let one = more s at at (at + 1) 0 a c.in-Some.first (digits_none s at) c.in-Some.ensures.digit c.in-Some.ensures.small (omega arith) (omega (arith, c.from-in_default-digit_at-2.ensures)) in
    let two = more s at (at + 1) (at + 2) a (a * 10 + b) c.in-Some-digit_at.second one c.in-Some-digit_at.ensures.digit c.in-Some-digit_at.ensures.small (omega arith) (omega (arith, c.from-in_default-digit_at-2-2.ensures)) in
    digits_decimal s at (at + 2) (a * 10 + b) two (omega arith) c.in_default-digit_at-2.ensures.none

pub returns-in_default-digit_at-3-clause-some : goal.returns-in_default-digit_at-3-clause-some
returns-in_default-digit_at-3-clause-some c =
    let s = c.args.symbol.now in
    let at = c.args.at in
    let a = c.from-in_default-digit_at-3.result in
    let b = c.from-in_default-digit_at-3-2.result in
    let d = c.from-in_default-digit_at-3-3.result in
    let one = more s at at (at + 1) 0 a c.in-Some.first (digits_none s at) c.in-Some.ensures.digit c.in-Some.ensures.small (omega arith) (omega (arith, c.from-in_default-digit_at-3.ensures)) in
    let two = more s at (at + 1) (at + 2) a (a * 10 + b) c.in-Some-digit_at.second one c.in-Some-digit_at.ensures.digit c.in-Some-digit_at.ensures.small (omega arith) (omega (arith, c.from-in_default-digit_at-3-2.ensures)) in
    let three = more s at (at + 2) (at + 3) (a * 10 + b) ((a * 10 + b) * 10 + d) c.in-Some-digit_at-2.third two c.in-Some-digit_at-2.ensures.digit c.in-Some-digit_at-2.ensures.small (omega arith) (omega (arith, c.from-in_default-digit_at-3-3.ensures)) in
    digits_decimal s at (at + 3) ((a * 10 + b) * 10 + d) three (omega arith) c.in_default-digit_at-3.ensures.none
