use Rattle.std.proofs.Common.{◌≡◌, ℕ, ◌+◌, ◌*◌, ◌^◌, ◌<◌, ◌≤◌, sym, arith}
use Rattle.demangle_symbol.proofs.Integers.{digits_more, digits_fit, digits_below, digits_integer, no_integer_large, no_integer_past, integer_read, integer_unread}
use Rattle.demangle_symbol.proofs.cursor.Symbol.integer_62.Goals as goal

-- a digit after fewer than ten
digit_fits : (n d k : ℕ) → n < 62 ^ k → d < 62 → k ≤ 9 → n * 62 + d < 2 ^ 64
digit_fits n d k small digit few = omega (arith, digits_below (n * 62 + d) (k + 1) (digits_fit n d k small digit) (omega arith))

pub overflow_add-result-in_default-2 : goal.overflow_add-result-in_default-2
overflow_add-result-in_default-2 c =
    omega (arith, digits_below c.loop-step.number c.loop-step.step c.loop-step.invariant.small (omega arith))

pub returns-in_default-2-clause-ok : goal.returns-in_default-2-clause-ok
returns-in_default-2-clause-ok c =
    let small = digits_below c.loop-step.number c.loop-step.step c.loop-step.invariant.small (omega arith) in
    let here = rw c.in_default-2.is at c.in_ok-digit.ensures.end in
    digits_integer _ _ _ _ c.loop-step.invariant.digits (omega arith) here (omega (arith, small))

pub returns-in_default-2-clause-read : goal.returns-in_default-2-clause-read
returns-in_default-2-clause-read c = sym (integer_read _ _ _ _ (returns-in_default-2-clause-ok c))

pub overflow_mul-number : goal.overflow_mul-number
overflow_mul-number c =
    let below = rw c.in-Some-2.is at c.in_ok-digit.ensures.small in
    omega (arith, digit_fits c.loop-step.number c.in-Some-2.digit c.loop-step.step c.loop-step.invariant.small below (omega arith))

pub overflow_add-number : goal.overflow_add-number
overflow_add-number c =
    let below = rw c.in-Some-2.is at c.in_ok-digit.ensures.small in
    omega (arith, digit_fits c.loop-step.number c.in-Some-2.digit c.loop-step.step c.loop-step.invariant.small below (omega arith))

pub loop-step-preserved : goal.loop-step-preserved
loop-step-preserved c =
    let digit = rw c.in-Some-2.is at c.in_ok-digit.ensures.digit in
    let below = rw c.in-Some-2.is at c.in_ok-digit.ensures.small in
    let next : c.args.place + (c.loop-step.step + 1) ≡ c.args.place + c.loop-step.step + 1 = omega arith in
    record {
      digits = rw next (digits_more _ _ _ _ _ c.loop-step.invariant.digits digit);
      small = digits_fit c.loop-step.number c.in-Some-2.digit c.loop-step.step c.loop-step.invariant.small below;
      within = omega (arith, c.in_ok-digit.ensures.within);
      looked = omega arith;
    }

pub returns-in_default-3-clause-ok : goal.returns-in_default-3-clause-ok
returns-in_default-3-clause-ok c =
    let here = rw c.in_default-3.is at c.in_ok-digit-2.ensures.end in
    rw c.in-Some-checked_add.ensures.1 (digits_integer _ _ _ _ c.loop-at.invariant.digits (omega arith) here c.in-Some-checked_add.ensures.0)

pub returns-in_default-3-clause-read : goal.returns-in_default-3-clause-read
returns-in_default-3-clause-read c = sym (integer_read _ _ _ _ (returns-in_default-3-clause-ok c))

pub returns-in_default-append_digit-clause-err : goal.returns-in_default-append_digit-clause-err
returns-in_default-append_digit-clause-err c =
    let digit = rw c.in-Some-3.is at c.in_ok-digit-2.ensures.digit in
    no_integer_large _ _ _ _ _ c.loop-at.invariant.digits digit (omega (arith, c.in_default-append_digit.ensures))

pub returns-in_default-append_digit-clause-read : goal.returns-in_default-append_digit-clause-read
returns-in_default-append_digit-clause-read c = sym (integer_unread _ _ (returns-in_default-append_digit-clause-err c))

pub returns-clause-err : goal.returns-clause-err
returns-clause-err c = no_integer_past _ _ _ _ c.loop-at.invariant.digits (omega arith)

pub returns-clause-read : goal.returns-clause-read
returns-clause-read c = sym (integer_unread _ _ (returns-clause-err c))
