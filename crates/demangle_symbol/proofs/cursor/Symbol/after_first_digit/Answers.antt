use Rattle.std.proofs.Common.{◌≡◌, ◌+◌, ◌*◌, sym, ◌∙◌, arith}
use Rattle.demangle_symbol.proofs.IntegerEnds.{below_first, below_next, below_bound, one_more_eleven, one_more_small, no_one_more_part}
use Rattle.demangle_symbol.proofs.cursor.Symbol.after_first_digit.Goals as goal

pub loop-step-init : goal.loop-step-init
loop-step-init c =
    let same : c.args.first + 1 ≡ (c.args.first + 1) * 1 = omega arith in
    record { digits = rw (← same) (below_first _ _ _ c.requires.first); looked = omega arith }

pub returns-in-Ok-None-clause-some : goal.returns-in-Ok-None-clause-some
returns-in-Ok-None-clause-some c =
    let here = rw (c.in-Ok-None.field-0-is, c.cut_at_digit-rest.ensures.bytes) at c.in-Ok-None.ensures.end in
    let next : c.args.place + c.loop-step.step + 2 ≡ c.args.place + (c.loop-step.step + 1) + 1 = omega arith in
    rw next (one_more_small _ _ _ _ c.loop-step.invariant.digits here
    (omega (arith, below_bound c.args.first c.loop-step.step c.requires.small (omega arith))))

pub returns-in-Err-clause-none : goal.returns-in-Err-clause-none
returns-in-Err-clause-none c =
    let other = rw c.cut_at_digit-rest.ensures.bytes at c.in-Err.ensures.other in
    no_one_more_part _ _ _ _ c.loop-step.invariant.digits other.0 other.1

pub loop-step-preserved : goal.loop-step-preserved
loop-step-preserved c =
    let digit = rw (c.in-Ok-Some.field-0-is, c.cut_at_digit-rest.ensures.bytes) at c.in-Ok-Some.ensures.digit in
    let small = rw c.in-Ok-Some.field-0-is at c.in-Ok-Some.ensures.small in
    record { digits = below_next _ _ _ _ _ c.loop-step.invariant.digits digit small; looked = omega arith }

pub returns-in-Ok-None-integer_digit-clause-some :
    goal.returns-in-Ok-None-integer_digit-clause-some
returns-in-Ok-None-integer_digit-clause-some c =
    let here = rw (c.in-Ok-None-integer_digit.field-0-is, c.cut_at_digit-rest.ensures.bytes) at
    c.in-Ok-None-integer_digit.ensures.end in
    let nine : c.loop-step.step ≡ 9 = omega arith in
    let digits = rw nine at c.loop-step.invariant.digits in
    one_more_small _ _ _ _ digits here (omega (arith, below_bound c.args.first 9 c.requires.small (omega arith)))

pub returns-in-Err-integer_digit-clause-none : goal.returns-in-Err-integer_digit-clause-none
returns-in-Err-integer_digit-clause-none c =
    let other = rw c.cut_at_digit-rest.ensures.bytes at c.in-Err-integer_digit.ensures.other in
    let nine : c.loop-step.step ≡ 9 = omega arith in
    let digits = rw nine at c.loop-step.invariant.digits in
    no_one_more_part _ _ _ _ digits other.0 other.1

pub returns-then-is_at-clause-some : goal.returns-then-is_at-clause-some
returns-then-is_at-clause-some c =
    let digit = rw (c.in-Ok-Some-integer_digit.field-0-is, c.cut_at_digit-rest.ensures.bytes) at
    c.in-Ok-Some-integer_digit.ensures.digit in
    let small = rw c.in-Ok-Some-integer_digit.field-0-is at c.in-Ok-Some-integer_digit.ensures.small in
    let nine : c.loop-step.step ≡ 9 = omega arith in
    let digits = rw nine at c.loop-step.invariant.digits in
    let there = sym c.is_at.ensures.there ∙ c.if-is_at.true in
    one_more_eleven _ _ _ _ digits digit small c.if-first-lt-FITTING_FIRST.true (rw c.cut_at_digit-rest.ensures.bytes at there)
