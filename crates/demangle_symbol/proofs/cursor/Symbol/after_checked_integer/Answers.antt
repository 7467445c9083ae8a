use Rattle.std.proofs.Common.{arith}
use Rattle.demangle_symbol.proofs.Integers.{digits_none, digits_more}
use Rattle.demangle_symbol.proofs.IntegerEnds.{one_more_ends, no_one_more_large, no_one_more_past, no_one_more_last}
use Rattle.demangle_symbol.proofs.cursor.Symbol.after_checked_integer.Goals as goal

pub loop-at-init : goal.loop-at-init
loop-at-init c = record { digits = digits_none _ _; within = omega arith; looked = omega arith }

pub returns-in-Ok-None-clause-some : goal.returns-in-Ok-None-clause-some
returns-in-Ok-None-clause-some c =
    let here = rw c.in-Ok-None.field-0-is at c.in-Ok-None.ensures.end in
    one_more_ends _ _ _ _ c.loop-at.invariant.digits here (omega arith)

pub returns-in_default-clause-none : goal.returns-in_default-clause-none
returns-in_default-clause-none c =
    let digit = rw c.in-Ok-Some.field-0-is at c.in-Ok-Some.ensures.digit in
    no_one_more_large _ _ _ _ _ c.loop-at.invariant.digits digit (omega (arith, c.in_default.ensures))

pub loop-at-preserved : goal.loop-at-preserved
loop-at-preserved c =
    let digit = rw c.in-Ok-Some.field-0-is at c.in-Ok-Some.ensures.digit in
    record {
      digits = rw c.in-Some.ensures.1 (digits_more _ _ _ _ _ c.loop-at.invariant.digits digit);
      within = omega arith;
      looked = omega (arith, c.in-Ok-Some.ensures.look);
    }

pub returns-clause-none : goal.returns-clause-none
returns-clause-none c = no_one_more_past _ _ _ _ c.loop-at.invariant.digits (omega arith)

pub returns-then-number-clause-none : goal.returns-then-number-clause-none
returns-then-number-clause-none c =
    let here = rw c.in-Ok-None.field-0-is at c.in-Ok-None.ensures.end in
    no_one_more_last _ _ _ _ c.loop-at.invariant.digits here (omega arith)
