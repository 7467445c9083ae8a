use Rattle.std.proofs.Common.{◌≡◌, arith}
use Rattle.demangle_symbol.proofs.Digits.{digits_more, digits_inside, digits_decimal, run_past, no_decimal_large}
use Rattle.demangle_symbol.proofs.cursor.Symbol.decimal_from.Goals as goal

pub loop-at-preserved : goal.loop-at-preserved
loop-at-preserved c = record {
  digits = rw c.in-Some-append_decimal.ensures.1 (digits_more _ _ _ _ _ c.loop-at.invariant.digits c.in-Some.ensures.digit c.in-Some.ensures.small);
  looked = omega arith;
}

pub returns-in_default-append_decimal-clause-err : goal.returns-in_default-append_decimal-clause-err
returns-in_default-append_decimal-clause-err c =
    no_decimal_large _ _ _ _ _ c.loop-at.invariant.digits c.in-Some.ensures.digit c.in-Some.ensures.small
    (omega (arith, c.in_default-append_decimal.ensures))

pub returns-clause-ok : goal.returns-clause-ok
returns-clause-ok c =
    let inside = digits_inside _ _ _ _ c.loop-at.invariant.digits (omega (arith, c.if-end-start.false)) in
    let e : c.loop-at.at ≡ c.len-end.result = omega (arith, inside) in
    rw e at (digits_decimal _ _ _ _ c.loop-at.invariant.digits (omega arith) (run_past _ _ _ (omega arith)))

pub returns-clause-within : goal.returns-clause-within
returns-clause-within c =
    let inside = digits_inside _ _ _ _ c.requires.digits (omega (arith, c.if-end-start.false)) in
    (omega arith, omega (arith, inside), omega arith)
