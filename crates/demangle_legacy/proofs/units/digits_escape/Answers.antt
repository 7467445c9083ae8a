use Rattle.std.proofs.Common.{Some, None, sym, ap, ◌∙◌, arith}
use Rattle.std.specs.Char.{encode_utf8}
use Rattle.demangle_legacy.proofs.LegacyEscapes.{first_digit, next_digit, no_digit, too_large, no_end, digits_end}
use Rattle.demangle_legacy.proofs.units.digits_escape.Goals as goal

pub loop-at-init : goal.loop-at-init
loop-at-init c = record {
  digits = first_digit c.args.symbol.now c.args.part.from c.args.part.to c.requires.order c.requires.inside c.requires.letter;
  small = omega arith;
  looked = omega arith;
}

pub returns-then-byte-ne36-clause-unit : goal.returns-then-byte-ne36-clause-unit
returns-then-byte-ne36-clause-unit c =
    no_digit _ _ _ _ _ c.in_ok-byte.byte c.loop-at.invariant.digits (omega arith) (sym c.in_ok-byte.ensures.byte) c.if-byte-ne36.true c.in_default.ensures

pub returns-in_err-c-clause-unit : goal.returns-in_err-c-clause-unit
returns-in_err-c-clause-unit c =
    rw c.from_residual-in_err-c.ensures
    (digits_end _ _ _ _ _ None c.loop-at.invariant.digits (omega arith) (sym c.in_ok-byte.ensures.byte ∙ ap (λ b. Some b) c.if-byte-ne36.false) c.in_err-c.ensures)

pub returns-in_default-clause-unit : goal.returns-in_default-clause-unit
returns-in_default-clause-unit c =
    digits_end _ _ _ _ _ (Some (encode_utf8 c.in_ok-c.c)) c.loop-at.invariant.digits (omega arith) (sym c.in_ok-byte.ensures.byte ∙ ap (λ b. Some b) c.if-byte-ne36.false) c.in_ok-c.ensures

pub returns-then-code-gt1114111-clause-unit : goal.returns-then-code-gt1114111-clause-unit
returns-then-code-gt1114111-clause-unit c =
    too_large _ _ _ _ _ c.in_ok-byte.byte c.loop-at.invariant.digits (omega arith) (sym c.in_ok-byte.ensures.byte) c.in-Some.ensures.0 (omega (arith, c.in-Some.ensures))

pub loop-at-preserved : goal.loop-at-preserved
loop-at-preserved c = record {
  digits = next_digit _ _ _ _ _ c.in_ok-byte.byte _ c.in-Some.digit c.loop-at.invariant.digits (omega arith) c.in_ok-byte.ensures.byte c.in-Some.ensures.0 c.in-Some.ensures.1 (omega arith);
  small = omega arith;
  looked = omega arith;
}

pub returns-clause-unit : goal.returns-clause-unit
returns-clause-unit c = no_end _ _ _ _ _ c.loop-at.invariant.digits (omega arith)
