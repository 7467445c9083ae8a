use Rattle.std.proofs.Common.{◌+◌, ◌-◌, Some, None, sym, ◌∙◌, arith, refl}
use Rattle.std.specs.Prelude.{codes}
use Rattle.demangle_legacy.proofs.LegacyUnits.{unit_there, unit_dots, unit_dot, unit_last_dot, unit_run, unit_no_run, one_byte, a_full_stop}
use Rattle.demangle_legacy.proofs.units.unit_at.Goals as goal
use Rattle.demangle_legacy.proofs.units.unit_at.Goals.{else-next-to-via-then-next-to+else-is_at, else-next-to-via-else-next-to}

pub returns-in_err-c-in-36-clause-unit : goal.returns-in_err-c-in-36-clause-unit
returns-in_err-c-in-36-clause-unit c =
    rw c.from_residual-in_err-c-in-36.ensures
    (unit_there c.args.symbol.now c.args.at c.in_ok-byte.field-0 36 _ None (sym c.in_ok-byte.ensures.byte) c.in-36.is (sym c.in_err-c-in-36.ensures.unit))

pub returns-in_err-special_in-in_default-clause-unit : goal.returns-in_err-special_in-in_default-clause-unit
returns-in_err-special_in-in_default-clause-unit c =
    rw c.from_residual-in_err-special_in-in_default.ensures
    (unit_there c.args.symbol.now c.args.at c.in_ok-byte.field-0 c.in_ok-byte.field-0 _ None (sym c.in_ok-byte.ensures.byte) refl
    (unit_no_run c.args.symbol.now c.args.at c.in_ok-byte.field-0 c.args.to (λ e. absurd (omega arith)) (λ e. absurd (omega arith)) c.in_err-special_in-in_default.ensures.first))

pub returns-then-is_at-clause-unit : goal.returns-then-is_at-clause-unit
returns-then-is_at-clause-unit c =
    one_byte 1 (c.args.at + 1 + 1 - (c.args.at + 1)) (codes "::") (omega arith)
    ∙ unit_there c.args.symbol.now c.args.at c.in_ok-byte.field-0 46 _ (Some (codes "::", 1)) (sym c.in_ok-byte.ensures.byte) c.in-46.is
    (unit_dots c.args.symbol.now (c.args.at + 1) c.args.to c.if-next-to.true (sym c.if-is_at.ensures.there))

pub returns-else-next-to-clause-unit : goal.returns-else-next-to-clause-unit
returns-else-next-to-clause-unit c =
    a_full_stop (c.args.at + 1 - (c.args.at + 1)) (omega arith)
    ∙ unit_there c.args.symbol.now c.args.at c.in_ok-byte.field-0 46 _ (Some (codes ".", 0)) (sym c.in_ok-byte.ensures.byte) c.in-46.is
    (elim c.else-next-to.branch [
      | else-next-to-via-then-next-to+else-is_at w ↦ unit_dot c.args.symbol.now (c.args.at + 1) c.args.to w.if-next-to.true (omega arith) (sym w.if-is_at.ensures.there)
      | else-next-to-via-else-next-to w ↦ unit_last_dot c.args.symbol.now (c.args.at + 1) c.args.to w.if-next-to.false
    ])

pub returns-in_ok-c-in-36-clause-unit : goal.returns-in_ok-c-in-36-clause-unit
returns-in_ok-c-in-36-clause-unit c =
    one_byte (c.in_ok-c-in-36.end - (c.args.at + 1) + 1) (c.in_ok-c-in-36.end + 1 - (c.args.at + 1)) _ (omega (arith, c.in_ok-c-in-36.ensures.within))
    ∙ unit_there c.args.symbol.now c.args.at c.in_ok-byte.field-0 36 _ _ (sym c.in_ok-byte.ensures.byte) c.in-36.is (sym c.in_ok-c-in-36.ensures.unit)

pub returns-in_ok-special_in-in_default-clause-unit : goal.returns-in_ok-special_in-in_default-clause-unit
returns-in_ok-special_in-in_default-clause-unit c =
    let end = c.in_ok-special_in-in_default.field-0 in
    unit_there c.args.symbol.now c.args.at c.in_ok-byte.field-0 c.in_ok-byte.field-0 _ _ (sym c.in_ok-byte.ensures.byte) refl
    (unit_run c.args.symbol.now c.args.at c.in_ok-byte.field-0 end c.args.to (sym c.in_ok-byte.ensures.byte) (λ e. absurd (omega arith)) (λ e. absurd (omega arith)) c.in_ok-special_in-in_default.ensures.within.0 c.in_ok-special_in-in_default.ensures.within.1 c.in_ok-special_in-in_default.ensures.first)
