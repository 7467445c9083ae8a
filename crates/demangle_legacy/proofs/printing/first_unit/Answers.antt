use Rattle.std.proofs.Common.{sym, arith, inl, inr}
use Rattle.demangle_legacy.proofs.LegacyUnits.{first_after, first_short, first_plain}
use Rattle.demangle_legacy.proofs.printing.first_unit.Goals as goal
use Rattle.demangle_legacy.proofs.printing.first_unit.Goals.{else-element-ge2-via-then-element-ge2+then-is_at+else-is_at-2, else-element-ge2-via-then-element-ge2+else-is_at, else-element-ge2-via-else-element-ge2}

pub returns-then-is_at-2-clause-units : goal.returns-then-is_at-2-clause-units
returns-then-is_at-2-clause-units c =
    first_after c.args.symbol.now c.args.element.from c.args.element.to (omega arith) (sym c.if-is_at.ensures.there) (sym c.if-is_at-2.ensures.there)

pub returns-else-element-ge2-clause-units : goal.returns-else-element-ge2-clause-units
returns-else-element-ge2-clause-units c =
    elim c.else-element-ge2.branch [
      | else-element-ge2-via-then-element-ge2+then-is_at+else-is_at-2 w ↦ first_plain c.args.symbol.now c.args.element.from c.args.element.to (omega arith) (omega arith) (inr (sym w.if-is_at-2.ensures.there))
      | else-element-ge2-via-then-element-ge2+else-is_at w ↦ first_plain c.args.symbol.now c.args.element.from c.args.element.to (omega arith) (omega arith) (inl (sym w.if-is_at.ensures.there))
      | else-element-ge2-via-else-element-ge2 w ↦ first_short c.args.symbol.now c.args.element.from c.args.element.to (omega arith) (omega arith)
    ]
