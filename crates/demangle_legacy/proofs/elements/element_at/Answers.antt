use Rattle.std.proofs.Common.{sym, arith}
use Rattle.demangle_legacy.proofs.LegacyElements.{element_there, element_past, element_none}
use Rattle.demangle_legacy.proofs.elements.element_at.Goals as goal

pub returns-in_default-clause-element : goal.returns-in_default-clause-element
returns-in_default-clause-element c = sym (element_none c.args.symbol.now c.args.at (omega arith) c.in_default.ensures.none)

pub returns-then-len-end-clause-element : goal.returns-then-len-end-clause-element
returns-then-len-end-clause-element c = sym (element_past c.args.symbol.now c.args.at _ _ c.in-Some.ensures.some (omega arith))

pub returns-clause-element : goal.returns-clause-element
returns-clause-element c = sym (element_there c.args.symbol.now c.args.at _ _ c.in-Some.ensures.some (omega arith))
