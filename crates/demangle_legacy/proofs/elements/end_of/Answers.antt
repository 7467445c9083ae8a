use Rattle.std.proofs.Common.{◌∙◌, sym, arith}
use Rattle.demangle_legacy.proofs.LegacyElements.{after_more, suffix_there, suffix_none}
use Rattle.demangle_legacy.proofs.elements.end_of.Goals as goal

pub loop-element-preserved : goal.loop-element-preserved
loop-element-preserved c = record {
  inside = omega (arith, c.in-Some.ensures.within);
  same = c.loop-element.invariant.same ∙ after_more c.args.symbol.now c.loop-element.at _ _ (sym c.in-Some.ensures.element);
  grows = omega arith;
  looked = omega (arith, c.in-Some.ensures.within, c.in-Some.ensures.some_looks);
}

pub returns-then-is_at-clause-end : goal.returns-then-is_at-clause-end
returns-then-is_at-clause-end c = sym (suffix_there c.args.symbol.now c.loop-element.at c.loop-element.invariant.same (sym c.in_default.ensures.element) (sym c.if-is_at.ensures.there))

pub returns-else-is_at-clause-end : goal.returns-else-is_at-clause-end
returns-else-is_at-clause-end c = sym (suffix_none c.args.symbol.now c.loop-element.at c.loop-element.invariant.same (sym c.in_default.ensures.element) (sym c.if-is_at.ensures.there))
