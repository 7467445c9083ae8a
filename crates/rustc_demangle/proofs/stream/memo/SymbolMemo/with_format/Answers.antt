use Rattle.demangle_value.specs.Filtered.{replacement_in}
use Rattle.rustc_demangle.proofs.stream.memo.SymbolMemo.with_format.Goals as goal

pub invariant_of-result : goal.invariant_of-result
invariant_of-result c = (c.new.ensures.remembers (replacement_in c.args.format), c.new.ensures.small)
