use Rattle.demangle_value.specs.Symbols.{unfolded}
use Rattle.demangle_value.proofs.PrintingLaws.{size-handed}
use Rattle.demangle_laws.proofs.printing.symbol_stays_within_limit.Goals as goal

pub returns : goal.returns
returns c = λ text hash limit. size-handed text (unfolded hash limit)
