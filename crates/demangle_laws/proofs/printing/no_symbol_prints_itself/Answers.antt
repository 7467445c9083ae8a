use Rattle.demangle_value.specs.Symbols.{unfolded}
use Rattle.demangle_value.proofs.PrintingLaws.{handed-no_symbol, kept-no_symbol}
use Rattle.demangle_laws.proofs.printing.no_symbol_prints_itself.Goals as goal

pub returns : goal.returns
returns c = record {
  handed = λ text none hash limit. handed-no_symbol text none (unfolded hash limit);
  kept = λ text none hash limit. kept-no_symbol text none (unfolded hash limit);
}
