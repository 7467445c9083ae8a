use Rattle.demangle_value.specs.Symbols.{unfolded}
use Rattle.demangle_laws.proofs.SchemeLaws.{legacy-handed, legacy-kept}
use Rattle.demangle_laws.proofs.symbols.legacy_symbol_prints_its_elements.Goals as goal

pub returns : goal.returns
returns c = record {
  handed = λ text elements suffix hash limit. legacy-handed text elements suffix (unfolded hash limit);
  kept = λ text elements suffix hash limit. legacy-kept text elements suffix (unfolded hash limit);
}
