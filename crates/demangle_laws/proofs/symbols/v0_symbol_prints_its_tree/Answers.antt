use Rattle.demangle_laws.proofs.TreeTexts.{tree-handed, tree-kept}
use Rattle.demangle_laws.proofs.symbols.v0_symbol_prints_its_tree.Goals as goal

pub returns : goal.returns
returns c = record { handed = tree-handed; kept = tree-kept }
