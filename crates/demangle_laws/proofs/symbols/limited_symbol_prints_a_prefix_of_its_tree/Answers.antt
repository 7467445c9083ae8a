use Rattle.demangle_laws.proofs.TreeTexts.{all-texts, cut-handed, texts-start, whole-handed}
use Rattle.demangle_laws.proofs.symbols.limited_symbol_prints_a_prefix_of_its_tree.Goals as goal

pub returns : goal.returns
returns c = record { texts = texts-start; all = all-texts; whole = whole-handed; cut = cut-handed }
