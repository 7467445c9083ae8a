use Rattle.demangle_laws.proofs.SchemeLaws.{legacy-handed, v0-handed}
use Rattle.demangle_laws.proofs.TreeTexts.{unlimited-handed}
use Rattle.demangle_laws.proofs.symbols.each_format_prints_the_same_symbols.Goals as goal

pub returns-clause-legacy : goal.returns-clause-legacy
returns-clause-legacy c = legacy-handed

pub returns-clause-v0 : goal.returns-clause-v0
returns-clause-v0 c = v0-handed

pub returns-clause-unlimited : goal.returns-clause-unlimited
returns-clause-unlimited c = unlimited-handed
