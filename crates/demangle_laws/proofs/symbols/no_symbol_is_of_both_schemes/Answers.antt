use Rattle.demangle_laws.proofs.SchemeLaws.{one-scheme}
use Rattle.demangle_laws.proofs.symbols.no_symbol_is_of_both_schemes.Goals as goal

pub returns : goal.returns
returns c = one-scheme
