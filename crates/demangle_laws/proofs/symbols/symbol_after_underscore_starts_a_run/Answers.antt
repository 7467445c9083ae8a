use Rattle.demangle_laws.proofs.SchemeLaws.{symbol_begun}
use Rattle.demangle_laws.proofs.symbols.symbol_after_underscore_starts_a_run.Goals as goal

pub returns : goal.returns
returns c = symbol_begun
