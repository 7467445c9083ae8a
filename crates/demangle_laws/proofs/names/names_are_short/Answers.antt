use Rattle.demangle_symbol.proofs.NameLaws.{decoded_few}
use Rattle.demangle_laws.proofs.names.names_are_short.Goals as goal

pub returns : goal.returns
returns c = decoded_few
