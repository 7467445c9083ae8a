use Rattle.demangle_symbol.proofs.NameLaws.{decoded_deltas}
use Rattle.demangle_laws.proofs.names.deltas_are_small.Goals as goal

pub returns : goal.returns
returns c = decoded_deltas
