use Rattle.kodliwe_program.proofs.FilteringLemmas.{stopped_none}
use Rattle.kodliwe_program.proofs.filtering.filter_reader.Goals as goal

pub returns-in_default-clause-err : goal.returns-in_default-clause-err
returns-in_default-clause-err g c = stopped_none _ _ _
