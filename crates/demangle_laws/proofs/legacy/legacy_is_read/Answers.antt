use Rattle.demangle_legacy.proofs.LegacyLaws.{legacy_read, legacy_spelled, legacy_once}
use Rattle.demangle_laws.proofs.legacy.legacy_is_read.Goals as goal

pub returns : goal.returns
returns c = record { read = legacy_read; spelled = legacy_spelled; once = legacy_once }
