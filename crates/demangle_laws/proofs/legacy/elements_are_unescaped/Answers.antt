use Rattle.demangle_legacy.proofs.LegacyUnescaping.{unescaped_read, unescaped_once}
use Rattle.demangle_laws.proofs.legacy.elements_are_unescaped.Goals as goal

pub returns : goal.returns
returns c = record { read = unescaped_read; once = unescaped_once }
