use Rattle.demangle_laws.proofs.FilterLaws.{filtered_is}
use Rattle.demangle_laws.proofs.filtering.filtered_is_the_only_text.Goals as goal

pub returns : goal.returns
returns c hash line out = filtered_is hash line out
