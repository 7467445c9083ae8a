use Rattle.rustc_demangle.proofs.OutputLaws.{rewritten_linear}
use Rattle.demangle_laws.proofs.filtering.output_is_linear.Goals as goal

pub returns : goal.returns
returns c = rewritten_linear
