use Rattle.demangle_value.proofs.RunStarts.{run_utf8}
use Rattle.rustc_demangle.proofs.runs.run_text.Goals as goal

pub from_utf8_unchecked-requires : goal.from_utf8_unchecked-requires
from_utf8_unchecked-requires c = run_utf8 c.args.run.now c.requires
