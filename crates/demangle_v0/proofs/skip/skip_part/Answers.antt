use Rattle.demangle_v0.proofs.SkipSteps.{skip_begins}
use Rattle.demangle_v0.proofs.skip.skip_part.Goals as goal

pub finish_skip-left-requires : goal.finish_skip-left-requires
finish_skip-left-requires c = record { valid = rw c.skipped_continuation-parser.ensures (skip_begins c.args.parser.now _ c.requires.skipped c.len-base.ensures c.requires.valid) }
