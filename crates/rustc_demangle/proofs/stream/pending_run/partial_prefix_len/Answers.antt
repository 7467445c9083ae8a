use Rattle.demangle_value.proofs.RunStarts.{uncut_one, uncut_two, uncut_none}
use Rattle.rustc_demangle.proofs.stream.pending_run.partial_prefix_len.Goals as goal

pub returns-then-ends_with-clause-uncut : goal.returns-then-ends_with-clause-uncut
returns-then-ends_with-clause-uncut c = uncut_one c.args.text.now c.if-ends_with.ensures.value

pub returns-then-ends_with-2-clause-uncut : goal.returns-then-ends_with-2-clause-uncut
returns-then-ends_with-2-clause-uncut c = uncut_two c.args.text.now

pub returns-else-ends_with-2-clause-uncut : goal.returns-else-ends_with-2-clause-uncut
returns-else-ends_with-2-clause-uncut c = uncut_none c.args.text.now c.if-ends_with.ensures.value c.if-ends_with-2.ensures.value
