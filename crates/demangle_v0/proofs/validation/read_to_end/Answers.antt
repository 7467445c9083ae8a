use Rattle.std.proofs.Common.{refl, [], ◌∙◌, arith}
use Rattle.demangle_v0.proofs.WholePaths.{over_value, over_looks, failed_value, failed_looks, full_inner, full_value, full_looks}
use Rattle.demangle_v0.proofs.validation.read_to_end.Goals as goal

pub returns-in-Complete-clause-value : goal.returns-in-Complete-clause-value
returns-in-Complete-clause-value c = c.place.ensures ∙ over_value (c.in-Complete.ensures.reads [] c.args.parser.now.stack.frames refl refl c.requires.inner)

pub returns-in-Complete-clause-looks : goal.returns-in-Complete-clause-looks
returns-in-Complete-clause-looks c = over_looks (c.in-Complete.ensures.reads [] c.args.parser.now.stack.frames refl refl c.requires.inner)

pub read_in_full_stack-requires-clause-inner : goal.read_in_full_stack-requires-clause-inner
read_in_full_stack-requires-clause-inner c = full_inner (c.in-StackFull.ensures.reads [] c.args.parser.now.stack.frames refl refl c.requires.inner)

pub returns-in-StackFull-clause-value : goal.returns-in-StackFull-clause-value
returns-in-StackFull-clause-value c = (rw (c.in-StackFull.ensures.same.0, c.in-StackFull.ensures.same.1) at c.read_in_full_stack.ensures.value) ∙ full_value (c.in-StackFull.ensures.reads [] c.args.parser.now.stack.frames refl refl c.requires.inner)

pub returns-in-StackFull-clause-looks : goal.returns-in-StackFull-clause-looks
returns-in-StackFull-clause-looks c = omega (arith, full_looks (c.in-StackFull.ensures.reads [] c.args.parser.now.stack.frames refl refl c.requires.inner), rw (c.in-StackFull.ensures.same.0, c.in-StackFull.ensures.same.1) at c.read_in_full_stack.ensures.looks)

pub returns-in-Failed-clause-value : goal.returns-in-Failed-clause-value
returns-in-Failed-clause-value c = failed_value (c.in-Failed.ensures.reads [] c.args.parser.now.stack.frames refl refl c.requires.inner)

pub returns-in-Failed-clause-looks : goal.returns-in-Failed-clause-looks
returns-in-Failed-clause-looks c = failed_looks (c.in-Failed.ensures.reads [] c.args.parser.now.stack.frames refl refl c.requires.inner)
