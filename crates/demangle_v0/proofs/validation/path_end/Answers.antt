use Rattle.std.proofs.Common.{arith, refl, [], ◌∙◌}
use Rattle.demangle_v0.proofs.WholePaths.{valid_first, first_place, first_allowed, over_value, over_looks, failed_value, failed_looks, full_inner, full_value, full_looks}
use Rattle.demangle_v0.proofs.validation.path_end.Goals as goal

pub read_steps-requires : goal.read_steps-requires
read_steps-requires c = record { valid = rw (c.start_path.ensures, c.requires.empty) (valid_first c.args.place) }

pub read_in_middle_stack-end-requires-clause-inner : goal.read_in_middle_stack-end-requires-clause-inner
read_in_middle_stack-end-requires-clause-inner c = full_inner (c.in-StackFull.ensures.reads [] [] (rw (c.start_path.ensures, c.requires.empty) refl) refl tt)

pub returns-in-Complete-clause-value : goal.returns-in-Complete-clause-value
returns-in-Complete-clause-value c = c.place.ensures ∙ (over_value (rw c.start_path.ensures at c.in-Complete.ensures.reads [] [] c.requires.empty refl tt) ∙ first_place c.args.parser.now.source.symbol.now c.args.parser.now.source.form c.args.place c.requires.whole)

pub returns-in-Complete-clause-looks : goal.returns-in-Complete-clause-looks
returns-in-Complete-clause-looks c = omega (arith, over_looks (rw c.start_path.ensures at c.in-Complete.ensures.reads [] [] c.requires.empty refl tt), first_allowed c.args.parser.now.source.symbol.now c.args.parser.now.source.form c.args.place c.requires.whole)

pub returns-in-StackFull-clause-value : goal.returns-in-StackFull-clause-value
returns-in-StackFull-clause-value c = (rw (c.in-StackFull.ensures.same.0, c.in-StackFull.ensures.same.1, c.start_path.ensures) at c.read_in_middle_stack-end.ensures.value) ∙ (full_value (rw c.start_path.ensures at c.in-StackFull.ensures.reads [] [] c.requires.empty refl tt) ∙ first_place c.args.parser.now.source.symbol.now c.args.parser.now.source.form c.args.place c.requires.whole)

pub returns-in-StackFull-clause-looks : goal.returns-in-StackFull-clause-looks
returns-in-StackFull-clause-looks c = omega (arith, full_looks (rw c.start_path.ensures at c.in-StackFull.ensures.reads [] [] c.requires.empty refl tt), first_allowed c.args.parser.now.source.symbol.now c.args.parser.now.source.form c.args.place c.requires.whole, rw (c.in-StackFull.ensures.same.0, c.in-StackFull.ensures.same.1, c.start_path.ensures) at c.read_in_middle_stack-end.ensures.looks)

pub returns-in-Failed-clause-value : goal.returns-in-Failed-clause-value
returns-in-Failed-clause-value c = failed_value (rw c.start_path.ensures at c.in-Failed.ensures.reads [] [] c.requires.empty refl tt) ∙ first_place c.args.parser.now.source.symbol.now c.args.parser.now.source.form c.args.place c.requires.whole

pub returns-in-Failed-clause-looks : goal.returns-in-Failed-clause-looks
returns-in-Failed-clause-looks c = omega (arith, failed_looks (rw c.start_path.ensures at c.in-Failed.ensures.reads [] [] c.requires.empty refl tt), first_allowed c.args.parser.now.source.symbol.now c.args.parser.now.source.form c.args.place c.requires.whole)

pub returns-in-Complete-clause-empty : goal.returns-in-Complete-clause-empty
returns-in-Complete-clause-empty c = λ _. (c.in-Complete.ensures.reads [] [] (rw (c.start_path.ensures, c.requires.empty) refl) refl tt).reads.0
