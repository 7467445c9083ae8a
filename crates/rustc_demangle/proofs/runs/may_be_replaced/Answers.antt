use Rattle.std.proofs.Common.{◌∙◌, sym}
use Rattle.rustc_demangle.proofs.PathTags.{kept_run, kept_underscored_run}
use Rattle.rustc_demangle.proofs.runs.may_be_replaced.Goals as goal

pub returns-then-candidate-eq82-clause-kept : goal.returns-then-candidate-eq82-clause-kept
returns-then-candidate-eq82-clause-kept c = λ none format. kept_run format c.args.candidate.now c.if-candidate-lt3.false c.if-candidate-eq82.true (sym c.begins_longer_path.ensures ∙ none)

pub returns-then-candidate-clause-kept : goal.returns-then-candidate-clause-kept
returns-then-candidate-clause-kept c = λ none format.
    kept_underscored_run format c.args.candidate.now c.if-candidate-gt3.true c.if-candidate.true (sym c.begins_longer_path-then-candidate.ensures ∙ none)
