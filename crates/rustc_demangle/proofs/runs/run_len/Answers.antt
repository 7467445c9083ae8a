use Rattle.std.proofs.Common.{arith, sym, ◌∙◌}
use Rattle.std.proofs.lemmas.List.Sums.{prefix_len_is}
use Rattle.demangle_value.specs.Filtered.{is_run_byte}
use Rattle.rustc_demangle.proofs.runs.run_len.Goals as goal

pub returns-else-is_run_byte : goal.returns-else-is_run_byte
returns-else-is_run_byte c =
    sym (prefix_len_is is_run_byte c.args.text.now c.loop-at.at 0 c.loop-at.invariant.0 c.loop-at.invariant.1 (λ _. sym c.is_run_byte.ensures ∙ c.if-is_run_byte.false))

pub returns-after-loop-at : goal.returns-after-loop-at
returns-after-loop-at c =
    sym (prefix_len_is is_run_byte c.args.text.now c.loop-at.at 0 c.loop-at.invariant.0 c.loop-at.invariant.1 (λ lt. absurd (omega arith)))
