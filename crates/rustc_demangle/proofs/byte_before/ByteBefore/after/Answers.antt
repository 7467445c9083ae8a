use Rattle.std.proofs.Common.{sym, ◌∙◌, rules}
use Rattle.rustc_demangle.proofs.CandidateLemmas.{last_before}
use Rattle.rustc_demangle.proofs.byte_before.ByteBefore.after.Goals as goal

pub returns-else-is_empty : goal.returns-else-is_empty
returns-else-is_empty c = c.of.ensures ∙ sym (last_before c.args.self c.args.text.now (search rules))
