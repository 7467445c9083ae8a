use Rattle.std.proofs.Common.{arith}
use Rattle.demangle_c_string.proofs.write_text_counted.Goals as goal

pub returns-clause-past : goal.returns-clause-past
returns-clause-past c = λ past. omega (arith, past, c.in-Some.ensures.size, c.saturating_add.ensures)
