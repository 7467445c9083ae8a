use Rattle.demangle_c_string.proofs.write_folded_text.Goals as goal

pub returns-clause-past : goal.returns-clause-past
returns-clause-past c = rw c.text_format.ensures at c.write_text_counted.ensures.past
