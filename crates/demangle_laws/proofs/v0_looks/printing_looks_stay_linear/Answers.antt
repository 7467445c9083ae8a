use Rattle.std.proofs.Common.{add-one}
use Rattle.demangle_v0_grammar.proofs.LooksLaw.{printing_looks, printing_pays, unit_looks, rendered_bytes}
use Rattle.demangle_laws.proofs.v0_looks.printing_looks_stay_linear.Goals as goal

pub returns-clause-printing : goal.returns-clause-printing
returns-clause-printing c = λ symbol form k. rw (add-one k) (printing_looks symbol form k)

pub returns-clause-within_budget : goal.returns-clause-within_budget
returns-clause-within_budget c = λ symbol form. printing_pays symbol form

pub returns-clause-unit : goal.returns-clause-unit
returns-clause-unit c = λ symbol form kind i depth lifetimes value k within deep. rw (add-one k) (unit_looks symbol form.fold_arguments form.include_hash kind i depth lifetimes value k within deep)

pub returns-clause-bytes : goal.returns-clause-bytes
returns-clause-bytes c = λ symbol form. rendered_bytes symbol form
