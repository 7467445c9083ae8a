use Rattle.demangle_v0_grammar.proofs.AgainLaw.{looks_again, looks_led_back}
use Rattle.demangle_laws.proofs.v0_looks.looks_grow_with_what_is_read.Goals as goal

pub returns-clause-read : goal.returns-clause-read
returns-clause-read c = λ symbol folds printed kind i depth lifetimes value within. looks_again symbol folds printed kind i depth lifetimes value within

pub returns-clause-only_back : goal.returns-clause-only_back
returns-clause-only_back c = λ symbol folds printed kind i depth lifetimes value within only. looks_led_back symbol folds printed kind i depth lifetimes value within only
