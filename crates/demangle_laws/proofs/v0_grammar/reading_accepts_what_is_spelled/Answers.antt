use Rattle.demangle_v0_grammar.proofs.ParsedIffSpelled.{accepted_is_spelled}
use Rattle.demangle_v0_grammar.proofs.V0Reading.{reading_is_v0}
use Rattle.demangle_laws.proofs.v0_grammar.reading_accepts_what_is_spelled.Goals as goal

pub returns-clause-symbol : goal.returns-clause-symbol
returns-clause-symbol c = λ inner k. accepted_is_spelled inner k

pub returns-clause-whole : goal.returns-clause-whole
returns-clause-whole c = λ symbol inner suffix. reading_is_v0 symbol inner suffix
