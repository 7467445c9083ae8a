use Rattle.demangle_symbol.proofs.WordLaws.{namespace_law, integer_law, optional_law, backref_law, identifier_law, nibbles_law}
use Rattle.demangle_laws.proofs.v0_primitives.primitives_are_read_as_spelled.Goals as goal

pub returns-clause-namespace : goal.returns-clause-namespace
returns-clause-namespace c = λ s i j b. namespace_law s i j b

pub returns-clause-integer : goal.returns-clause-integer
returns-clause-integer c = λ s i j v. integer_law s i j v

pub returns-clause-optional : goal.returns-clause-optional
returns-clause-optional c = λ tag s i j v. optional_law tag s i j v

pub returns-clause-backref : goal.returns-clause-backref
returns-clause-backref c = λ s i j target. backref_law s i j target

pub returns-clause-identifier : goal.returns-clause-identifier
returns-clause-identifier c = λ s i j name. identifier_law s i j name

pub returns-clause-nibbles : goal.returns-clause-nibbles
returns-clause-nibbles c = λ s i j ns. nibbles_law s i j ns
