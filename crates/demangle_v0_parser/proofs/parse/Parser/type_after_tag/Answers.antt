use Rattle.std.proofs.Common.{true, false, arith, refl}
use Rattle.demangle_v0_grammar.specs.Items.{a_type}
use Rattle.demangle_v0_parser.proofs.BackrefSteps.{unit_type}
use Rattle.demangle_v0_parser.proofs.Parsers.{advanced_rest}
use Rattle.demangle_v0_parser.proofs.StepCases.{alike}
use Rattle.demangle_v0_parser.proofs.parse.Parser.type_after_tag.Goals as goal

pub returns-in-SharedReference : goal.returns-in-SharedReference
returns-in-SharedReference g c = rw c.in-SharedReference.is (advanced_rest g.V.Output c.args.output.now _ 5 50 9 c.reference_type.ensures)

pub returns-in-MutReference : goal.returns-in-MutReference
returns-in-MutReference g c = rw c.in-MutReference.is
    (advanced_rest g.V.Output c.args.output.now _ 5 50 9 c.reference_type-in-MutReference.ensures)

pub returns-in-Tuple : goal.returns-in-Tuple
returns-in-Tuple g c = rw (c.in-Constructed.is, c.in-Tuple.is) (advanced_rest g.V.Output c.args.output.now _ 5 50 9 c.tuple_type.ensures)

pub returns-in-Backref : goal.returns-in-Backref
returns-in-Backref g c =
    let s = c.args.self.now.state in
    let d = c.follow_backref.ensures.performs true a_type false (unit_type c.args.self.now.source.symbol.now c.args.self.now.source.form s.in_value s.letter s.lifetimes) in
    rw (c.in-Constructed.is, c.in-Backref.is) (record { does = alike (omega arith) refl (omega arith) (omega arith) d.does; same = d.same })
