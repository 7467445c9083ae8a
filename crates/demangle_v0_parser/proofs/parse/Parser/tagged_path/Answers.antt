use Rattle.std.proofs.Common.{true, arith, refl}
use Rattle.demangle_v0_grammar.specs.Items.{a_path}
use Rattle.demangle_v0_parser.specs.Traces.{trace_at}
use Rattle.demangle_v0_tokens.specs.declared.tags.PathKind.TheVariants as kind
use Rattle.demangle_v0_parser.specs.declared.Continuation.TheVariants as continuation
use Rattle.demangle_v0_parser.proofs.StepErrors.{stops_none}
use Rattle.demangle_v0_parser.proofs.Parsers.{advanced, advanced_rest}
use Rattle.demangle_v0_parser.proofs.PathSteps.{path_wrong, path_as, tag_of_nested}
use Rattle.demangle_v0_parser.proofs.BackrefSteps.{unit_path}
use Rattle.demangle_v0_parser.proofs.parse.Parser.tagged_path.Goals as goal

pub returns-in_err-kind : goal.returns-in_err-kind
returns-in_err-kind g c = record {
  does = rw (stops_none c.from_residual.result
      c.from_residual.ensures.1 c.in_err-kind.ensures.value c.in_err-kind.ensures.ok_part) (path_wrong c.args.tag
      (rw c.in_err-kind.ensures.ok_part at c.path_kind.ensures) c.requires.can_step.no_pending_text);
  same = (refl, refl, refl);
}

pub returns-in-CrateRoot : goal.returns-in-CrateRoot
returns-in-CrateRoot g c =
    let d = c.crate_name.ensures.performs in
    record {
      does = path_as c.args.tag kind.CrateRoot (rw (
        c.in_ok-kind.ensures.ok_part,
        c.in-CrateRoot.is,
      ) at c.path_kind.ensures) (omega arith) (omega arith) (omega arith) d.does;
      same = d.same;
    }

pub returns-in-NestedName : goal.returns-in-NestedName
returns-in-NestedName g c =
    absurd (c.requires.not_nested (tag_of_nested c.args.tag (rw (c.in_ok-kind.ensures.ok_part, c.in-NestedName.is) at c.path_kind.ensures)))

pub returns-in-Generic : goal.returns-in-Generic
returns-in-Generic g c =
    let d = advanced_rest g.V.Output c.args.output.now _ 6 8 9 c.generic_path.ensures in
    record {
      does = path_as c.args.tag kind.Generic (rw (c.in_ok-kind.ensures.ok_part, c.in-Generic.is)
          at c.path_kind.ensures) (omega arith) (omega arith) (omega arith) d.does;
      same = d.same;
    }

pub returns-in-Backref : goal.returns-in-Backref
returns-in-Backref g c =
    let s = c.args.self.now.state in
    let d = c.follow_backref.ensures.performs true a_path s.in_value (unit_path c.args.self.now.source.symbol.now
    c.args.self.now.source.form s.in_value s.letter s.lifetimes) in
    record {
      does = path_as c.args.tag kind.Backref (rw (
        c.in_ok-kind.ensures.ok_part,
        c.in-Backref.is,
      ) at c.path_kind.ensures) (omega arith) (omega arith) (omega arith) d.does;
      same = d.same;
    }

pub returns-in-InherentImpl : goal.returns-in-InherentImpl
returns-in-InherentImpl g c =
    let d = advanced_rest g.V.Output c.args.output.now _ 6 1 2 c.impl_disambiguator.ensures in
    record {
      does = path_as c.args.tag kind.InherentImpl (rw (
        c.in_ok-kind.ensures.ok_part,
        c.in-InherentImpl.is,
      ) at c.path_kind.ensures) (omega arith) (omega arith) (omega arith) d.does;
      same = d.same;
    }

pub returns-in-TraitImpl : goal.returns-in-TraitImpl
returns-in-TraitImpl g c =
    let d = advanced_rest g.V.Output c.args.output.now _ 6 1 2 c.impl_disambiguator-in-TraitImpl.ensures in
    record {
      does = path_as c.args.tag kind.TraitImpl (rw (
        c.in_ok-kind.ensures.ok_part,
        c.in-TraitImpl.is,
      ) at c.path_kind.ensures) (omega arith) (omega arith) (omega arith) d.does;
      same = d.same;
    }

pub returns-in-TraitDefinition : goal.returns-in-TraitDefinition
unfolding trace_at
returns-in-TraitDefinition g c =
    let d = advanced g.V.Output c.args.output.now continuation.TraitSelfType c.self_type.ensures in
    record {
      does = path_as c.args.tag kind.TraitDefinition (rw (
        c.in_ok-kind.ensures.ok_part,
        c.in-TraitDefinition.is,
      ) at c.path_kind.ensures) (omega arith) (omega arith) (omega arith) d.does;
      same = d.same;
    }
