use Rattle.std.proofs.Common.{arith, refl}
use Rattle.demangle_v0_parser.specs.Traces.{trace_at}
use Rattle.demangle_v0_parser.specs.Parsers.{env_of}
use Rattle.demangle_v0_grammar.specs.Reading.{parse}
use Rattle.demangle_v0_parser.specs.declared.Continuation.TheVariants as continuation
use Rattle.demangle_v0_tokens.specs.Tokens.{crate_group}
use Rattle.demangle_v0_tokens.specs.declared.token.Token.TheVariants.{CrateName}
use Rattle.demangle_v0_parser.proofs.StepErrors.{stops, stops_none}
use Rattle.demangle_v0_parser.proofs.PrimitiveLooks.{named_at, named_few}
use Rattle.demangle_v0_parser.proofs.StepCases.{ended, after_error, group_tells, group_stops, group_faults}
use Rattle.demangle_v0_parser.proofs.NameTexts.{crate_texts_same}
use Rattle.demangle_v0_parser.proofs.PathSteps.{crate_trace}
use Rattle.demangle_v0_parser.proofs.parse.Parser.crate_name.Goals as goal

pub returns-in_err-at-clause-performs : goal.returns-in_err-at-clause-performs
unfolding parse
returns-in_err-at-clause-performs g c = record {
  does = rw (stops c.from_residual.result c.from_residual.ensures.1 c.in_err-at.ensures.failed.1)
      (after_error c.requires.can_step.no_pending_text (rw c.in_err-at.ensures.failed.0 refl) (omega arith));
  same = (refl, refl, refl);
}

pub returns-in_err-name-clause-performs : goal.returns-in_err-name-clause-performs
returns-in_err-name-clause-performs g c =
    let named = rw c.in_err-name.ensures.ok_part at c.name_at-named.ensures in
    let b = c.args.self.now.source.symbol.now in
    let at = c.in_ok-at.at in
    record {
      does = rw (stops_none c.from_residual-in_err-name.result c.from_residual-in_err-name.ensures.1
          c.in_err-name.ensures.value c.in_err-name.ensures.ok_part)
          (group_faults (crate_group b at) (omega (arith, named_few b at CrateName)) ended _
          (crate_trace (env_of g.V.Output c.args.self.now) c.args.self.now.state at c.in_ok-at.ensures.ok)
          (named.none CrateName)
          (record { grows = omega arith; within = omega (arith, named.looks CrateName) }) (named_at _ b at CrateName
          c.in_ok-at.ensures.ok (omega (arith, named.looks CrateName))) c.requires.can_step.no_pending_text (omega arith));
      same = (refl, refl, refl);
    }

pub returns-in_err-emit-clause-performs : goal.returns-in_err-emit-clause-performs
returns-in_err-emit-clause-performs g c =
    let named = rw c.in_ok-name.ensures.ok_part at c.name_at-named.ensures in
    let b = c.args.self.now.source.symbol.now in
    let at = c.in_ok-at.at in
    let e = c.in_err-emit.ensures in
    let name = named.some CrateName in
    let same = crate_texts_same b c.args.self.now.source.form c.in_ok-name.name name.0
    c.in_ok-name.number name.1 in
    rw e.parser (record {
      does = rw (stops c.from_residual-in_err-emit.result c.from_residual-in_err-emit.ensures.1 refl)
          (group_stops (crate_group b at) (omega (arith, named_few b at CrateName)) ended _ _
          (crate_trace (env_of g.V.Output c.args.self.now) c.args.self.now.state at c.in_ok-at.ensures.ok)
          name.2
          (record { grows = omega (arith, e.grows); within = omega (arith, named.looks CrateName, e.most) })
          (named_at _ b at CrateName c.in_ok-at.ensures.ok (omega (arith, named.looks CrateName, e.most)))
          (rw same at e.prints) e.no_output);
      same = (refl, refl, refl);
    })

pub returns-clause-performs : goal.returns-clause-performs
unfolding trace_at
returns-clause-performs g c =
    let named = rw c.in_ok-name.ensures.ok_part at c.name_at-named.ensures in
    let b = c.args.self.now.source.symbol.now in
    let at = c.in_ok-at.at in
    let e = c.in_ok-emit.ensures in
    let name = named.some CrateName in
    let same = crate_texts_same b c.args.self.now.source.form c.in_ok-name.name name.0
    c.in_ok-name.number name.1 in
    rw e.parser (record {
      does = group_tells continuation.End (crate_group b at) (omega (arith, named_few b at CrateName)) ended _ _
          (crate_trace (env_of g.V.Output c.args.self.now) c.args.self.now.state at c.in_ok-at.ensures.ok)
          name.2
          (record { grows = omega (arith, e.grows); within = omega (arith, named.looks CrateName, e.most) })
          (named_at _ b at CrateName c.in_ok-at.ensures.ok (omega (arith, named.looks CrateName, e.most)))
          (rw same at e.prints) e.ready c.requires.can_step.no_pending_text refl (omega arith) (omega arith) tt;
      same = (refl, refl, refl);
    })
