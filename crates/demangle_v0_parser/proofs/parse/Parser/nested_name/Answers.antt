use Rattle.std.proofs.Common.{arith, refl, ◌∙◌}
use Rattle.demangle_v0_parser.specs.Traces.{trace_at}
use Rattle.demangle_v0_parser.specs.Parsers.{env_of}
use Rattle.demangle_v0_parser.specs.declared.Continuation.TheVariants as continuation
use Rattle.demangle_v0_tokens.specs.Tokens.{nested_group}
use Rattle.demangle_v0_tokens.specs.declared.token.Token.TheVariants.{NestedName}
use Rattle.demangle_v0_parser.proofs.StepErrors.{stops, stops_none}
use Rattle.demangle_v0_parser.proofs.PrimitiveLooks.{named_at, named_few}
use Rattle.demangle_v0_parser.proofs.StepCases.{ended, group_tells, group_stops, group_faults}
use Rattle.demangle_v0_parser.proofs.NameTexts.{nested_texts_same}
use Rattle.demangle_v0_parser.proofs.PathSteps.{nested_trace}
use Rattle.demangle_v0_parser.proofs.parse.Parser.nested_name.Goals as goal

pub returns-in_err-ident-clause-performs : goal.returns-in_err-ident-clause-performs
returns-in_err-ident-clause-performs g c =
    let named = rw c.in_err-ident.ensures.ok_part at c.name_at-named.ensures in
    let b = c.args.self.now.source.symbol.now in
    let at = c.in-Some.at in
    let s = c.args.self.now.state in
    record {
      does = rw (stops_none c.from_residual.result c.from_residual.ensures.1 c.in_err-ident.ensures.value
          c.in_err-ident.ensures.ok_part)
          (group_faults (nested_group b s.letter at) (omega (
            arith,
            named_few b at (λ a d. NestedName s.letter d
                a),
          )) ended _ (nested_trace (env_of g.V.Output c.args.self.now) s at c.in-Some.is)
          (named.none (λ a d. NestedName s.letter d a))
          (record { grows = omega arith; within = omega (arith, named.looks (λ a d. NestedName s.letter d a)) })
          (named_at _ b at (λ a d. NestedName s.letter d a) c.in-Some.is
          (omega (arith, named.looks (λ a d. NestedName s.letter d a)))) c.requires.can_step.no_pending_text (omega arith));
      same = (refl, refl, refl);
    }

pub returns-in_err-emit-clause-performs : goal.returns-in_err-emit-clause-performs
returns-in_err-emit-clause-performs g c =
    let named = rw c.in_ok-ident.ensures.ok_part at c.name_at-named.ensures in
    let b = c.args.self.now.source.symbol.now in
    let at = c.in-Some.at in
    let s = c.args.self.now.state in
    let e = c.in_err-emit.ensures in
    let name = named.some (λ a d. NestedName s.letter d a) in
    let same = nested_texts_same b c.args.self.now.source.form s.letter c.in_ok-ident.ident name.0
    c.in_ok-ident.number (λ special. name.1 (c.is_special-is_special.ensures ∙ special)) in
    rw e.parser (record {
      does = rw (stops c.from_residual-in_err-emit.result c.from_residual-in_err-emit.ensures.1 refl)
          (group_stops (nested_group b s.letter at) (omega (arith, named_few b at (λ a d. NestedName s.letter d a)))
          ended _ _ (nested_trace (env_of g.V.Output c.args.self.now) s at c.in-Some.is)
          name.2
          (record {
            grows = omega (arith, e.grows);
            within = omega (
              arith,
              named.looks (λ a d. NestedName s.letter d
                  a),
              e.most,
            );
          }) (named_at _ b at (λ a d. NestedName s.letter d a) c.in-Some.is
          (omega (arith, named.looks (λ a d. NestedName s.letter d a), e.most))) (rw same at e.prints) e.no_output);
      same = (refl, refl, refl);
    })

pub returns-clause-performs : goal.returns-clause-performs
unfolding trace_at
returns-clause-performs g c =
    let named = rw c.in_ok-ident.ensures.ok_part at c.name_at-named.ensures in
    let b = c.args.self.now.source.symbol.now in
    let at = c.in-Some.at in
    let s = c.args.self.now.state in
    let e = c.in_ok-emit.ensures in
    let name = named.some (λ a d. NestedName s.letter d a) in
    let same = nested_texts_same b c.args.self.now.source.form s.letter c.in_ok-ident.ident name.0
    c.in_ok-ident.number (λ special. name.1 (c.is_special-is_special.ensures ∙ special)) in
    rw e.parser (record {
      does = group_tells continuation.End (nested_group b s.letter at) (omega (
        arith,
        named_few b at (λ a d. NestedName
            s.letter d a),
      )) ended _ _ (nested_trace (env_of g.V.Output c.args.self.now) s at c.in-Some.is)
          name.2
          (record {
            grows = omega (arith, e.grows);
            within = omega (
              arith,
              named.looks (λ a d. NestedName s.letter d
                  a),
              e.most,
            );
          }) (named_at _ b at (λ a d. NestedName s.letter d a) c.in-Some.is
          (omega (arith, named.looks (λ a d. NestedName s.letter d a), e.most)))
          (rw same at e.prints) e.ready c.requires.can_step.no_pending_text refl (omega arith) (omega arith) tt;
      same = (refl, refl, refl);
    })
