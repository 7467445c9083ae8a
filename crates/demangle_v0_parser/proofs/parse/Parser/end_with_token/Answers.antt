use Rattle.std.proofs.Common.{arith, refl}
use Rattle.demangle_v0_parser.proofs.StepErrors.{stops}
use Rattle.demangle_v0_parser.proofs.StepCases.{token_ends, token_stops, token_faults}
use Rattle.demangle_v0_parser.proofs.PrimitiveLooks.{group_tight}
use Rattle.demangle_v0_parser.proofs.parse.Parser.end_with_token.Goals as goal

pub returns-in_err-emit-in-Parsed-clause-performs : goal.returns-in_err-emit-in-Parsed-clause-performs
returns-in_err-emit-in-Parsed-clause-performs g c =
    let e = c.in_err-emit-in-Parsed.ensures in
    let own_looks = group_tight c.args.self.now.source.symbol.now c.args.token_kind c.args.self.now.state.letter g.V.Output.is_printed
    c.args.self.now.state.lifetimes c.args.self.now.state.place in
    rw (e.parser, c.token_at.ensures.parser) (record {
      does = rw (stops c.from_residual.result c.from_residual.ensures.1 refl)
          (token_stops c.args.token_kind _ _ c.in-Parsed.ensures.value
          (record {
            grows = omega (arith, c.in-Parsed.ensures.grows, e.grows);
            within = omega
                (arith, c.in-Parsed.ensures.looks, e.most);
          }) (rw c.token_at.ensures.parser at e.prints) e.no_output);
      same = (refl, refl, refl);
    })

pub returns-in_err-emit-in-Parsed-clause-own_looks : goal.returns-in_err-emit-in-Parsed-clause-own_looks
returns-in_err-emit-in-Parsed-clause-own_looks g c =
    let e = c.in_err-emit-in-Parsed.ensures in
    let own_looks = group_tight c.args.self.now.source.symbol.now c.args.token_kind c.args.self.now.state.letter g.V.Output.is_printed
    c.args.self.now.state.lifetimes c.args.self.now.state.place in
    omega (arith, c.in-Parsed.ensures.looks, e.most, own_looks)

pub returns-in-NotParsed-clause-performs : goal.returns-in-NotParsed-clause-performs
returns-in-NotParsed-clause-performs g c =
    let own_looks = group_tight c.args.self.now.source.symbol.now c.args.token_kind c.args.self.now.state.letter g.V.Output.is_printed
    c.args.self.now.state.lifetimes c.args.self.now.state.place in
    rw c.token_at.ensures.parser (record {
      does = token_faults c.args.token_kind _ c.in-NotParsed.ensures.value (record {
        grows = c.in-NotParsed.ensures.grows;
        within = omega (arith, c.in-NotParsed.ensures.looks);
      }) c.requires.can_step.no_pending_text;
      same = (refl, refl, refl);
    })

pub returns-in-NotParsed-clause-own_looks : goal.returns-in-NotParsed-clause-own_looks
returns-in-NotParsed-clause-own_looks g c =
    let own_looks = group_tight c.args.self.now.source.symbol.now c.args.token_kind c.args.self.now.state.letter g.V.Output.is_printed
    c.args.self.now.state.lifetimes c.args.self.now.state.place in
    rw c.token_at.ensures.parser (omega (arith, c.in-NotParsed.ensures.looks, own_looks))

pub returns-in_ok-emit-in-Parsed-clause-performs : goal.returns-in_ok-emit-in-Parsed-clause-performs
returns-in_ok-emit-in-Parsed-clause-performs g c =
    let e = c.in_ok-emit-in-Parsed.ensures in
    let own_looks = group_tight c.args.self.now.source.symbol.now c.args.token_kind c.args.self.now.state.letter g.V.Output.is_printed
    c.args.self.now.state.lifetimes c.args.self.now.state.place in
    rw (e.parser, c.token_at.ensures.parser) (record {
      does = token_ends c.args.token_kind _ _ c.in-Parsed.ensures.value
          (record {
            grows = omega (arith, c.in-Parsed.ensures.grows, e.grows);
            within = omega
                (arith, c.in-Parsed.ensures.looks, e.most);
          }) (rw c.token_at.ensures.parser at e.prints) e.ready
          c.requires.can_step.no_pending_text;
      same = (refl, refl, refl);
    })

pub returns-in_ok-emit-in-Parsed-clause-own_looks : goal.returns-in_ok-emit-in-Parsed-clause-own_looks
returns-in_ok-emit-in-Parsed-clause-own_looks g c =
    let e = c.in_ok-emit-in-Parsed.ensures in
    let own_looks = group_tight c.args.self.now.source.symbol.now c.args.token_kind c.args.self.now.state.letter g.V.Output.is_printed
    c.args.self.now.state.lifetimes c.args.self.now.state.place in
    omega (arith, c.in-Parsed.ensures.looks, e.most, own_looks)
