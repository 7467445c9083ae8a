use Rattle.std.proofs.Common.{arith, refl}
use Rattle.demangle_v0_parser.specs.Traces.{trace_at}
use Rattle.demangle_v0_parser.specs.declared.Continuation.TheVariants as continuation
use Rattle.demangle_v0_tokens.specs.declared.token.TokenKind.TheVariants as token_kind
use Rattle.demangle_v0_parser.proofs.StepErrors.{stops}
use Rattle.demangle_v0_parser.proofs.Parsers.{advanced}
use Rattle.demangle_v0_grammar.specs.Table.{parameters}
use Rattle.demangle_v0_parser.proofs.StepCases.{token_continues, token_bare, token_refuses, word_stops}
use Rattle.demangle_v0_parser.proofs.PrimitiveLooks.{group_tight, own_more}
use Rattle.demangle_v0_parser.proofs.parse.Parser.function_qualifiers.Goals as goal

pub returns-then-has_no_qualifiers-clause-performs : goal.returns-then-has_no_qualifiers-clause-performs
unfolding trace_at
returns-then-has_no_qualifiers-clause-performs g c =
    let m = c.args.self.now in
    let tight = group_tight m.source.symbol.now token_kind.FunctionQualifiers m.state.letter g.V.Output.is_printed m.state.lifetimes
    m.state.place in
    let d = advanced g.V.Output c.args.output.now continuation.OpenParameters
    (rw c.token_at.ensures.parser at c.queue_text.ensures.performs) in
    record {
      does = token_bare (omega arith) token_kind.FunctionQualifiers parameters _ _ c.in-Parsed.ensures.value
          (c.has_no_qualifiers.ensures c.if-has_no_qualifiers.true m.source.symbol.now m.source.form)
          (record { grows = c.in-Parsed.ensures.grows; within = omega (arith, c.in-Parsed.ensures.looks) })
          (own_more _ 8 20 _ _ (omega arith) (omega (arith, c.in-Parsed.ensures.looks, tight, c.queue_text.ensures.looks)))
          (omega arith) (omega arith) d.does;
      same = d.same;
    }

pub returns-then-has_no_qualifiers-clause-own_looks : goal.returns-then-has_no_qualifiers-clause-own_looks
unfolding trace_at
returns-then-has_no_qualifiers-clause-own_looks g c =
    let m = c.args.self.now in
    let tight = group_tight m.source.symbol.now token_kind.FunctionQualifiers m.state.letter g.V.Output.is_printed m.state.lifetimes
    m.state.place in
    let d = advanced g.V.Output c.args.output.now continuation.OpenParameters
    (rw c.token_at.ensures.parser at c.queue_text.ensures.performs) in
    omega (arith, c.in-Parsed.ensures.looks, tight, c.queue_text.ensures.looks)

pub returns-in_err-emit-in-Parsed-clause-performs : goal.returns-in_err-emit-in-Parsed-clause-performs
unfolding trace_at
returns-in_err-emit-in-Parsed-clause-performs g c =
    let m = c.args.self.now in
    let e = c.in_err-emit-in-Parsed.ensures in
    let tight = group_tight m.source.symbol.now token_kind.FunctionQualifiers m.state.letter g.V.Output.is_printed m.state.lifetimes
    m.state.place in
    rw (e.parser, c.token_at.ensures.parser, stops c.from_residual.result c.from_residual.ensures.1 refl) (record {
      does = token_refuses (omega arith) token_kind.FunctionQualifiers parameters _ _ c.in-Parsed.ensures.value
          (record {
            grows = omega (arith, c.in-Parsed.ensures.grows, e.grows);
            within = omega (arith, c.in-Parsed.ensures.looks, e.most);
          })
          (rw c.token_at.ensures.parser at e.prints) e.no_output;
      same = (refl, refl, refl);
    })

pub returns-in_err-emit-in-Parsed-clause-own_looks : goal.returns-in_err-emit-in-Parsed-clause-own_looks
unfolding trace_at
returns-in_err-emit-in-Parsed-clause-own_looks g c =
    let m = c.args.self.now in
    let e = c.in_err-emit-in-Parsed.ensures in
    let tight = group_tight m.source.symbol.now token_kind.FunctionQualifiers m.state.letter g.V.Output.is_printed m.state.lifetimes
    m.state.place in
    omega (arith, c.in-Parsed.ensures.looks, e.most, tight)

pub returns-in_ok-emit-in-Parsed-clause-performs : goal.returns-in_ok-emit-in-Parsed-clause-performs
unfolding trace_at
returns-in_ok-emit-in-Parsed-clause-performs g c =
    let m = c.args.self.now in
    let e = c.in_ok-emit-in-Parsed.ensures in
    let tight = group_tight m.source.symbol.now token_kind.FunctionQualifiers m.state.letter g.V.Output.is_printed m.state.lifetimes
    m.state.place in
    rw (e.parser, c.token_at.ensures.parser) (record {
      does = token_continues (omega arith) continuation.OpenParameters token_kind.FunctionQualifiers parameters _ _ c.in-Parsed.ensures.value
          (record {
            grows = omega (arith, c.in-Parsed.ensures.grows, e.grows);
            within = omega (arith, c.in-Parsed.ensures.looks, e.most);
          })
          (rw c.token_at.ensures.parser at e.prints) e.ready c.requires.can_step.no_pending_text refl (omega arith) (omega arith)
          c.requires.can_step.fits;
      same = (refl, refl, refl);
    })

pub returns-in_ok-emit-in-Parsed-clause-own_looks : goal.returns-in_ok-emit-in-Parsed-clause-own_looks
unfolding trace_at
returns-in_ok-emit-in-Parsed-clause-own_looks g c =
    let m = c.args.self.now in
    let e = c.in_ok-emit-in-Parsed.ensures in
    let tight = group_tight m.source.symbol.now token_kind.FunctionQualifiers m.state.letter g.V.Output.is_printed m.state.lifetimes
    m.state.place in
    omega (arith, c.in-Parsed.ensures.looks, e.most, tight)

pub returns-in-NotParsed-clause-performs : goal.returns-in-NotParsed-clause-performs
unfolding trace_at
returns-in-NotParsed-clause-performs g c =
    let m = c.args.self.now in
    let tight = group_tight m.source.symbol.now token_kind.FunctionQualifiers m.state.letter g.V.Output.is_printed m.state.lifetimes
    m.state.place in
    rw c.token_at.ensures.parser (record {
      does = word_stops (omega arith) token_kind.FunctionQualifiers parameters _ c.in-NotParsed.ensures.value
          (record { grows = c.in-NotParsed.ensures.grows; within = omega (arith, c.in-NotParsed.ensures.looks) })
          c.requires.can_step.no_pending_text (omega arith);
      same = (refl, refl, refl);
    })

pub returns-in-NotParsed-clause-own_looks : goal.returns-in-NotParsed-clause-own_looks
unfolding trace_at
returns-in-NotParsed-clause-own_looks g c =
    let m = c.args.self.now in
    let tight = group_tight m.source.symbol.now token_kind.FunctionQualifiers m.state.letter g.V.Output.is_printed m.state.lifetimes
    m.state.place in
    rw c.token_at.ensures.parser (omega (arith, c.in-NotParsed.ensures.looks, tight))
