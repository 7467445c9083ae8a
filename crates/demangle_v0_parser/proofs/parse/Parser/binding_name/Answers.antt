use Rattle.std.proofs.Common.{arith, refl}
use Rattle.demangle_v0_parser.specs.Traces.{trace_at}
use Rattle.demangle_v0_parser.specs.declared.Continuation.TheVariants as continuation
use Rattle.demangle_v0_tokens.specs.declared.token.TokenKind.TheVariants as token_kind
use Rattle.demangle_v0_parser.proofs.StepErrors.{stops}
use Rattle.demangle_v0_parser.proofs.DynTraitSteps.{after_name}
use Rattle.demangle_v0_parser.proofs.StepCases.{token_continues, token_refuses, word_stops}
use Rattle.demangle_v0_parser.proofs.parse.Parser.binding_name.Goals as goal

pub returns-in_err-emit-in-Parsed : goal.returns-in_err-emit-in-Parsed
unfolding trace_at
returns-in_err-emit-in-Parsed g c = let e = c.in_err-emit-in-Parsed.ensures in rw (e.parser, c.token_at.ensures.parser, stops c.from_residual.result c.from_residual.ensures.1 refl) (record {
  does = token_refuses (omega arith) token_kind.BindingName after_name _ _ c.in-Parsed.ensures.value
      (record {
        grows = omega (arith, c.in-Parsed.ensures.grows, e.grows);
        within = omega (arith, c.in-Parsed.ensures.looks, e.most);
      })
      (rw c.token_at.ensures.parser at e.prints) e.no_output;
  same = (refl, refl, refl);
})

pub returns-in_ok-emit-in-Parsed : goal.returns-in_ok-emit-in-Parsed
unfolding trace_at
returns-in_ok-emit-in-Parsed g c = let e = c.in_ok-emit-in-Parsed.ensures in rw (e.parser, c.token_at.ensures.parser) (record {
  does = token_continues (omega arith) continuation.BindingValue token_kind.BindingName after_name _ _ c.in-Parsed.ensures.value
      (record {
        grows = omega (arith, c.in-Parsed.ensures.grows, e.grows);
        within = omega (arith, c.in-Parsed.ensures.looks, e.most);
      })
      (rw c.token_at.ensures.parser at e.prints) e.ready c.requires.can_step.no_pending_text refl (omega arith) (omega arith)
      c.requires.can_step.fits;
  same = (refl, refl, refl);
})

pub returns-in-NotParsed : goal.returns-in-NotParsed
unfolding trace_at
returns-in-NotParsed g c = rw c.token_at.ensures.parser (record {
  does = word_stops (omega arith) token_kind.BindingName after_name _ c.in-NotParsed.ensures.value
      (record { grows = c.in-NotParsed.ensures.grows; within = omega (arith, c.in-NotParsed.ensures.looks) })
      c.requires.can_step.no_pending_text (omega arith);
  same = (refl, refl, refl);
})
