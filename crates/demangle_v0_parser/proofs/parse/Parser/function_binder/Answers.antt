use Rattle.std.proofs.Common.{arith, refl, sym}
use Rattle.demangle_v0_parser.specs.Traces.{trace_at}
use Rattle.demangle_v0_parser.specs.declared.Continuation.TheVariants as continuation
use Rattle.demangle_v0_parser.proofs.StepErrors.{stops, stops_invalid}
use Rattle.demangle_v0_parser.proofs.FunctionSteps.{binder_continues, binder_none, binder_refused, binder_stops, binder_unread, head}
use Rattle.demangle_v0_parser.proofs.PrimitiveLooks.{optional_there}
use Rattle.demangle_v0_parser.proofs.parse.Parser.function_binder.Goals as goal

pub returns-in_err-at-clause-performs : goal.returns-in_err-at-clause-performs
returns-in_err-at-clause-performs g c =
    let failed = c.in_err-at.ensures.failed in
    rw (stops c.from_residual.result c.from_residual.ensures.1 failed.1) (record {
      does = binder_unread head c.requires.can_step.no_pending_text failed.0 (omega arith);
      same = (refl, refl, refl);
    })

pub returns-in_err-number-clause-performs : goal.returns-in_err-number-clause-performs
returns-in_err-number-clause-performs g c =
    rw (stops_invalid c.from_residual-in_err-number.result c.from_residual-in_err-number.ensures.1
    c.in_err-number.ensures.fault) (record {
      does = binder_stops (omega arith) head c.in_ok-at.at c.in_ok-at.ensures.ok c.requires.can_step.no_pending_text
          c.in_err-number.ensures.read
          (record { grows = omega arith; within = omega (arith, c.in_err-number.ensures.err_looks) }) (omega arith);
      same = (refl, refl, refl);
    })

pub returns-then-number-eq0-clause-performs : goal.returns-then-number-eq0-clause-performs
unfolding trace_at
returns-then-number-eq0-clause-performs g c =
    let there = optional_there _ _ _ _ _ (sym c.in_ok-number.ensures.read) in
    record {
      does = binder_none (omega arith) head c.in_ok-at.at c.in_ok-number.next c.in_ok-number.number
          c.in_ok-at.ensures.ok c.in_ok-number.ensures.read
          c.if-number-eq0.true
          (record {
            grows = omega (arith, c.in_ok-number.ensures.grows);
            within = omega (arith, c.in_ok-number.ensures.ok_looks);
          })
          (rw c.in_ok-at.ensures.ok (omega (
            arith,
            there.0,
            there.1,
            c.in_ok-number.ensures.ok_looks,
            c.in_ok-number.ensures.grows,
            c.function_qualifiers.ensures.own_looks,
          )))
          (omega arith) (omega arith) c.function_qualifiers.ensures.performs.does;
      same = c.function_qualifiers.ensures.performs.same;
    }

pub returns-in_err-bind_lifetimes-clause-performs : goal.returns-in_err-bind_lifetimes-clause-performs
returns-in_err-bind_lifetimes-clause-performs g c =
    let there = optional_there _ _ _ _ _ (sym c.in_ok-number.ensures.read) in
    rw (
      c.in_err-bind_lifetimes.ensures.parser,
      stops c.from_residual-in_err-bind_lifetimes.result
          c.from_residual-in_err-bind_lifetimes.ensures.1 refl,
    ) (record {
      does = binder_refused (omega arith) head c.in_ok-at.at c.in_ok-number.next c.in_ok-number.number
          c.in_ok-at.ensures.ok c.in_ok-number.ensures.read
          (record {
            grows = omega (arith, c.in_ok-number.ensures.grows);
            within = omega (arith, c.in_ok-number.ensures.ok_looks);
          })
          (rw c.in_ok-at.ensures.ok (omega (
            arith,
            there.0,
            there.1,
            c.in_ok-number.ensures.ok_looks,
            c.in_ok-number.ensures.grows,
          )))
          c.in_err-bind_lifetimes.ensures.prints c.in_err-bind_lifetimes.ensures.no_output;
      same = (refl, refl, refl);
    })

pub returns-clause-performs : goal.returns-clause-performs
unfolding trace_at
returns-clause-performs g c =
    let there = optional_there _ _ _ _ _ (sym c.in_ok-number.ensures.read) in
    rw c.in_ok-bind_lifetimes.ensures.parser (record {
      does = binder_continues (omega arith) continuation.FunctionQualifiers head c.in_ok-at.at c.in_ok-number.next c.in_ok-number.number
          c.in_ok-at.ensures.ok
          c.in_ok-number.ensures.read
          (record {
            grows = omega (arith, c.in_ok-number.ensures.grows);
            within = omega (arith, c.in_ok-number.ensures.ok_looks);
          })
          (rw c.in_ok-at.ensures.ok (omega (
            arith,
            there.0,
            there.1,
            c.in_ok-number.ensures.ok_looks,
            c.in_ok-number.ensures.grows,
          )))
          c.in_ok-bind_lifetimes.ensures.prints c.in_ok-bind_lifetimes.ensures.ready c.requires.can_step.no_pending_text refl
          (omega arith) (omega arith) (omega (arith, c.requires.can_step.fits, c.in_ok-bind_lifetimes.ensures.number));
      same = (refl, refl, refl);
    })
