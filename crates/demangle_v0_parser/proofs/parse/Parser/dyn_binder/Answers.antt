use Rattle.std.proofs.Common.{arith, refl, sym}
use Rattle.demangle_v0_parser.specs.Traces.{trace_at}
use Rattle.demangle_v0_parser.specs.declared.Continuation.TheVariants as continuation
use Rattle.demangle_v0_parser.proofs.StepErrors.{stops, stops_invalid}
use Rattle.demangle_v0_parser.proofs.Parsers.{advanced}
use Rattle.demangle_v0_parser.proofs.DynTraitSteps.{first_traits}
use Rattle.demangle_v0_parser.proofs.FunctionSteps.{binder_unread, binder_stops, binder_none, binder_continues, binder_refused}
use Rattle.demangle_v0_parser.proofs.PrimitiveLooks.{optional_there}
use Rattle.demangle_v0_parser.proofs.parse.Parser.dyn_binder.Goals as goal

pub returns-in_err-at : goal.returns-in_err-at
unfolding trace_at
returns-in_err-at g c = let failed = c.in_err-at.ensures.failed in rw (stops c.from_residual.result c.from_residual.ensures.1 failed.1) (record {
  does = binder_unread first_traits c.requires.can_step.no_pending_text failed.0 (omega arith);
  same = (refl, refl, refl);
})

pub returns-in_err-number : goal.returns-in_err-number
unfolding trace_at
returns-in_err-number g c = rw (stops_invalid c.from_residual-in_err-number.result c.from_residual-in_err-number.ensures.1
    c.in_err-number.ensures.fault) (record {
      does = binder_stops (omega arith) first_traits c.in_ok-at.at c.in_ok-at.ensures.ok c.requires.can_step.no_pending_text
          c.in_err-number.ensures.read
          (record { grows = omega arith; within = omega (arith, c.in_err-number.ensures.err_looks) }) (omega arith);
      same = (refl, refl, refl);
    })

pub returns-then-number-eq0 : goal.returns-then-number-eq0
unfolding trace_at
returns-then-number-eq0 g c =
    let there = optional_there _ _ _ _ _ (sym c.in_ok-number.ensures.read) in
    let d = advanced g.V.Output c.args.output.now continuation.FirstDynTrait c.dyn_trait.ensures.performs in
    record {
      does = binder_none (omega arith) first_traits c.in_ok-at.at c.in_ok-number.next c.in_ok-number.number
          c.in_ok-at.ensures.ok
          c.in_ok-number.ensures.read c.if-number-eq0.true
          (record {
            grows = omega (arith, c.in_ok-number.ensures.grows);
            within = omega (arith, c.in_ok-number.ensures.ok_looks);
          })
          (rw c.in_ok-at.ensures.ok (omega (
            arith,
            there.0,
            there.1,
            c.in_ok-number.ensures.ok_looks,
            c.in_ok-number.ensures.grows,
            c.dyn_trait.ensures.own_looks,
          )))
          (omega arith) (omega arith) d.does;
      same = d.same;
    }

pub returns-in_err-bind_lifetimes : goal.returns-in_err-bind_lifetimes
unfolding trace_at
returns-in_err-bind_lifetimes g c =
    let there = optional_there _ _ _ _ _ (sym c.in_ok-number.ensures.read) in
    rw (
      c.in_err-bind_lifetimes.ensures.parser,
      stops c.from_residual-in_err-bind_lifetimes.result
          c.from_residual-in_err-bind_lifetimes.ensures.1 refl,
    ) (record {
      does = binder_refused (omega arith) first_traits c.in_ok-at.at c.in_ok-number.next c.in_ok-number.number
          c.in_ok-at.ensures.ok
          c.in_ok-number.ensures.read
          (record {
            grows = omega (arith, c.in_ok-number.ensures.grows);
            within = omega (arith, c.in_ok-number.ensures.ok_looks);
          })
          (rw c.in_ok-at.ensures.ok (omega (
            arith,
            there.0,
            there.1,
            c.in_ok-number.ensures.ok_looks,
            c.in_ok-number.ensures.grows,
          )))
          c.in_err-bind_lifetimes.ensures.prints c.in_err-bind_lifetimes.ensures.no_output;
      same = (refl, refl, refl);
    })

pub returns : goal.returns
unfolding trace_at
returns g c =
    let there = optional_there _ _ _ _ _ (sym c.in_ok-number.ensures.read) in
    rw c.in_ok-bind_lifetimes.ensures.parser (record {
      does = binder_continues (omega arith) continuation.FirstDynTrait first_traits c.in_ok-at.at c.in_ok-number.next
          c.in_ok-number.number
          c.in_ok-at.ensures.ok c.in_ok-number.ensures.read
          (record {
            grows = omega (arith, c.in_ok-number.ensures.grows);
            within = omega (arith, c.in_ok-number.ensures.ok_looks);
          })
          (rw c.in_ok-at.ensures.ok (omega (
            arith,
            there.0,
            there.1,
            c.in_ok-number.ensures.ok_looks,
            c.in_ok-number.ensures.grows,
          )))
          c.in_ok-bind_lifetimes.ensures.prints c.in_ok-bind_lifetimes.ensures.ready c.requires.can_step.no_pending_text refl
          (omega arith) (omega arith) (omega (arith, c.requires.can_step.fits, c.in_ok-bind_lifetimes.ensures.number));
      same = (refl, refl, refl);
    })
