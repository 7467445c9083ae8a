use Rattle.std.proofs.Common.{Err, arith, refl, ap}
use Rattle.demangle_v0_parser.proofs.LoopLemmas.{step_continues, step_refused, stepped_err, fault_continues, fault_refused, stop_refused}
use Rattle.demangle_v0_parser.proofs.parse.Parser.steps.Goals as goal

pub flush_pending_text-requires : goal.flush_pending_text-requires
flush_pending_text-requires g c =
    let d = c.in-Ok.ensures.performs in
    record { ascii = λ z. rw d.same.0 (c.requires.can_step.ascii z); ready = d.ready c.requires.can_step.ready refl }

pub emit_error-requires-clause-ready : goal.emit_error-requires-clause-ready
emit_error-requires-clause-ready g c = c.in-Err-Abort.ensures.performs.if_ok c.requires.can_step.ready c.in-Err-Abort.fault (ap Err c.in-Err-Abort.field-0-is)

pub returns-in_err-flush_pending_text-in-Ok-clause-stepped : goal.returns-in_err-flush_pending_text-in-Ok-clause-stepped
returns-in_err-flush_pending_text-in-Ok-clause-stepped g c =
    let d = c.in-Ok.ensures.performs.steps in
    let e = c.in_err-flush_pending_text-in-Ok.ensures in
    record { at = d.at; mid = d.mid; runs = d.runs; done = rw e.parser (stepped_err c.from_residual.ensures.0 (step_refused d.does e.put (omega (arith, e.most)))) }

pub returns-in_err-emit_error-in-Err-Abort-clause-stepped : goal.returns-in_err-emit_error-in-Err-Abort-clause-stepped
returns-in_err-emit_error-in-Err-Abort-clause-stepped g c =
    let d = rw c.in-Err-Abort.field-0-is at c.in-Err-Abort.ensures.performs.steps in
    let e = c.in_err-emit_error-in-Err-Abort.ensures in
    record { at = d.at; mid = d.mid; runs = d.runs; done = stepped_err c.from_residual-in_err-emit_error-in-Err-Abort.ensures.0 (fault_refused d.does e.prints (omega (arith, e.most))) }

pub returns-in_ok-flush_pending_text-in-Ok-clause-stepped : goal.returns-in_ok-flush_pending_text-in-Ok-clause-stepped
returns-in_ok-flush_pending_text-in-Ok-clause-stepped g c =
    let d = c.in-Ok.ensures.performs.steps in
    let e = c.in_ok-flush_pending_text-in-Ok.ensures in
    record { at = d.at; mid = d.mid; runs = d.runs; done = rw e.parser (step_continues d.does e.put (omega (arith, e.most))) }

pub returns-in_ok-emit_error-in-Err-Abort-clause-stepped : goal.returns-in_ok-emit_error-in-Err-Abort-clause-stepped
returns-in_ok-emit_error-in-Err-Abort-clause-stepped g c =
    let d = rw c.in-Err-Abort.field-0-is at c.in-Err-Abort.ensures.performs.steps in
    let e = c.in_ok-emit_error-in-Err-Abort.ensures in
    record { at = d.at; mid = d.mid; runs = d.runs; done = fault_continues d.does e.prints (omega (arith, e.most)) }

pub returns-in-Err-Sink-clause-stepped : goal.returns-in-Err-Sink-clause-stepped
returns-in-Err-Sink-clause-stepped g c =
    let d = rw c.in-Err-Sink.field-0-is at c.in-Err-Sink.ensures.performs.steps in
    record { at = d.at; mid = d.mid; runs = d.runs; done = stop_refused d.does }
