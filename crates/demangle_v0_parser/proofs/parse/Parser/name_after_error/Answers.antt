use Rattle.std.proofs.Common.{arith, refl}
use Rattle.demangle_v0_parser.proofs.StepErrors.{stops}
use Rattle.demangle_v0_parser.proofs.PathSteps.{name_unread, name_unread_refused}
use Rattle.demangle_v0_parser.proofs.parse.Parser.name_after_error.Goals as goal

pub returns-in_err-emit_name_after_error-clause-performs : goal.returns-in_err-emit_name_after_error-clause-performs
returns-in_err-emit_name_after_error-clause-performs g c =
    let e = c.in_err-emit_name_after_error.ensures in
    rw e.parser (record {
      does = rw (stops c.from_residual.result c.from_residual.ensures.1 refl) (name_unread_refused c.requires.failed
          (record { grows = e.grows; within = omega (arith, e.most) }) e.prints);
      same = (refl, refl, refl);
    })

pub returns-clause-performs : goal.returns-clause-performs
returns-clause-performs g c =
    let e = c.in_ok-emit_name_after_error.ensures in
    rw e.parser (record {
      does = name_unread c.requires.failed
          (record { grows = e.grows; within = omega (arith, e.most) }) e.prints e.ready c.requires.can_step.no_pending_text;
      same = (refl, refl, refl);
    })
