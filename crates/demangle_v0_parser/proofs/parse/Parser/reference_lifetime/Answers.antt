use Rattle.std.proofs.Common.{arith, refl, sym, ◌∙◌}
use Rattle.demangle_v0_parser.proofs.StepErrors.{stops, stops_invalid}
use Rattle.demangle_v0_parser.proofs.LifetimeSteps.{lifetime_unread, lifetime_stops, lifetime_unnamed, lifetime_unheard, lifetime_tells, lifetime_refused}
use Rattle.demangle_v0_parser.proofs.parse.Parser.reference_lifetime.Goals.{then-index-eq0-via-then-index-eq0, then-index-eq0-via-else-index-eq0+then-not-is_printing}
use Rattle.demangle_v0_parser.proofs.parse.Parser.reference_lifetime.Goals as goal

pub returns-in_err-at : goal.returns-in_err-at
returns-in_err-at g c = record {
  does = rw (stops c.from_residual.result c.from_residual.ensures.1 c.in_err-at.ensures.failed.1)
      (lifetime_unread c.args.is_mut c.in_err-at.ensures.failed.0 c.requires.can_step.no_pending_text);
  same = (refl, refl, refl);
}

pub returns-in_err-index : goal.returns-in_err-index
returns-in_err-index g c = record {
  does = rw (stops_invalid c.from_residual-in_err-index.result c.from_residual-in_err-index.ensures.1
      c.in_err-index.ensures.fault) (lifetime_stops c.args.is_mut c.in_ok-at.at c.in_ok-at.ensures.ok
      c.in_err-index.ensures.read
      (record { grows = omega arith; within = omega (arith, c.in_err-index.ensures.err_looks) })
      c.requires.can_step.no_pending_text);
  same = (refl, refl, refl);
}

pub returns-then-index-eq0 : goal.returns-then-index-eq0
returns-then-index-eq0 g c = rw c.after_reference_lifetime.ensures (record {
  does = elim c.then-index-eq0.branch [
    | then-index-eq0-via-then-index-eq0 w ↦ lifetime_unnamed c.args.is_mut c.in_ok-at.at c.in_ok-index.index
        c.in_ok-index.next (record {
          at = c.in_ok-at.ensures.ok;
          is = c.in_ok-index.ensures.read;
          within_budget = record { grows = omega arith; within = omega (arith, c.in_ok-index.ensures.ok_looks) };
          no_pending_text = c.requires.can_step.no_pending_text;
          fits = c.requires.can_step.fits;
        }) w.if-index-eq0.true
    | then-index-eq0-via-else-index-eq0+then-not-is_printing w ↦ lifetime_unheard c.args.is_mut c.in_ok-at.at
        c.in_ok-index.index c.in_ok-index.next (record {
          at = c.in_ok-at.ensures.ok;
          is = c.in_ok-index.ensures.read;
          within_budget = record { grows = omega arith; within = omega (arith, c.in_ok-index.ensures.ok_looks) };
          no_pending_text = c.requires.can_step.no_pending_text;
          fits = c.requires.can_step.fits;
        }) w.if-index-eq0.false (sym w.is_printing.ensures ∙ w.if-not-is_printing.true)
  ];
  same = (refl, refl, refl);
})

pub returns-in_err-emit : goal.returns-in_err-emit
returns-in_err-emit g c = let e = c.in_err-emit.ensures in let x = c.spaced_lifetime-token.ensures in rw e.parser (record {
  does = rw (stops c.from_residual-in_err-emit.result c.from_residual-in_err-emit.ensures.1 refl) (lifetime_refused
      c.args.is_mut c.in_ok-at.at c.in_ok-index.index c.in_ok-index.next _ _ (record {
        at = c.in_ok-at.ensures.ok;
        is = c.in_ok-index.ensures.read;
        within_budget = record {
          grows = omega arith;
          within = omega (arith, c.in_ok-index.ensures.ok_looks, e.most, x.later);
        };
        no_pending_text = c.requires.can_step.no_pending_text;
        fits = c.requires.can_step.fits;
      }) c.if-index-eq0.false (sym c.is_printing.ensures ∙ c.if-not-is_printing.false)
      x.value e.prints);
  same = (refl, refl, refl);
})

pub returns : goal.returns
returns g c = let e = c.in_ok-emit.ensures in let x = c.spaced_lifetime-token.ensures in rw (c.after_reference_lifetime-2.ensures, e.parser) (record {
  does = lifetime_tells c.args.is_mut c.in_ok-at.at c.in_ok-index.index c.in_ok-index.next _ _ (record {
    at = c.in_ok-at.ensures.ok;
    is = c.in_ok-index.ensures.read;
    within_budget = record {
      grows = omega arith;
      within = omega (arith, c.in_ok-index.ensures.ok_looks, e.most, x.later);
    };
    no_pending_text = c.requires.can_step.no_pending_text;
    fits = c.requires.can_step.fits;
  }) c.if-index-eq0.false (sym c.is_printing.ensures ∙ c.if-not-is_printing.false)
      x.value e.prints e.ready;
  same = (refl, refl, refl);
})
