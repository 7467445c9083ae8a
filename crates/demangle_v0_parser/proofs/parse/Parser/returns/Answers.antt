use Rattle.std.proofs.Common.{false, ◌∷◌, [], arith, refl}
use Rattle.demangle_v0_grammar.specs.Items.{a_type}
use Rattle.demangle_v0_grammar.specs.Reading.{parse}
use Rattle.demangle_v0_parser.specs.Traces.{trace_at}
use Rattle.demangle_v0_parser.specs.declared.Continuation.TheVariants as continuation
use Rattle.demangle_v0_parser.proofs.FunctionSteps.{returns_type}
use Rattle.demangle_v0_parser.proofs.StepCases.{texts_child, moves}
use Rattle.demangle_v0_parser.proofs.parse.Parser.returns.Goals as goal

pub returns-in_default : goal.returns-in_default
unfolding parse trace_at
returns-in_default c = λ p. rw c.put.ensures (record {
  does = texts_child continuation.«Type» a_type false (rw c.in_default.is refl) refl (omega arith) (omega arith)
      c.requires.can_step.fits;
  same = (refl, refl, refl);
})

pub returns-then-is_at : goal.returns-then-is_at
unfolding parse trace_at
returns-then-is_at c = λ p. record {
  does = moves continuation.End (1 ∷ []) (omega arith)
      (rw (c.in-Some.is, c.requires.can_step.no_pending_text, rw c.is_at.ensures.there at c.if-is_at.true) refl)
      (record { grows = omega (arith, c.is_at.ensures.look); within = omega (arith, c.is_at.ensures.look) })
      (rw c.in-Some.is (omega (arith, c.is_at.ensures.look))) (omega arith) (omega arith) tt;
  same = (refl, refl, refl);
}

pub returns : goal.returns
returns c = λ p. rw c.put-2.ensures (record {
  does = returns_type c.in-Some.at c.in-Some.is (rw c.is_at.ensures.there at c.if-is_at.false) c.is_at.ensures.look
      c.requires.can_step.fits;
  same = (refl, refl, refl);
})
