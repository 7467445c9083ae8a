use Rattle.std.proofs.Common.{arith, refl}
use Rattle.demangle_v0_grammar.specs.Reading.{parse}
use Rattle.demangle_v0_parser.specs.Traces.{trace_at}
use Rattle.demangle_v0_parser.specs.declared.Continuation.TheVariants as continuation
use Rattle.demangle_v0_parser.proofs.StepCases.{marks}
use Rattle.demangle_v0_parser.proofs.parse.Parser.generic.Goals as goal

pub returns-then-self : goal.returns-then-self
unfolding parse trace_at
returns-then-self c = λ p. rw c.put.ensures (record {
  does = marks continuation.OpenArguments
      (rw c.if-self.true refl) (omega arith) (omega arith) c.requires.can_step.fits;
  same = (refl, refl, refl);
})

pub returns : goal.returns
unfolding parse trace_at
returns c = λ p. rw c.put-2.ensures (record {
  does = marks continuation.FirstArgument (rw c.if-self.false
      refl) (omega arith) (omega arith) c.requires.can_step.fits;
  same = (refl, refl, refl);
})
