use Rattle.std.proofs.Common.{arith, refl}
use Rattle.demangle_v0_grammar.specs.Reading.{parse}
use Rattle.demangle_v0_parser.specs.Traces.{trace_at}
use Rattle.demangle_v0_parser.specs.declared.Continuation.TheVariants as continuation
use Rattle.demangle_v0_parser.proofs.StepCases.{marks}
use Rattle.demangle_v0_parser.proofs.parse.Parser.tuple_type.Goals as goal

pub returns : goal.returns
unfolding parse trace_at
returns c = λ p. rw c.put.ensures (record { does = marks continuation.FirstTupleType refl (omega arith) (omega arith) (omega (arith, c.requires.can_step.fits)); same = (refl, refl, refl) })
