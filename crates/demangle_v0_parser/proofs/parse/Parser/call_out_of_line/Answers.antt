use Rattle.std.proofs.Common.{arith, refl}
use Rattle.demangle_v0_parser.specs.Traces.{trace_at}
use Rattle.demangle_v0_parser.specs.declared.Continuation.TheVariants as continuation
use Rattle.demangle_v0_parser.proofs.Parsers.{advanced}
use Rattle.demangle_v0_parser.proofs.StepCases.{alike}
use Rattle.demangle_v0_parser.proofs.parse.Parser.call_out_of_line.Goals as goal

pub returns-in-Lifetime : goal.returns-in-Lifetime
unfolding trace_at
returns-in-Lifetime g c = rw c.in-Lifetime.is (record {
  does = alike (omega arith) refl (omega arith) (omega arith) c.end_with_token.ensures.performs.does;
  same = c.end_with_token.ensures.performs.same;
})

pub returns-in-Variant : goal.returns-in-Variant
returns-in-Variant g c = rw c.in-Variant.is (advanced g.V.Output c.args.output.now continuation.Variant c.variant.ensures)
