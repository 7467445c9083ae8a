use Rattle.std.proofs.Common.{arith, refl}
use Rattle.demangle_v0_parser.specs.Traces.{trace_at}
use Rattle.demangle_v0_parser.proofs.StepCases.{alike}
use Rattle.demangle_v0_parser.proofs.parse.Parser.dyn_lifetime.Goals as goal

pub returns : goal.returns
unfolding trace_at
returns g c = let d = c.end_with_token.ensures.performs in record { does = alike (omega arith) refl (omega arith) (omega arith) d.does; same = d.same }
