use Rattle.demangle_v0_parser.specs.Traces.{trace_at}
use Rattle.demangle_v0_parser.proofs.parse.Parser.bindings.Goals as goal

pub returns : goal.returns
unfolding trace_at
returns c = λ p. let d = c.binding.ensures p in record { does = d.does; same = d.same }
