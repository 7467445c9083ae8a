use Rattle.std.proofs.Common.{ap, arith, refl}
use Rattle.demangle_v0_parser.specs.Frames.{Stack}
use Rattle.demangle_v0_parser.specs.Loops.{pops}
use Rattle.demangle_v0_parser.proofs.parse.Parser.resume.Goals as goal

pub returns-in-Some-clause-some : goal.returns-in-Some-clause-some
returns-in-Some-clause-some c = pops c.in-Some.frame c.in-End.is (omega arith) (ap (λ (s : Stack). s.frames) c.in-Some.ensures.some) refl c.resume.ensures
