use Rattle.std.proofs.Common.{refl}
use Rattle.demangle_v0_parser.specs.Parsers.{env_of, machine_of, unused_output}
use Rattle.demangle_v0_parser.proofs.FixedTextSteps.{left_so}
use Rattle.demangle_v0_parser.proofs.parse.Parser.queue_text.Goals as goal

pub returns-clause-performs : goal.returns-clause-performs
returns-clause-performs c = λ p. record {
  does = left_so (env_of (unused_output p) c.args.self.now) (machine_of c.args.self.now tt) c.args.continuation c.in-Some.left
      c.in-Some.ensures c.requires.fits;
  same = (refl, refl, refl);
}

pub returns-clause-looks : goal.returns-clause-looks
returns-clause-looks c = refl
