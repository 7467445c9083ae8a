use Rattle.std.proofs.Common.{arith, ap, length}
use Rattle.demangle_value.proofs.Stripping.{stripped-shorter}
use Rattle.demangle_value.proofs.demangle_counted.Goals as goal

pub returns-clause-most : goal.returns-clause-most
returns-clause-most c =
    omega (arith, c.read.ensures.most, ap length c.without_thin_lto.ensures, stripped-shorter c.args.s.now)
