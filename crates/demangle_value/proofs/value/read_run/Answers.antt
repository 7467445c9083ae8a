use Rattle.std.proofs.Common.{arith, ap, length, sym, subst}
use Rattle.std.specs.Prelude.{IsAscii}
use Rattle.demangle_value.proofs.RunStarts.{all_ascii}
use Rattle.demangle_value.proofs.Stripping.{IsAscii-stripped, stripped-shorter}
use Rattle.demangle_value.proofs.value.read_run.Goals as goal

pub read-requires : goal.read-requires
read-requires c = λ _. subst IsAscii (sym c.without_thin_lto.ensures) (IsAscii-stripped c.args.run.now (all_ascii c.args.run.now c.requires))

pub returns-clause-most : goal.returns-clause-most
returns-clause-most c =
    omega (arith, c.read.ensures.most, ap length c.without_thin_lto.ensures, stripped-shorter c.args.run.now)
