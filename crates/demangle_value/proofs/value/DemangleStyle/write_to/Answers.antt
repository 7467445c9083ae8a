use Rattle.demangle_value.specs.Shape.{limited}
use Rattle.demangle_value.proofs.AllReferences.{few_legacy, up_to}
use Rattle.demangle_value.proofs.value.DemangleStyle.write_to.Goals as goal

pub returns-in-V0-clause-prints : goal.returns-in-V0-clause-prints
returns-in-V0-clause-prints g c =
    rw c.in-V0.is (up_to g.S.TextSink c.args.out.now c.write_to-in-V0.new.out c.in-V0.symbol (limited c.args.format) c.write_to-in-V0.result c.requires.same
    c.write_to-in-V0.ensures.prints)

pub returns-in-V0-clause-most : goal.returns-in-V0-clause-most
returns-in-V0-clause-most g c = rw c.in-V0.is (rw c.requires.same at c.write_to-in-V0.ensures.most)

pub returns-in-V0-clause-few : goal.returns-in-V0-clause-few
returns-in-V0-clause-few g c = rw c.in-V0.is (rw c.requires.same at c.write_to-in-V0.ensures.few)

pub returns-in-Legacy-clause-few : goal.returns-in-Legacy-clause-few
returns-in-Legacy-clause-few g c = rw c.in-Legacy.is (few_legacy c.args.format.reread _ _ _ c.write_to.ensures.most)
