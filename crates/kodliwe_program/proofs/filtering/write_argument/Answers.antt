use Rattle.std.proofs.Common.{arith, ap, ◌∙◌}
use Rattle.demangle_value.specs.declared.format.Format.{Format}
use Rattle.demangle_value.proofs.LinearPrinting.{prints_linear}
use Rattle.kodliwe_program.specs.Parts.{argument_in}
use Rattle.kodliwe_program.proofs.PartLemmas.{argument_in-symbol, argument_in-no_symbol, wrote_same, second}
use Rattle.kodliwe_program.proofs.filtering.write_argument.Goals as goal

pub returns-in-Ok-clause-ok : goal.returns-in-Ok-clause-ok
returns-in-Ok-clause-ok g c =
    wrote_same _ _ _ _ _ (argument_in-symbol c.format-format.result c.args.argument.now _ c.in-Ok.ensures.text c.in-Ok.ensures.symbol ∙ ap (λ (f : Format). argument_in f c.args.argument.now) c.format-format.ensures) c.write_symbol.ensures.ok

pub returns-in-Err-clause-ok : goal.returns-in-Err-clause-ok
returns-in-Err-clause-ok g c =
    wrote_same _ _ _ _ _ (argument_in-no_symbol c.args.symbols.now.memo c.args.argument.now _ c.as_bytes-text.ensures.value c.in-Err.ensures.none)
    (second _ _ _ c.demangle_bytes_counted.ensures.ok)

pub returns-in-Ok-clause-linear : goal.returns-in-Ok-clause-linear
returns-in-Ok-clause-linear g c = λ e.
    omega (arith, c.try_demangle_counted.ensures.most, prints_linear c.format-format.result _ c.args.argument.now _ _ c.in-Ok.ensures.text c.write_symbol.ensures.looks (ap (λ (f : Format). f.reread) c.format-format.ensures ∙ e))
