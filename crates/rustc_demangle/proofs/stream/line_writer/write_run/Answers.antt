use Rattle.std.proofs.Common.{refl, sym, subst, ap, ◌∙◌}
use Rattle.std.proofs.lemmas.Result.{on_ok_weaker}
use Rattle.std.specs.Io.KnownBytes.{Appends}
use Rattle.std.specs.List.{concat}
use Rattle.demangle_value.specs.Symbols.{handed_in, IsSymbol}
use Rattle.demangle_value.proofs.RunLemmas.{replacement_in-symbol, replacement_in-no_symbol}
use Rattle.demangle_value.proofs.LinearPrinting.{prints_linear}
use Rattle.rustc_demangle.proofs.stream.line_writer.write_run.Goals as goal

pub returns-then-has_style-clause-text : goal.returns-then-has_style-clause-text
returns-then-has_style-clause-text g c =
    let same = c.read_run-symbol.ensures.text in
    let is = subst IsSymbol same (c.if-has_style.ensures.yes refl) in
    let text = ap (λ s. concat (handed_in s c.args.format)) same ∙ sym (replacement_in-symbol c.args.format c.args.run.now is) in
    on_ok_weaker c.write_symbol.result (subst (Appends (g.W.Write.contents c.args.output.now) (g.W.Write.contents c.write_symbol.new.output)) text) c.write_symbol.ensures.text

pub returns-else-has_style-clause-text : goal.returns-else-has_style-clause-text
returns-else-has_style-clause-text g c =
    let same = c.read_run-symbol.ensures.text in
    let text = c.as_bytes.ensures.value ∙ sym (replacement_in-no_symbol c.args.format c.args.run.now (λ is. c.if-has_style.ensures.no refl (subst IsSymbol (sym same) is))) in
    on_ok_weaker c.write_all.result (subst (Appends (g.W.Write.contents c.args.output.now) (g.W.Write.contents c.write_all.new.self)) text) c.write_all.ensures.bytes

pub returns-then-has_style-clause-prints : goal.returns-then-has_style-clause-prints
returns-then-has_style-clause-prints g c = prints_linear c.args.format c.read_run-symbol.result c.args.run.now _ _ c.read_run-symbol.ensures.text c.write_symbol.ensures.looks
