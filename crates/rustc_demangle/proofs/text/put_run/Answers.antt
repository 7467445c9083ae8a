use Rattle.std.proofs.Common.{arith, refl, ap, sym, subst, ◌∙◌}
use Rattle.demangle_sink.specs.PutsPieces.{PutsPieces}
use Rattle.demangle_value.specs.Symbols.{handed_in, IsSymbol}
use Rattle.rustc_demangle.proofs.PieceLemmas.{run_pieces-symbol, run_pieces-no_symbol}
use Rattle.rustc_demangle.proofs.LinearLooks.{prints_once, run_linear}
use Rattle.demangle_value.proofs.LinearPrinting.{prints_linear}
use Rattle.rustc_demangle.proofs.text.put_run.Goals as goal

pub returns-then-has_style-clause-pieces : goal.returns-then-has_style-clause-pieces
returns-then-has_style-clause-pieces g c =
    subst (λ ps. PutsPieces g.S.TextSink c.args.out.now ps c.write_pieces.result c.write_pieces.new.out)
    (ap (λ s. handed_in s c.args.format) c.read_run-symbol.ensures.text
    ∙ run_pieces-symbol c.args.format _ (subst IsSymbol c.read_run-symbol.ensures.text (c.if-has_style.ensures.yes refl)))
    c.write_pieces.ensures.hands

pub returns-else-has_style-clause-pieces : goal.returns-else-has_style-clause-pieces
returns-else-has_style-clause-pieces g c =
    subst (λ ps. PutsPieces g.S.TextSink c.args.out.now ps c.put_piece.result c.put_piece.new.out)
    (run_pieces-no_symbol c.args.format _ (λ is. c.if-has_style.ensures.no refl (subst IsSymbol (sym c.read_run-symbol.ensures.text) is))) c.put_piece.ensures

pub returns-then-has_style-clause-linear : goal.returns-then-has_style-clause-linear
returns-then-has_style-clause-linear g c = λ some.
    run_linear c.args.format _ _ _ some (omega (arith, c.read_run-symbol.ensures.most))
    (prints_once c.args.format _ _ _ (prints_linear c.args.format c.read_run-symbol.result c.args.run.now _ _ c.read_run-symbol.ensures.text c.write_pieces.ensures.looks))

pub returns-else-has_style-clause-linear : goal.returns-else-has_style-clause-linear
returns-else-has_style-clause-linear g c = λ some.
    run_linear c.args.format _ _ _ some (omega (arith, c.read_run-symbol.ensures.most)) (λ e. omega arith)
