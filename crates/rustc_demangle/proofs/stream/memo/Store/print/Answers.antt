use Rattle.std.specs.List.{concat}
use Rattle.std.proofs.Common.{◌≡◌, ℕ, List, length, subst, ap, ◌∙◌}
use Rattle.demangle_value.specs.Filtered.{replacement_in}
use Rattle.demangle_value.specs.LinearPrinting.{PrintsLinear}
use Rattle.demangle_value.specs.Stripped.{stripped}
use Rattle.demangle_value.specs.Symbols.{IsSymbol, PrintingLooksIn, handed_in}
use Rattle.demangle_value.specs.declared.format.Format.{Format}
use Rattle.demangle_value.proofs.RunLemmas.{symbol_replaced, run_kept}
use Rattle.demangle_value.proofs.LinearPrinting.{prints_linear}
use Rattle.rustc_demangle.proofs.LinearLooks.{prints_again}
use Rattle.rustc_demangle.proofs.stream.memo.Store.print.Goals as goal

-- the format is the same after the run was read

replaced : (format same : Format) (run text : List ℕ) → same ≡ format → text ≡ stripped run → IsSymbol text → concat (handed_in text same) ≡ replacement_in format run
replaced format same run text e read is = ap (λ f. concat (handed_in text f)) e ∙ symbol_replaced run text format read is

printed_twice : (format same : Format) (run text : List ℕ) (old mid new : ℕ) → same ≡ format → text ≡ stripped run → PrintsLinear format 1 (length run) old mid → PrintingLooksIn text same mid new → PrintsLinear format 2 (length run) old new
printed_twice format same run text old mid new e read p q =
    prints_again format _ old mid new p (prints_linear format text run mid new read (subst (λ f. PrintingLooksIn text f mid new) e q))

pub returns-then-not-has_style-clause-text : goal.returns-then-not-has_style-clause-text
returns-then-not-has_style-clause-text c =
    run_kept c.args.run.now c.in-Some.symbol c.args.self.now.format c.in-Some.ensures.read (c.has_style.ensures.no c.if-not-has_style.true)

pub returns-then-print_to_buffer-clause-text : goal.returns-then-print_to_buffer-clause-text
returns-then-print_to_buffer-clause-text c =
    c.print_to_buffer.ensures.text c.if-print_to_buffer.true
    ∙ replaced c.args.self.now.format _ c.args.run.now c.in-Some.symbol c.in-Some.ensures.format c.in-Some.ensures.read (c.has_style.ensures.yes c.if-not-has_style.false)

pub returns-then-print_to_buffer-clause-prints : goal.returns-then-print_to_buffer-clause-prints
returns-then-print_to_buffer-clause-prints c =
    printed_twice c.args.self.now.format _ c.args.run.now c.in-Some.symbol _ _ _ c.in-Some.ensures.format c.in-Some.ensures.read c.in-Some.ensures.prints c.print_to_buffer.ensures.looks

pub returns-else-print_to_buffer-clause-prints : goal.returns-else-print_to_buffer-clause-prints
returns-else-print_to_buffer-clause-prints c =
    printed_twice c.args.self.now.format _ c.args.run.now c.in-Some.symbol _ _ _ c.in-Some.ensures.format c.in-Some.ensures.read c.in-Some.ensures.prints c.print_to_buffer.ensures.looks
