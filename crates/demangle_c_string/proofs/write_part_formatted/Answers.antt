use Rattle.std.proofs.Common.{◌≡◌, length, drop, sym, ap, subst, ◌∙◌, arith}
use Rattle.std.proofs.lemmas.List.{length-drop}
use Rattle.rustc_demangle.specs.Slice.{overlay}
use Rattle.demangle_value.specs.Symbols.{IsSymbol, handed_in}
use Rattle.demangle_value.specs.declared.format.Format.{Format}
use Rattle.std.specs.List.{concat}
use Rattle.demangle_value.proofs.Stripping.{stripped-shorter}
use Rattle.demangle_value.proofs.SymbolLaws.{size_symbol_in, length_handed_in}
use Rattle.demangle_c_string.specs.CString.{c_string, path_in}
use Rattle.demangle_c_string.proofs.PathLimits.{capped_limit}
use Rattle.demangle_c_string.proofs.write_part_formatted.Goals as goal

pub write_path-len-requires : goal.write_path-len-requires
write_path-len-requires c =
    let d = c.in-Some.demangled in
    let is : IsSymbol d = subst IsSymbol (sym c.in-Some.ensures.text) c.in-Some.ensures.symbol in
    omega (arith, size_symbol_in d c.capped.result is, capped_limit c.capped.result c.args.format d c.capped.ensures, ap length c.in-Some.ensures.text, stripped-shorter c.args.symbol.now)

pub overflow_add-result : goal.overflow_add-result
overflow_add-result c =
    let d = c.in-Some.demangled in
    let is : IsSymbol d = subst IsSymbol (sym c.in-Some.ensures.text) c.in-Some.ensures.symbol in
    omega (arith, c.write_path-len.ensures.len, length_handed_in d c.capped.result is, capped_limit c.capped.result c.args.format d c.capped.ensures, ap length c.in-Some.ensures.text, stripped-shorter c.args.symbol.now)

pub returns-clause-text : goal.returns-clause-text
returns-clause-text c named =
    let memory = c.args.out.now in
    let most : Format = c.capped.result in
    let start = c.args.start in
    let path = concat (handed_in c.in-Some.demangled most) in
    let counted : length (drop start path) ≡ c.saturating_sub.result =
    omega (arith, length-drop start path, c.write_path-len.ensures.len, c.saturating_sub.ensures) in
    c.put_nul.ensures memory (drop start path) c.write_path-len.ensures.bytes counted
    ∙ ap (λ s. overlay memory (c_string (length memory) (drop start (concat (handed_in s most))))) c.in-Some.ensures.text
    ∙ ap (λ (n : Format). overlay memory (c_string (length memory) (drop start (path_in c.args.symbol.now n)))) c.capped.ensures
