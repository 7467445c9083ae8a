use Rattle.std.proofs.Common.{arith}
use Rattle.demangle_value.proofs.SymbolLemmas.{no_pieces, no_symbol_unstyled, style_suffix-shorter}
use Rattle.demangle_value.proofs.value.Demangle.read.Goals as goal

pub returns-in_default-clause-least : goal.returns-in_default-clause-least
returns-in_default-clause-least c _ symbol =
    let none = c.in_default.ensures.none in
    absurd (no_symbol_unstyled c.args.text.now (λ form. no_pieces form c.args.text.now none.0 none.1) symbol)

pub returns-clause-most : goal.returns-clause-most
returns-clause-most c =
    omega (arith, c.in-Some.ensures.most, c.is_allowed-allowed.ensures.most, style_suffix-shorter _ _ _ c.in-Some.ensures.some)
