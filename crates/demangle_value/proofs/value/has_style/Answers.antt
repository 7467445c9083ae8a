use Rattle.std.proofs.Common.{sym, ◌∙◌}
use Rattle.demangle_value.proofs.SymbolLemmas.{styled_symbol, unstyled_no_symbol}
use Rattle.demangle_value.proofs.value.has_style.Goals as goal

pub returns-clause-yes : goal.returns-clause-yes
returns-clause-yes c h = rw (← c.text.view_is) (styled_symbol _ _ _ c.text.invariant (sym c.is_some.ensures ∙ h))

pub returns-clause-no : goal.returns-clause-no
returns-clause-no c h = rw (← c.text.view_is) (unstyled_no_symbol _ _ _ c.text.invariant (sym c.is_some.ensures ∙ h))
