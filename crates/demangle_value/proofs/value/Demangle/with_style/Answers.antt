use Rattle.std.proofs.Common.{sym, ◌∙◌}
use Rattle.demangle_value.proofs.SymbolLemmas.{not_allowed_unstyled}
use Rattle.demangle_value.proofs.value.Demangle.with_style.Goals as goal

pub without_style-requires : goal.without_style-requires
without_style-requires c = not_allowed_unstyled _ _ _ c.requires.read (sym c.requires.allowed ∙ c.if-not-allowed.true)
