use Rattle.std.proofs.Common.{sym, ◌∙◌}
use Rattle.std.proofs.lemmas.Result.{on_err_weaker}
use Rattle.demangle_symbol.proofs.Integers.{not_optional}
use Rattle.demangle_symbol.proofs.IntegerEnds.{ends_absent, ends_there, optional_ends}
use Rattle.demangle_symbol.proofs.cursor.Symbol.after_disambiguator.Goals as goal

pub returns-then-not-is_at-clause-read : goal.returns-then-not-is_at-clause-read
returns-then-not-is_at-clause-read c = sym (ends_absent 115 _ _ (sym c.if-not-is_at.ensures.there))

pub returns-clause-ok : goal.returns-clause-ok
returns-clause-ok c = optional_ends c.after_tag.result 115 _ _ (sym c.if-not-is_at.ensures.there) c.after_tag.ensures.ok

pub returns-clause-err : goal.returns-clause-err
returns-clause-err c = on_err_weaker _ (not_optional _ _ _ c.if-not-is_at.ensures.there) c.after_tag.ensures.err

pub returns-clause-read : goal.returns-clause-read
returns-clause-read c = c.after_tag.ensures.read ∙ sym (ends_there 115 _ _ (sym c.if-not-is_at.ensures.there))
