use Rattle.std.proofs.lemmas.Result.{on_err_weaker}
use Rattle.demangle_symbol.proofs.Integers.{not_optional}
use Rattle.demangle_symbol.proofs.cursor.Symbol.opt_integer_62.Goals as goal

pub returns-clause-err : goal.returns-clause-err
returns-clause-err c = on_err_weaker _ (not_optional _ _ _ c.if-not-is_at.ensures.there) c.integer_after_tag.ensures.err
