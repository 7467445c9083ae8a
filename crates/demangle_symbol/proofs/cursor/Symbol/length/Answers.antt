use Rattle.std.proofs.Common.{sym}
use Rattle.std.proofs.lemmas.Result.{on_err_weaker}
use Rattle.demangle_symbol.proofs.Idents.{length_none, no_length}
use Rattle.demangle_symbol.proofs.cursor.Symbol.length.Goals as goal

pub returns-then-is_at-clause-ok : goal.returns-then-is_at-clause-ok
returns-then-is_at-clause-ok c = length_none _ _ (sym c.if-is_at.ensures.there)

pub returns-clause-err : goal.returns-clause-err
returns-clause-err c = on_err_weaker _ (no_length _ _ (sym c.if-is_at.ensures.there)) c.decimal.ensures.err
