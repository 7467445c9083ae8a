use Rattle.std.proofs.Common.{sym}
use Rattle.demangle_symbol.proofs.IntegerEnds.{ends_some, ends_none}
use Rattle.demangle_symbol.proofs.cursor.Symbol.after_tag.Goals as goal

pub returns-in_default-clause-read : goal.returns-in_default-clause-read
returns-in_default-clause-read c = sym (ends_none _ _ c.in_default.ensures.none)

pub returns-clause-read : goal.returns-clause-read
returns-clause-read c = let more = c.in-Some.ensures.some in sym (ends_some _ _ _ more.0 more.1)
