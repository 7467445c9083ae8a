use Rattle.std.proofs.Common.{sym, ◌∙◌}
use Rattle.demangle_symbol.proofs.Integers.{optional_there}
use Rattle.demangle_symbol.proofs.IntegerEnds.{end_read, value_read}
use Rattle.demangle_symbol.proofs.cursor.Symbol.disambiguator_if.Goals as goal

pub returns-then-is_needed-clause-read : goal.returns-then-is_needed-clause-read
returns-then-is_needed-clause-read c =
    let there = optional_there 115 _ _ (sym c.if-not-is_at.ensures.there) in
    value_read c.integer_after_tag.result _ _ (c.integer_after_tag.ensures.read ∙ sym there)

pub returns-clause-read : goal.returns-clause-read
returns-clause-read c =
    let there = optional_there 115 _ _ (sym c.if-not-is_at.ensures.there) in
    let read = end_read _ _ c.in-Ok.ensures.read in
    (read.0, (λ needed. let other = c.if-is_needed.false in absurd (cc)), read.1 ∙ sym there)
