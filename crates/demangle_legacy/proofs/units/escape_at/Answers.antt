use Rattle.std.proofs.Common.{◌+◌, Some, None, sym, ap, ◌∙◌, arith}
use Rattle.std.specs.Char.{encode_utf8}
use Rattle.demangle_legacy.proofs.LegacyEscapes.{no_byte, no_name, one_open, one_comma, one_letter, two_open, two_more, two_letters}
use Rattle.demangle_legacy.proofs.units.escape_at.Goals as goal

pub returns-then-part-from-clause-unit : goal.returns-then-part-from-clause-unit
returns-then-part-from-clause-unit c = no_name c.args.symbol.now c.args.part.from c.args.part.to c.requires c.if-part-from.true

pub returns-in_err-first-clause-unit : goal.returns-in_err-first-clause-unit
returns-in_err-first-clause-unit c = absurd (no_byte c.args.symbol.now c.args.part.from (omega arith) c.in_err-first.ensures.byte)

pub returns-then-part-from-lt2-clause-unit : goal.returns-then-part-from-lt2-clause-unit
returns-then-part-from-lt2-clause-unit c =
    one_open c.args.symbol.now c.args.part.from c.args.part.to c.in_ok-first.first c.requires (omega arith) (sym c.in_ok-first.ensures.byte)

pub returns-in_err-second-clause-unit : goal.returns-in_err-second-clause-unit
returns-in_err-second-clause-unit c = absurd (no_byte c.args.symbol.now (c.args.part.from + 1) (omega arith) c.in_err-second.ensures.byte)

pub returns-then-first-eq67-clause-unit : goal.returns-then-first-eq67-clause-unit
returns-then-first-eq67-clause-unit c =
    one_comma c.args.symbol.now c.args.part.from c.args.part.to c.in_ok-first.first c.requires (omega arith) (sym c.in_ok-first.ensures.byte)
    (sym c.in_ok-second.ensures.byte ∙ ap (λ b. Some b) c.if-second-eq36.true) c.if-first-eq67.true

pub returns-then-second-eq36-clause-unit : goal.returns-then-second-eq36-clause-unit
returns-then-second-eq36-clause-unit c =
    one_letter c.args.symbol.now c.args.part.from c.args.part.to c.in_ok-first.first c.requires (omega arith) (sym c.in_ok-first.ensures.byte)
    (sym c.in_ok-second.ensures.byte ∙ ap (λ b. Some b) c.if-second-eq36.true) c.if-first-eq117.false c.if-first-eq67.false

pub returns-then-part-from-lt3-clause-unit : goal.returns-then-part-from-lt3-clause-unit
returns-then-part-from-lt3-clause-unit c =
    two_open c.args.symbol.now c.args.part.from c.args.part.to c.in_ok-first.first c.in_ok-second.second c.requires (omega arith) (sym c.in_ok-first.ensures.byte)
    (sym c.in_ok-second.ensures.byte) c.if-second-eq36.false

pub returns-then-not-is_at-clause-unit : goal.returns-then-not-is_at-clause-unit
returns-then-not-is_at-clause-unit c =
    two_more c.args.symbol.now c.args.part.from c.args.part.to c.in_ok-first.first c.in_ok-second.second c.requires (omega arith) (sym c.in_ok-first.ensures.byte)
    (sym c.in_ok-second.ensures.byte) c.if-first-eq117.false c.if-second-eq36.false (sym c.is_at.ensures.there ∙ c.if-not-is_at.true)

pub returns-in_err-c-clause-unit : goal.returns-in_err-c-clause-unit
returns-in_err-c-clause-unit c =
    rw c.from_residual-in_err-c.ensures
    (two_letters c.args.symbol.now c.args.part.from c.args.part.to c.in_ok-first.first c.in_ok-second.second None c.requires (omega arith) (sym c.in_ok-first.ensures.byte)
    (sym c.in_ok-second.ensures.byte) c.if-second-eq36.false (sym c.is_at.ensures.there ∙ c.if-not-is_at.false) c.in_err-c.ensures)

pub returns-clause-unit : goal.returns-clause-unit
returns-clause-unit c =
    two_letters c.args.symbol.now c.args.part.from c.args.part.to c.in_ok-first.first c.in_ok-second.second (Some (encode_utf8 c.in_ok-c.c)) c.requires (omega arith) (sym c.in_ok-first.ensures.byte)
    (sym c.in_ok-second.ensures.byte) c.if-second-eq36.false (sym c.is_at.ensures.there ∙ c.if-not-is_at.false) c.in_ok-c.ensures
