use Rattle.std.proofs.Common.{sym, arith, subst, ◌+◌, ◌*◌}
use Rattle.demangle_symbol.specs.Idents.{DigitsUpTo}
use Rattle.demangle_symbol.proofs.Digits.{digits_more, digits_decimal}
use Rattle.demangle_symbol.proofs.Idents.{digits_one, digits_two}
use Rattle.demangle_symbol.proofs.cursor.Symbol.decimal.Goals as goal

pub returns-in_default-digit-clause-ok : goal.returns-in_default-digit-clause-ok
returns-in_default-digit-clause-ok c =
    let read : DigitsUpTo c.args.self.now c.args.place (c.args.place + 1) c.in-Some.first =
    digits_one _ _ _ c.in-Some.ensures.digit c.in-Some.ensures.small in
    rw c.from-one.ensures (digits_decimal _ _ _ _ read (omega arith) c.in_default-digit.ensures.none)

pub returns-in_default-digit-2-clause-ok : goal.returns-in_default-digit-2-clause-ok
returns-in_default-digit-2-clause-ok c =
    let read : DigitsUpTo c.args.self.now c.args.place (c.args.place + 2) (c.in-Some.first * 10 + c.in-Some-digit.second) =
    digits_two _ _ _ _ c.in-Some.ensures.digit c.in-Some.ensures.small c.in-Some-digit.ensures.digit c.in-Some-digit.ensures.small in
    rw (c.from-one.ensures, c.from.ensures) (digits_decimal _ _ _ _ read (omega arith) c.in_default-digit-2.ensures.none)

pub decimal_from-requires : goal.decimal_from-requires
decimal_from-requires c =
    let read : DigitsUpTo c.args.self.now c.args.place (c.args.place + 2) (c.in-Some.first * 10 + c.in-Some-digit.second) =
    digits_two _ _ _ _ c.in-Some.ensures.digit c.in-Some.ensures.small c.in-Some-digit.ensures.digit c.in-Some-digit.ensures.small in
    let more = digits_more _ _ _ _ c.in-Some-digit-2.third read c.in-Some-digit-2.ensures.digit c.in-Some-digit-2.ensures.small in
    record { digits = rw (c.from-one.ensures, c.from.ensures, c.from-2.ensures) (subst (λ k. DigitsUpTo c.args.self.now c.args.place k ((c.in-Some.first * 10 + c.in-Some-digit.second) * 10 + c.in-Some-digit-2.third)) (omega arith) more) }
