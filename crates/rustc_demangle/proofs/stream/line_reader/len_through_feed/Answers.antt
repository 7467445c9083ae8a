use Rattle.std.proofs.Common.{◌≡◌, ◌≢◌, ◌-◌, All, length, take, get_or, subst, sym, ◌∙◌, arith, le_refl, take_all, take-take}
use Rattle.std.proofs.lemmas.Bool.Decides.{nat_tests}
use Rattle.std.proofs.lemmas.List.Elements.{All-take}
use Rattle.demangle_sink.proofs.Fillings.{take_through-met, take_through-none}
use Rattle.demangle_value.proofs.Searches.{none_met}
use Rattle.rustc_demangle.proofs.stream.line_reader.len_through_feed.Goals as goal

pub returns-in-Some-clause-through : goal.returns-in-Some-clause-through
returns-in-Some-clause-through c =
    let bytes = c.args.bytes.now in
    let found = c.in-Some.ensures in
    let met : get_or bytes c.in-Some.at 0 ≡ 10 = grind (arith, nat_tests, found.1) in
    take_through-met bytes c.in-Some.at found.0.high met (none_met 10 bytes c.in-Some.at (omega (arith, found.0.high)) found.0.before)

pub returns-in-None-clause-before : goal.returns-in-None-clause-before
returns-in-None-clause-before c =
    let bytes = c.args.bytes.now in
    let n = length bytes in
    subst (All (λ x. x ≢ 10)) (take-take (n - 1) n bytes (omega arith)) (All-take (λ x. x ≢ 10) (n - 1) _ (none_met 10 bytes n (le_refl n) c.in-None.ensures))

pub returns-in-None-clause-through : goal.returns-in-None-clause-through
returns-in-None-clause-through c =
    let bytes = c.args.bytes.now in
    let n = length bytes in
    let all : take n bytes ≡ bytes = take_all n bytes (le_refl n) in
    all ∙ sym (take_through-none bytes (subst (All (λ x. x ≢ 10)) all (none_met 10 bytes n (le_refl n) c.in-None.ensures)))
