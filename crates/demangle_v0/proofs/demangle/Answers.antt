use Rattle.std.proofs.Common.{◌≡◌, true, false, length, ap, sym, arith, Some, None, Option, ℕ}
use Rattle.demangle_v0_grammar.specs.Reading.{starts_second_path, suffix_place}
use Rattle.demangle_v0_grammar.proofs.LooksLaw.{accepting_costs}
use Rattle.demangle_v0_grammar.proofs.V0Reading.{v0_not_begun, v0_no_paths, v0_there, suffix_within}
use Rattle.demangle_v0.proofs.demangle.Goals as goal

pub returns-then-not-begins_path-clause-err : goal.returns-then-not-begins_path-clause-err
returns-then-not-begins_path-clause-err c =
    let begun : false ≡ starts_second_path c.in-Some.inner.now 0 = rw (← c.new-symbol.ensures) c.if-not-begins_path.ensures.value in
    v0_not_begun c.args.s.now c.in-Some.inner.now c.in-Some.ensures.some c.in-Some.ensures.ascii (sym begun)

pub returns-in_default-suffix_at-clause-err : goal.returns-in_default-suffix_at-clause-err
returns-in_default-suffix_at-clause-err c =
    let begun : true ≡ starts_second_path c.in-Some.inner.now 0 = rw (← c.new-symbol.ensures) c.if-not-begins_path.ensures.value in
    let none : ◌≡◌ {A = Option ℕ} None (suffix_place c.in-Some.inner.now) = rw (← c.new-symbol.ensures) c.in_default-suffix_at.ensures.value in
    v0_no_paths c.args.s.now c.in-Some.inner.now c.in-Some.ensures.some c.in-Some.ensures.ascii (sym begun) none

pub returns-in_default-suffix_at-clause-most : goal.returns-in_default-suffix_at-clause-most
returns-in_default-suffix_at-clause-most c =
    omega (arith, accepting_costs c.new-symbol.result, ap length c.new-symbol.ensures, c.in-Some.ensures.shorter, c.ascii_inner_of.ensures.most, c.begins_path.ensures.look, c.suffix_at.ensures.looks)

pub range_from-requires : goal.range_from-requires
range_from-requires c =
    let place : Some c.in-Some-suffix_at.end ≡ suffix_place c.in-Some.inner.now = rw (← c.new-symbol.ensures) c.in-Some-suffix_at.ensures.value in
    λ _. (suffix_within c.in-Some.inner.now c.in-Some-suffix_at.end place, λ _ high. absurd (omega (arith, high, c.in-Some.ensures.ascii c.in-Some-suffix_at.end)))

pub returns-clause-ok : goal.returns-clause-ok
returns-clause-ok c =
    let begun : true ≡ starts_second_path c.in-Some.inner.now 0 = rw (← c.new-symbol.ensures) c.if-not-begins_path.ensures.value in
    let place : Some c.in-Some-suffix_at.end ≡ suffix_place c.in-Some.inner.now = rw (← c.new-symbol.ensures) c.in-Some-suffix_at.ensures.value in
    rw (c.new.ensures, c.new-symbol.ensures, c.range_from.ensures.value)
    (v0_there c.args.s.now c.in-Some.inner.now c.in-Some-suffix_at.end c.in-Some.ensures.some c.in-Some.ensures.ascii (sym begun) place)

pub returns-clause-most : goal.returns-clause-most
returns-clause-most c =
    omega (arith, accepting_costs c.new-symbol.result, ap length c.new-symbol.ensures, c.in-Some.ensures.shorter, c.ascii_inner_of.ensures.most, c.begins_path.ensures.look, c.suffix_at.ensures.looks)
