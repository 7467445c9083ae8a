use Rattle.std.proofs.Common.{◌≡◌, true, false, sym, arith, Some, None, Option, ℕ}
use Rattle.demangle_v0_grammar.specs.Reading.{starts_second_path, suffix_place}
use Rattle.demangle_v0_grammar.proofs.V0Reading.{v0_not_begun, v0_no_paths, v0_there, suffix_within}
use Rattle.demangle_v0.proofs.print_first.Goals as goal

pub returns-then-not-begins_path-clause-known : goal.returns-then-not-begins_path-clause-known
returns-then-not-begins_path-clause-known g c =
    let begun : false ≡ starts_second_path c.in-Some.inner.now 0 = rw (← c.new-symbol.ensures) c.if-not-begins_path.ensures.value in
    v0_not_begun c.args.s.now c.in-Some.inner.now c.in-Some.ensures.some c.in-Some.ensures.ascii (sym begun)

pub range_from-requires : goal.range_from-requires
range_from-requires g c =
    let is = rw c.in-Ok-Some.is at c.in-Ok-Some.field-0-is in
    let place : Some c.in-Ok-Some.end ≡ suffix_place c.in-Some.inner.now = rw (is, c.at_path-parser.ensures, c.new-symbol.ensures) at (rw c.in-Ok-Some.is at c.print_to_suffix-end.ensures.suffix) in
    λ _. (suffix_within c.in-Some.inner.now c.in-Ok-Some.end place, λ _ high. absurd (omega (arith, high, c.in-Some.ensures.ascii c.in-Ok-Some.end)))

pub returns-in-Ok-Some-clause-known : goal.returns-in-Ok-Some-clause-known
returns-in-Ok-Some-clause-known g c =
    let is = rw c.in-Ok-Some.is at c.in-Ok-Some.field-0-is in
    let begun : true ≡ starts_second_path c.in-Some.inner.now 0 = rw (← c.new-symbol.ensures) c.if-not-begins_path.ensures.value in
    let place : Some c.in-Ok-Some.end ≡ suffix_place c.in-Some.inner.now = rw (is, c.at_path-parser.ensures, c.new-symbol.ensures) at (rw c.in-Ok-Some.is at c.print_to_suffix-end.ensures.suffix) in (
      rw (c.new.ensures, c.new-symbol.ensures, c.range_from.ensures.value) (v0_there c.args.s.now c.in-Some.inner.now c.in-Ok-Some.end c.in-Some.ensures.some c.in-Some.ensures.ascii (sym begun) place),
      rw c.new.ensures (rw c.at_path-parser.ensures at (rw c.in-Ok-Some.is at c.print_to_suffix-end.ensures.prints)),
    )

pub returns-in-Ok-None-clause-known : goal.returns-in-Ok-None-clause-known
returns-in-Ok-None-clause-known g c =
    let is = rw c.in-Ok-None.is at c.in-Ok-None.field-0-is in
    let begun : true ≡ starts_second_path c.in-Some.inner.now 0 = rw (← c.new-symbol.ensures) c.if-not-begins_path.ensures.value in
    let none : ◌≡◌ {A = Option ℕ} None (suffix_place c.in-Some.inner.now) = rw (← c.new-symbol.ensures) (rw (is, c.at_path-parser.ensures) at (rw c.in-Ok-None.is at c.print_to_suffix-end.ensures.suffix)) in
    v0_no_paths c.args.s.now c.in-Some.inner.now c.in-Some.ensures.some c.in-Some.ensures.ascii (sym begun) none
