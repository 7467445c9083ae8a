use Rattle.std.proofs.Common.{◌≡◌, ℕ, List, Option, Some, None, drop}
use Rattle.demangle_legacy.specs.Legacy.{suffix_of}
use Rattle.demangle_legacy.proofs.LegacyLaws.{legacy_ascii}
use Rattle.demangle_legacy.proofs.demangle.Goals as goal

pub returns-in_default-end_of-clause-err : goal.returns-in_default-end_of-clause-err
returns-in_default-end_of-clause-err c =
    let none : ◌≡◌ {A = Option (List ℕ)} None (suffix_of c.in-Some.inner.now) = rw (← c.new-symbol.ensures) c.in_default-end_of.ensures.end in
    legacy_ascii c.args.s.now c.in-Some.inner.now None c.in-Some.ensures.some c.in-Some.ensures.ascii none

pub returns-clause-ok : goal.returns-clause-ok
returns-clause-ok c =
    let inner = c.in-Some.inner.now in
    let suffix : Some (drop c.in-Some-end_of.end inner) ≡ suffix_of inner = rw (← c.new-symbol.ensures) c.in-Some-end_of.ensures.end in
    rw (c.new.ensures, c.new-symbol.ensures, c.range_from.ensures.value)
    (legacy_ascii c.args.s.now inner (Some (drop c.in-Some-end_of.end inner)) c.in-Some.ensures.some c.in-Some.ensures.ascii suffix)
