use Rattle.std.proofs.Common.{◌≡◌, Some, drop}
use Rattle.demangle_legacy.specs.Legacy.{suffix_of}
use Rattle.demangle_legacy.proofs.LegacyLaws.{legacy_ascii, some_suffix}
use Rattle.demangle_legacy.proofs.demangle_printed.Goals as goal

pub returns-clause-some : goal.returns-clause-some
returns-clause-some g c =
    let inner = c.in_ok-inner.inner.now in
    let printed = rw c.in-Ok-Some.field-0-is at c.in-Ok-Some.ensures in
    let suffix : Some (drop c.in-Ok-Some.end inner) ≡ suffix_of inner = rw (← c.new-symbol.ensures) printed.end in
    rw (c.new.ensures, c.new-symbol.ensures, c.range_from.ensures.value)
    (legacy_ascii c.args.s.now inner (Some (drop c.in-Ok-Some.end inner)) c.in_ok-inner.ensures.some c.in_ok-inner.ensures.ascii suffix)

pub returns-clause-prints : goal.returns-clause-prints
returns-clause-prints g c =
    let printed = rw c.in-Ok-Some.field-0-is at c.in-Ok-Some.ensures in
    rw c.new.ensures (printed.prints (some_suffix c.new-symbol.result (drop c.in-Ok-Some.end c.new-symbol.result) printed.end))
