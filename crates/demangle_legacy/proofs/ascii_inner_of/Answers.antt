use Rattle.std.proofs.Common.{refl, sym}
use Rattle.std.proofs.lemmas.Bool.{false≢true}
use Rattle.demangle_legacy.proofs.LegacyLaws.{legacy_no_prefix, legacy_not_ascii}
use Rattle.demangle_legacy.proofs.LegacyPrefix.{inner_ascii}
use Rattle.demangle_legacy.proofs.ascii_inner_of.Goals as goal

pub returns-in_default-clause-none : goal.returns-in_default-clause-none
returns-in_default-clause-none c = legacy_no_prefix c.args.s.now c.in_default.ensures.inner

pub returns-then-is_ascii-clause-ascii : goal.returns-then-is_ascii-clause-ascii
returns-then-is_ascii-clause-ascii c = inner_ascii c.args.s.now c.in-Some.inner.now (sym c.in-Some.ensures.inner) (c.requires c.if-is_ascii.true)

pub returns-then-not-is_ascii-clause-none : goal.returns-then-not-is_ascii-clause-none
returns-then-not-is_ascii-clause-none c =
    legacy_not_ascii c.args.s.now c.in-Some.inner.now c.in-Some.ensures.inner (λ a. false≢true (c.if-not-is_ascii.ensures.ascii.1 (rw c.new.ensures a)))

pub returns-clause-ascii : goal.returns-clause-ascii
returns-clause-ascii c = rw (← c.new.ensures) (c.if-not-is_ascii.ensures.ascii.0 refl)
