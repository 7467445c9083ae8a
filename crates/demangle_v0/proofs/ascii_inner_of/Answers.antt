use Rattle.std.proofs.Common.{◌≡◌, ℕ, List, Some, length, ◌++◌, refl, sym, subst}
use Rattle.std.specs.Prelude.{IsAscii}
use Rattle.std.proofs.Math.Seq.{drop-append_seam}
use Rattle.std.proofs.lemmas.Bool.{false≢true}
use Rattle.std.proofs.lemmas.Str.{IsAscii-drop}
use Rattle.demangle_v0_grammar.specs.V0.{v0_inner}
use Rattle.demangle_v0_grammar.proofs.V0Reading.{inner_prefix, v0_no_prefix, v0_not_ascii}
use Rattle.demangle_v0.proofs.ascii_inner_of.Goals as goal

-- the text after the prefix of an ASCII text is ASCII
inner_ascii : (s x : List ℕ) → v0_inner s ≡ Some x → IsAscii s → IsAscii x
inner_ascii s x e h =
    let p = inner_prefix s x e in
    subst IsAscii (drop-append_seam p.0 x) (IsAscii-drop (p.0 ++ x) (length p.0) (subst IsAscii p.1 h))

pub returns-in_default-clause-none : goal.returns-in_default-clause-none
returns-in_default-clause-none c = v0_no_prefix c.args.s.now c.in_default.ensures.inner

pub returns-then-is_ascii-clause-ascii : goal.returns-then-is_ascii-clause-ascii
returns-then-is_ascii-clause-ascii c = inner_ascii c.args.s.now c.in-Some.inner.now (sym c.in-Some.ensures.inner) (c.requires c.if-is_ascii.true)

pub returns-then-not-is_ascii-clause-none : goal.returns-then-not-is_ascii-clause-none
returns-then-not-is_ascii-clause-none c =
    v0_not_ascii c.args.s.now c.in-Some.inner.now c.in-Some.ensures.inner (λ a. false≢true (c.if-not-is_ascii.ensures.ascii.1 (rw c.new.ensures a)))

pub returns-clause-ascii : goal.returns-clause-ascii
returns-clause-ascii c = rw (← c.new.ensures) (c.if-not-is_ascii.ensures.ascii.0 refl)
