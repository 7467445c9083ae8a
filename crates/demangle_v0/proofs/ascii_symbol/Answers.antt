use Rattle.std.proofs.Common.{length, ◌++◌, subst, sym, refl}
use Rattle.std.specs.Prelude.{IsAscii}
use Rattle.std.proofs.Math.Seq.{drop-append_seam}
use Rattle.std.proofs.lemmas.Str.{IsAscii-drop}
use Rattle.demangle_v0_grammar.proofs.V0Reading.{inner_prefix}
use Rattle.demangle_v0.proofs.ascii_symbol.Goals as goal

pub new-requires-in-Some : goal.new-requires-in-Some
new-requires-in-Some c =
    let inner = c.in-Some.inner.now in
    let ascii : IsAscii c.args.s.now = rw (← c.new-text.ensures) (c.if-not-is_ascii.ensures.ascii.0 refl) in
    let prefix = inner_prefix c.args.s.now inner (sym c.in-Some.ensures.inner) in
    rw (c.new.ensures) (subst IsAscii (drop-append_seam prefix.0 inner) (IsAscii-drop (prefix.0 ++ inner) (length prefix.0) (subst IsAscii prefix.1 ascii)))
