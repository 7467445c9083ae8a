use Rattle.std.specs.Prelude.{IfSome, OnErr}
use Rattle.std.proofs.Common.{◌≡◌, ℕ, Option, None, Some, Result, Ok, Err, refl, arith}
use Rattle.demangle_v0.proofs.WholePaths.{valid_first, printed_end}
use Rattle.demangle_v0.proofs.PrintLoop.{ended_at, prints_to, stops_few}
use Rattle.demangle_v0.proofs.validation.print_to_suffix.Goals as goal

if_some : {most : Option ℕ} {P : ℕ → Type 0} → ((k : ℕ) → most ≡ Some k → P k) → IfSome most P
if_some {most = None} h = tt
if_some {most = Some k} h = h k refl

on_err : {A B P : Type 0} (r : Result A B) → P → OnErr r P
on_err (Ok x) p = tt
on_err (Err e) p = p

pub print_steps-requires-clause-valid : goal.print_steps-requires-clause-valid
print_steps-requires-clause-valid g c = rw (c.requires.path, c.requires.state, c.requires.empty) (valid_first 0)

pub end_after-requires-clause-first : goal.end_after-requires-clause-first
end_after-requires-clause-first g c =
    let some = c.in-Some.ensures.some in
    rw c.in_ok-left.ensures.same.0
    (printed_end g.S.TextSink c.args.parser.now.source.symbol.now c.args.parser.now.source.form
    (rw (c.requires.path, c.requires.state, c.requires.empty) at (ended_at some.0 some.1 c.in_ok-left.ensures.ran)))

pub returns-in_err-left-clause-most : goal.returns-in_err-left-clause-most
returns-in_err-left-clause-most g c = if_some (λ k e.
    let few = stops_few g.S.TextSink c.args.parser.now.source.symbol.now c.args.parser.now.source.form k _ e (rw (c.requires.path, c.requires.state, c.requires.empty) at c.in_err-left.ensures.ran) in
    omega (arith, few))

pub returns-in_err-left-clause-early : goal.returns-in_err-left-clause-early
returns-in_err-left-clause-early g c = if_some (λ k e.
    on_err _ (stops_few g.S.TextSink c.args.parser.now.source.symbol.now c.args.parser.now.source.form k _ e (rw (c.requires.path, c.requires.state, c.requires.empty) at c.in_err-left.ensures.ran)))

pub returns-in_default-clause-most : goal.returns-in_default-clause-most
returns-in_default-clause-most g c = if_some (λ k e.
    let few = stops_few g.S.TextSink c.args.parser.now.source.symbol.now c.args.parser.now.source.form k _ e (rw (c.requires.path, c.requires.state, c.requires.empty) at c.in_ok-left.ensures.ran) in
    omega (arith, few))

pub returns-in_default-clause-early : goal.returns-in_default-clause-early
returns-in_default-clause-early g c = if_some (λ k e.
    stops_few g.S.TextSink c.args.parser.now.source.symbol.now c.args.parser.now.source.form k _ e (rw (c.requires.path, c.requires.state, c.requires.empty) at c.in_ok-left.ensures.ran))

pub returns-clause-prints : goal.returns-clause-prints
returns-clause-prints g c =
    let some = c.in-Some.ensures.some in
    prints_to g.S.TextSink c.args.parser.now.source.symbol.now c.args.parser.now.source.form c.requires.ready
    (rw (c.requires.path, c.requires.state, c.requires.empty) at (ended_at some.0 some.1 c.in_ok-left.ensures.ran))

pub returns-clause-most : goal.returns-clause-most
returns-clause-most g c = if_some (λ k e.
    let few = stops_few g.S.TextSink c.args.parser.now.source.symbol.now c.args.parser.now.source.form k _ e (rw (c.requires.path, c.requires.state, c.requires.empty) at c.in_ok-left.ensures.ran) in
    omega (arith, few, rw c.in_ok-left.ensures.same.0 at c.end_after.ensures.most))
