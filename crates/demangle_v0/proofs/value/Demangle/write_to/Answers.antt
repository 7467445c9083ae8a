use Rattle.std.specs.Prelude.{IfSome}
use Rattle.std.proofs.Common.{◌≡◌, ℕ, Option, None, Some, refl}
use Rattle.demangle_v0.proofs.WholePaths.{valid_first}
use Rattle.demangle_v0.proofs.PrintLoop.{prints_so, prints_most, prints_again, prints_few}
use Rattle.demangle_v0.proofs.value.Demangle.write_to.Goals as goal

pub print_path-printed-requires-clause-valid : goal.print_path-printed-requires-clause-valid
print_path-printed-requires-clause-valid g c = rw c.at_path-parser.ensures (valid_first 0)

pub returns-clause-prints : goal.returns-clause-prints
returns-clause-prints g c =
    rw (← c.self.view_is) (prints_so g.S.TextSink c.self.inside.inner c.args.form _ c.requires
    (rw c.at_path-parser.ensures at c.print_path-printed.ensures.ended))

pub returns-clause-most : goal.returns-clause-most
returns-clause-most g c =
    rw (← c.self.view_is) (prints_most g.S.TextSink c.self.inside.inner c.args.form _ c.requires
    (rw c.at_path-parser.ensures at c.print_path-printed.ensures.ended))

pub returns-clause-again : goal.returns-clause-again
returns-clause-again g c =
    rw (← c.self.view_is) (prints_again g.S.TextSink c.self.inside.inner c.args.form _
    (rw c.at_path-parser.ensures at c.print_path-printed.ensures.ended))

few : {most : Option ℕ} {P : ℕ → Type 0} → ((k : ℕ) → most ≡ Some k → P k) → IfSome most P
few {most = None} h = tt
few {most = Some k} h = h k refl

pub returns-clause-few : goal.returns-clause-few
returns-clause-few g c = rw (← c.self.view_is) (few (λ k e. prints_few g.S.TextSink c.self.inside.inner c.args.form k _ e
    (rw c.at_path-parser.ensures at c.print_path-printed.ensures.ended)))
