-- The bytes that are left, and the looks at a reference.
use Rattle.std.specs.Prelude.{◌*◌, nat_lt}
use Rattle.std.proofs.lemmas.Bool.{ltb-true}
use Rattle.std.proofs.Common.{◌≡◌, ℕ, ◌+◌, ◌-◌, ◌≤◌, ◌<◌, length, Bool, true, false, Some, None, List, zero, suc, subst, refl, ap, arith}
use Rattle.demangle_symbol.specs.Primitives.{Read, only_if, then_if_some, integer_at, backref_at}
use Rattle.demangle_symbol.proofs.Counts.{Placed, placed, backref_placed}
use Rattle.demangle_v0_grammar.specs.LookTotals.{total}
use Rattle.demangle_v0_grammar.specs.Reading.{Place}
use Rattle.demangle_v0_tokens.specs.Backrefs.{read_backref, reference_read, leads}
use Rattle.demangle_v0_tokens.specs.declared.backref.BackrefOutcome.TheVariants.{Target}
use Rattle.demangle_v0_parser.specs.Parsers.{left_at}

-- the bytes left at a place
pub place_left : (n : ℕ) (x : Place) (i : ℕ) → x ≡ Some i → left_at n x ≡ n - i
place_left n x i e = ap (left_at n) e

-- a target is before its reference
target_before : (symbol : List ℕ) (i t j : ℕ) → backref_at symbol i ≡ Some (t, j) → t ≤ i
unfolding backref_at
target_before symbol i t j e = go (integer_at symbol i) e
  where
    inner : (c : Bool) (r : ℕ × ℕ) → nat_lt (r.0 + 1) i ≡ c → only_if c r ≡ Some (t, j) → t ≤ i
    inner true r p q = let w : r.0 + 1 < i = ltb-true (r.0 + 1) i p in subst (λ z. z ≤ i) (firsts q) (omega (arith, w))
      where
        firsts : {x y : ℕ × ℕ} → Some x ≡ Some y → x.0 ≡ y.0
        firsts q = cc q
    inner false r p q = cc q

    go : (o : Read ℕ) → then_if_some o (λ r. only_if (nat_lt (r.0 + 1) i) r) ≡ Some (t, j) → t ≤ i
    go None q = cc q
    go (Some r) q = inner (nat_lt (r.0 + 1) i) r refl q

-- after a reference
pub record Refers (b : List ℕ) (i : Place) (looks target next : ℕ) : Type 0 where
  pub back : target ≤ next
  pub within : next ≤ length b
  pub slow : looks + 4 * (length b - next) ≤ 4 * left_at (length b) i + 4

pub refers : (b : List ℕ) (left : ℕ) (i : Place) (target next : ℕ) → Target target next ≡ (read_backref b left i).refers → Refers b i (total (read_backref b left i).costs) target next
refers b left None target next e = cc e
refers b left (Some i) target next e = go (backref_at b i) refl e
  where
    found : (left : ℕ) (t j : ℕ) → t ≤ i → i + 1 ≤ j → j ≤ length b → Target target next ≡ leads left t j → Refers b (Some i) (4 * (j - i + 1) + 0) target next
    found zero t j x y z e = cc e
    found (suc left) t j x y z e =
        let p : t ≡ target = cc in
        let q : j ≡ next = cc in
        record { back = omega arith; within = omega arith; slow = omega arith }

    go : (r : Read ℕ) → backref_at b i ≡ r → Target target next ≡ (reference_read (length b) left i r).refers → Refers b (Some i) (total (reference_read (length b) left i r).costs) target next
    go None k e = cc e
    go (Some r) k e = let p = placed (i + 1) b (backref_at b i) (backref_placed b i) r.0 r.1 k in found left r.0 r.1 (target_before b i r.0 r.1 k) p.0 p.1 e

-- the looks at a reference, whether it is followed or not
pub refers_most : (b : List ℕ) (left : ℕ) (i : Place) → total (read_backref b left i).costs ≤ 4 * left_at (length b) i + 5
refers_most b left None = omega arith
refers_most b left (Some i) = go (backref_at b i) (backref_placed b i)
  where
    go : (r : Read ℕ) → Placed (i + 1) b r → total (reference_read (length b) left i r).costs ≤ 4 * left_at (length b) (Some i) + 5
    go None p = omega arith
    go (Some r) p = omega (arith, p.0, p.1)
