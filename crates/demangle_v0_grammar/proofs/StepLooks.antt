-- The budget pays for the costs of a step.
use Rattle.std.specs.Prelude.{ℕ, ◌≤◌, ◌*◌}
use Rattle.std.proofs.Common.{◌≡◌, List, [], ◌∷◌, length, ◌+◌, ◌++◌, map, ◌-◌, refl, arith}
use Rattle.demangle_v0_grammar.specs.LookBudget.{LookCost, IsWithinBudget}
use Rattle.demangle_sink.specs.Cut.{size}
use Rattle.demangle_v0_grammar.specs.Items.{Text}
use Rattle.demangle_v0_grammar.specs.Reading.{looks, text_cost}
use Rattle.demangle_v0_grammar.specs.LookTotals.{total}
use Rattle.demangle_v0_grammar.proofs.BudgetRules.{IsWithinBudget-more}

abbrev pub all_puts : List Text → List LookCost
all_puts ts = map text_cost ts

pub pays_texts : (r a c : ℕ) (ts : List Text) (xs : List LookCost) → IsWithinBudget r a (all_puts ts ++ xs) c → IsWithinBudget r (a + r * size ts) xs c
pays_texts r a c [] xs h = IsWithinBudget-more r a (a + r * 0) c c 0 xs (omega arith) (omega arith) h
pays_texts r a c (t ∷ ts) xs h = IsWithinBudget-more r (a - 0 + r * length t + r * size ts) (a + r * size (t ∷ ts)) c c 0 xs (sums r a (length t) (size ts) (size (t ∷ ts)) refl) (omega arith)
    (pays_texts r (a - 0 + r * length t) c ts xs h.1)
  where
    sums : (r a b d e : ℕ) → e ≡ b + d → a - 0 + r * b + r * d + 0 ≤ a + r * e
    sums r a b d e p = rw p (omega arith)

pub pays_looks : (r a c : ℕ) (ks : List ℕ) (xs : List LookCost) → IsWithinBudget r a (map looks ks ++ xs) c → (total ks ≤ a) × IsWithinBudget r (a - total ks) xs c
pays_looks r a c [] xs h = (omega arith, IsWithinBudget-more r a (a - 0) c c 0 xs (omega arith) (omega arith) h)
pays_looks r a c (k ∷ ks) xs h =
    let q : (total ks ≤ a - k + r * 0) × IsWithinBudget r (a - k + r * 0 - total ks) xs c = pays_looks r (a - k + r * 0) c ks xs h.1 in
    (omega (arith, h.0, q.0), IsWithinBudget-more r (a - k + r * 0 - total ks) (a - total (k ∷ ks)) c c 0 xs (omega (arith, h.0, q.0)) (omega arith) q.1)
