-- A budget pays for the looks that are made while a symbol prints.
use Rattle.std.specs.Prelude.{ℕ, ◌*◌}
use Rattle.std.proofs.Common.{◌≡◌, ◌+◌, ◌-◌, Bool, true, false, List, [], ◌∷◌, ◌++◌, length, refl, ap, sym, ◌∙◌, subst, append_assoc, arith}
use Rattle.std.proofs.lemmas.List.{map-append, append-nil}
use Rattle.demangle_v0_grammar.specs.LookBudget.{LookCost, IsWithinBudget}
use Rattle.demangle_v0_grammar.specs.Traces.{Event, returns, events, cost_of}
use Rattle.demangle_v0_grammar.specs.Reading.{Tree, nothing, piece, plain_piece, node, looked, unprinted, referred, costs_of, looks_only, looks}
use Rattle.demangle_v0_grammar.proofs.BudgetRules.{IsWithinBudget-more, IsWithinBudget-parts, IsWithinBudget-mapped}
use Rattle.demangle_v0_grammar.proofs.PrintingSteps.{weighed}

-- A budget that pays for the costs of a tree pays for its events.

unheard_append : (xs ys : List LookCost) → looks_only (xs ++ ys) ≡ looks_only xs ++ looks_only ys
unheard_append xs ys = map-append _ xs ys

unheard_twice : (xs : List LookCost) → looks_only (looks_only xs) ≡ looks_only xs
unheard_twice [] = refl
unheard_twice (x ∷ xs) = ap (λ (zs : List LookCost). looks x.looks ∷ zs) (unheard_twice xs)

-- an entry without looks and without text
free : (r a c : ℕ) (xs : List LookCost) → IsWithinBudget r (a - 0 + r * 0) xs c → IsWithinBudget r a xs c
free r a c xs h = IsWithinBudget-more r (a - 0 + r * 0) a c c 0 xs (omega arith) (omega arith) h

-- for a parse without output
pays_quiet : (r c : ℕ) (plain : Bool) (t : Tree) (ys zs : List LookCost) → ((a : ℕ) → IsWithinBudget r a ys c → IsWithinBudget r a zs c) → (a : ℕ) → IsWithinBudget r a (looks_only (costs_of plain t) ++ ys) c → IsWithinBudget r a (weighed (events plain false t) ++ zs) c
pays_quiet r c plain nothing ys zs f a h = f a h
pays_quiet r c plain (piece x rest) ys zs f a h = pays_quiet r c plain rest ys zs f a (free r a c _ h.1)
pays_quiet r c true (plain_piece x rest) ys zs f a h = pays_quiet r c true rest ys zs f a (free r a c _ h.1)
pays_quiet r c false (plain_piece x rest) ys zs f a h = pays_quiet r c false rest ys zs f a h
pays_quiet r c plain (node inside rest) ys zs f a h =
    IsWithinBudget-mapped cost_of r a c (events plain false inside) (events plain false rest) zs
    (pays_quiet r c plain inside (looks_only (costs_of plain rest) ++ ys) (weighed (events plain false rest) ++ zs) (λ a'. pays_quiet r c plain rest ys zs f a') a
    (IsWithinBudget-parts r a c (looks_only (costs_of plain inside)) (looks_only (costs_of plain rest)) ys _ (unheard_append (costs_of plain inside) (costs_of plain rest)) h))
pays_quiet r c plain (looked k rest) ys zs f a h = (h.0, pays_quiet r c plain rest ys zs f (a - k + r * 0) h.1)
pays_quiet r c plain (unprinted inside rest) ys zs f a h =
    IsWithinBudget-mapped cost_of r a c (events plain false inside) (events plain false rest) zs
    (pays_quiet r c plain inside (looks_only (costs_of plain rest) ++ ys) (weighed (events plain false rest) ++ zs) (λ a'. pays_quiet r c plain rest ys zs f a') a
    (IsWithinBudget-parts r a c (looks_only (costs_of plain inside)) (looks_only (costs_of plain rest)) ys _ (unheard_append (looks_only (costs_of plain inside)) (costs_of plain rest) ∙ ap (λ ws. ws ++ looks_only (costs_of plain rest)) (unheard_twice (costs_of plain inside))) h))
pays_quiet r c plain (referred t j end inside) ys zs f a h = pays_quiet r c plain inside ys zs f a h
pays_quiet r c plain _ ys zs f a h = f a (free r a c ys h.1)

-- for a parse that prints
pays_events : (r c : ℕ) (plain : Bool) (t : Tree) (ys zs : List LookCost) → ((a : ℕ) → IsWithinBudget r a ys c → IsWithinBudget r a zs c) → (a : ℕ) → IsWithinBudget r a (costs_of plain t ++ ys) c → IsWithinBudget r a (weighed (events plain true t) ++ zs) c
pays_events r c plain nothing ys zs f a h = f a h
pays_events r c plain (piece x rest) ys zs f a h = (h.0, pays_events r c plain rest ys zs f (a - 0 + r * length x) h.1)
pays_events r c true (plain_piece x rest) ys zs f a h = (h.0, pays_events r c true rest ys zs f (a - 0 + r * length x) h.1)
pays_events r c false (plain_piece x rest) ys zs f a h = pays_events r c false rest ys zs f a h
pays_events r c plain (node inside rest) ys zs f a h =
    IsWithinBudget-mapped cost_of r a c (events plain true inside) (events plain true rest) zs
    (pays_events r c plain inside (costs_of plain rest ++ ys) (weighed (events plain true rest) ++ zs) (λ a'. pays_events r c plain rest ys zs f a') a
    (IsWithinBudget-parts r a c (costs_of plain inside) (costs_of plain rest) ys _ refl h))
pays_events r c plain (looked k rest) ys zs f a h = (h.0, pays_events r c plain rest ys zs f (a - k + r * 0) h.1)
pays_events r c plain (unprinted inside rest) ys zs f a h =
    IsWithinBudget-mapped cost_of r a c (events plain false inside) (events plain true rest) zs
    (pays_quiet r c plain inside (costs_of plain rest ++ ys) (weighed (events plain true rest) ++ zs) (λ a'. pays_events r c plain rest ys zs f a') a
    (IsWithinBudget-parts r a c (looks_only (costs_of plain inside)) (costs_of plain rest) ys _ refl h))
pays_events r c plain (referred t j end inside) ys zs f a h = (
  omega arith,
  IsWithinBudget-more r a (a - 0 + r * 0) c c 0 _ (omega arith) (omega arith)
      (IsWithinBudget-mapped cost_of r a c (events plain true inside) (returns end ∷ []) zs
      (pays_events r c plain inside ys (looks 0 ∷ zs) (λ a' p. (omega arith, IsWithinBudget-more r a' (a' - 0 + r * 0) c c 0 zs (omega arith) (omega arith) (f a' p))) a h)),
)
pays_events r c plain _ ys zs f a h = (h.0, f _ h.1)

pub pays_tree : (r a c : ℕ) (plain : Bool) (t : Tree) → IsWithinBudget r a (costs_of plain t) c → IsWithinBudget r a (weighed (events plain true t)) c
pays_tree r a c plain t h =
    subst (λ ws. IsWithinBudget r a ws c) (append-nil (weighed (events plain true t)))
    (pays_events r c plain t [] [] (λ a' p. p) a (subst (λ ws. IsWithinBudget r a ws c) (sym (append-nil (costs_of plain t))) h))
