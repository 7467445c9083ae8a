-- A trace as pieces, and as costs that a budget pays for.
use Rattle.std.specs.Prelude.{map}
use Rattle.std.proofs.Common.{◌≡◌, ℕ, Bool, true, false, List, [], ◌∷◌, ◌++◌, refl, ap, ◌∙◌}
use Rattle.std.proofs.lemmas.List.{append-nil}
use Rattle.demangle_v0_grammar.specs.LookBudget.{LookCost}
use Rattle.demangle_v0_grammar.specs.Items.{Text}
use Rattle.demangle_v0_grammar.specs.References.{Move}
use Rattle.demangle_v0_grammar.specs.Reading.{Tree, piece, plain_piece, node, looked, unprinted, referred, pieces, looks, text_cost}
use Rattle.demangle_v0_grammar.specs.Traces.{Event, prints_text, allows, refers, returns, text_if, moves_in, texts_then, looks_then, events, texts_in, cost_of}

shown_append : (xs ys : List Event) → texts_in (xs ++ ys) ≡ texts_in xs ++ texts_in ys
shown_append [] ys = refl
shown_append (prints_text t ∷ xs) ys = ap (λ (zs : List Text). t ∷ zs) (shown_append xs ys)
shown_append (allows k ∷ xs) ys = shown_append xs ys
shown_append (refers t ∷ xs) ys = shown_append xs ys
shown_append (returns e ∷ xs) ys = shown_append xs ys

both_empty : (xs ys : List Text) → xs ≡ [] → ys ≡ [] → xs ++ ys ≡ []
both_empty xs ys e f = rw (e, f) refl

quiet_plain : (plain : Bool) (t : Text) (xs : List Event) → texts_in (text_if (Rattle.std.specs.Prelude.◌&&◌ plain false) t xs) ≡ texts_in xs
quiet_plain true t xs = refl
quiet_plain false t xs = refl

-- a parse without output prints nothing
pub quiet_events : (plain : Bool) (t : Tree) → texts_in (events plain false t) ≡ []
quiet_events plain (piece x rest) = quiet_events plain rest
quiet_events plain (plain_piece x rest) = quiet_plain plain x (events plain false rest) ∙ quiet_events plain rest
quiet_events plain (node inside rest) = shown_append (events plain false inside) (events plain false rest) ∙ both_empty _ _ (quiet_events plain inside) (quiet_events plain rest)
quiet_events plain (looked k rest) = quiet_events plain rest
quiet_events plain (unprinted inside rest) = shown_append (events plain false inside) (events plain false rest) ∙ both_empty _ _ (quiet_events plain inside) (quiet_events plain rest)
quiet_events plain (referred t j end inside) = quiet_events plain inside
quiet_events plain _ = refl

both_still : (xs ys : List Event) → moves_in xs ≡ [] → moves_in ys ≡ [] → moves_in (xs ++ ys) ≡ []
both_still [] ys e f = f
both_still (prints_text t ∷ xs) ys e f = absurd (some_none e)
  where
    some_none : {m : Move} {ms : List Move} → m ∷ ms ≡ [] → ⊥
    some_none z = cc
both_still (allows k ∷ xs) ys e f = both_still xs ys e f
both_still (refers t ∷ xs) ys e f = absurd (some_none e)
  where
    some_none : {m : Move} {ms : List Move} → m ∷ ms ≡ [] → ⊥
    some_none z = cc
both_still (returns p ∷ xs) ys e f = absurd (some_none e)
  where
    some_none : {m : Move} {ms : List Move} → m ∷ ms ≡ [] → ⊥
    some_none z = cc

still_plain : (plain : Bool) (t : Text) (xs : List Event) → moves_in (text_if (Rattle.std.specs.Prelude.◌&&◌ plain false) t xs) ≡ moves_in xs
still_plain true t xs = refl
still_plain false t xs = refl

-- nor does it follow a reference
pub quiet_moves : (plain : Bool) (t : Tree) → moves_in (events plain false t) ≡ []
quiet_moves plain (piece x rest) = quiet_moves plain rest
quiet_moves plain (plain_piece x rest) = still_plain plain x (events plain false rest) ∙ quiet_moves plain rest
quiet_moves plain (node inside rest) = both_still (events plain false inside) (events plain false rest) (quiet_moves plain inside) (quiet_moves plain rest)
quiet_moves plain (looked k rest) = quiet_moves plain rest
quiet_moves plain (unprinted inside rest) = both_still (events plain false inside) (events plain false rest) (quiet_moves plain inside) (quiet_moves plain rest)
quiet_moves plain (referred t j end inside) = quiet_moves plain inside
quiet_moves plain _ = refl

shown_plain : (plain : Bool) (t : Text) (rest : Tree) (xs : List Event) → texts_in xs ≡ pieces plain rest → texts_in (text_if (Rattle.std.specs.Prelude.◌&&◌ plain true) t xs) ≡ pieces plain (plain_piece t rest)
shown_plain true t rest xs e = ap (λ (zs : List Text). t ∷ zs) e
shown_plain false t rest xs e = e

-- a parse that prints prints the pieces of the tree
pub shown_events : (plain : Bool) (t : Tree) → texts_in (events plain true t) ≡ pieces plain t
shown_events plain (piece x rest) = ap (λ (zs : List Text). x ∷ zs) (shown_events plain rest)
shown_events plain (plain_piece x rest) = shown_plain plain x rest (events plain true rest) (shown_events plain rest)
shown_events plain (node inside rest) = shown_append (events plain true inside) (events plain true rest) ∙ (ap (λ xs. xs ++ texts_in (events plain true rest)) (shown_events plain inside) ∙ ap (λ ys. pieces plain inside ++ ys) (shown_events plain rest))
shown_events plain (looked k rest) = shown_events plain rest
shown_events plain (unprinted inside rest) = shown_append (events plain false inside) (events plain true rest) ∙ (ap (λ xs. xs ++ texts_in (events plain true rest)) (quiet_events plain inside) ∙ shown_events plain rest)
shown_events plain (referred t j end inside) = shown_append (events plain true inside) (returns end ∷ []) ∙ (append-nil (texts_in (events plain true inside)) ∙ shown_events plain inside)
shown_events plain _ = refl

-- the same as costs
abbrev pub weighed : List Event → List LookCost
weighed xs = map cost_of xs

pub weighed_said : (ts : List Text) (xs : List Event) → weighed (texts_then true ts xs) ≡ map text_cost ts ++ weighed xs
weighed_said [] xs = refl
weighed_said (t ∷ ts) xs = ap (λ (zs : List LookCost). text_cost t ∷ zs) (weighed_said ts xs)

pub weighed_allowed : (ks : List ℕ) (xs : List Event) → weighed (looks_then ks xs) ≡ map looks ks ++ weighed xs
weighed_allowed [] xs = refl
weighed_allowed (k ∷ ks) xs = ap (λ (zs : List LookCost). looks k ∷ zs) (weighed_allowed ks xs)
