-- The remaining items of a row after an error: they end with the error, and make no look.
use Rattle.std.specs.Prelude.{◌+◌}
use Rattle.std.proofs.Common.{◌≡◌, ℕ, Bool, true, false, List, [], ◌∷◌, ◌++◌, refl, ◌∙◌, arith}
use Rattle.demangle_v0_grammar.specs.LookBudget.{LookCost, looks_of}
use Rattle.demangle_v0_grammar.specs.Items.{Text}
use Rattle.demangle_v0_grammar.specs.Reading.{Place, Tree, nothing, piece, plain_piece, node, looked, unprinted, referred, costs_of, looks_only}
use Rattle.demangle_v0_grammar.specs.Traces.{Event, prints_text, allows, refers, returns, text_if, target_events, events}
use Rattle.demangle_v0_grammar.specs.LookTotals.{allowed_in}

allowed_said : (out : Bool) (t : Text) (xs : List Event) → allowed_in (text_if out t xs) ≡ allowed_in xs
allowed_said true t xs = refl
allowed_said false t xs = refl

pub allowed_append : (xs ys : List Event) → allowed_in (xs ++ ys) ≡ allowed_in xs + allowed_in ys
allowed_append [] ys = omega arith
allowed_append (prints_text t ∷ xs) ys = allowed_append xs ys
allowed_append (allows k ∷ xs) ys = omega (arith, allowed_append xs ys)
allowed_append (refers t ∷ xs) ys = allowed_append xs ys
allowed_append (returns e ∷ xs) ys = allowed_append xs ys

allowed_target : (out : Bool) (t : ℕ) (e : Place) (xs : List Event) → allowed_in (target_events out t e xs) ≡ allowed_in xs
allowed_target true t e xs = omega (arith, allowed_append xs (returns e ∷ []))
allowed_target false t e xs = refl

pub looks_append : (xs ys : List LookCost) → looks_of (xs ++ ys) ≡ looks_of xs + looks_of ys
looks_append [] ys = omega arith
looks_append (x ∷ xs) ys = omega (arith, looks_append xs ys)

pub looks_unheard : (xs : List LookCost) → looks_of (looks_only xs) ≡ looks_of xs
looks_unheard [] = refl
looks_unheard (x ∷ xs) = omega (arith, looks_unheard xs)

-- the looks that a tree allows, in either form, printed or not
pub allowed_looks : (plain out : Bool) (t : Tree) → allowed_in (events plain out t) ≡ looks_of (costs_of plain t)
allowed_looks plain out nothing = refl
allowed_looks plain out (piece x rest) = omega (arith, allowed_said out x (events plain out rest), allowed_looks plain out rest)
allowed_looks true out (plain_piece x rest) = omega (arith, allowed_said out x (events true out rest), allowed_looks true out rest)
allowed_looks false out (plain_piece x rest) = allowed_looks false out rest
allowed_looks plain out (node inside rest) = omega (arith, allowed_append (events plain out inside) (events plain out rest), looks_append (costs_of plain inside) (costs_of plain rest), allowed_looks plain out inside, allowed_looks plain out rest)
allowed_looks plain out (looked k rest) = omega (arith, allowed_looks plain out rest)
allowed_looks plain out (unprinted inside rest) =
    omega (arith, allowed_append (events plain false inside) (events plain out rest), looks_append (looks_only (costs_of plain inside)) (costs_of plain rest), looks_unheard (costs_of plain inside), allowed_looks plain false inside, allowed_looks plain out rest)
allowed_looks plain out (referred t j end inside) = allowed_target out t end (events plain out inside) ∙ allowed_looks plain out inside
allowed_looks plain out _ = allowed_said out _ []

-- A stack of frames: the remaining items of each, and those of the row, whose last frame comes first.
