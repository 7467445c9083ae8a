-- What the references of a production have read again, and the depths that they need.
use Rattle.std.specs.Prelude.{ℕ, ◌≤◌, ◌*◌, ◌&&◌, codes}
use Rattle.std.proofs.Common.{◌≡◌, Bool, true, false, List, [], ◌∷◌, ◌++◌, length, Some, None, refl, subst, sym, ap, ◌∙◌, ◌+◌, ◌-◌, arith, append_assoc}
use Rattle.demangle_v0_grammar.specs.Items.{Text}
use Rattle.demangle_v0_grammar.specs.Reading.{Tree, nothing, piece, plain_piece, node, looked, unprinted, referred, invalid_syntax, too_deep, after_error, Place}
use Rattle.demangle_v0_grammar.specs.References.{bytes_after}
use Rattle.demangle_v0_grammar.specs.Traces.{Event, prints_text, allows, refers, returns, text_if, target_events, events}
use Rattle.demangle_v0_grammar.specs.Climbs.{Climbs, Ran, followed_in}
use Rattle.demangle_v0_grammar.proofs.Ahead.{Ahead}
use Rattle.demangle_v0_grammar.proofs.Calm.{Calm}
use Rattle.demangle_v0_grammar.proofs.EnoughDepth.{AtMost}

-- the bytes that are read again, if each reference leads to something without an error
abbrev pub bytes_of : ℕ → Place → ℕ
bytes_of t None = 0
bytes_of t (Some e) = e - t

abbrev pub net : Tree → ℕ
net nothing = 0
net (piece t rest) = net rest
net (plain_piece t rest) = net rest
net (node inside rest) = net inside + net rest
net (looked k rest) = net rest
net (unprinted inside rest) = net rest
net (referred t j end inside) = bytes_of t end + net inside
net invalid_syntax = 0
net too_deep = 0
net after_error = 0

abbrev pub count : Tree → ℕ
count nothing = 0
count (piece t rest) = count rest
count (plain_piece t rest) = count rest
count (node inside rest) = count inside + count rest
count (looked k rest) = count rest
count (unprinted inside rest) = count rest
count (referred t j end inside) = count inside + 1
count invalid_syntax = 0
count too_deep = 0
count after_error = 0

-- no reference leads to an error
abbrev pub AllEnd : Tree → Type 0
AllEnd nothing = Unit {0}
AllEnd (piece t rest) = AllEnd rest
AllEnd (plain_piece t rest) = AllEnd rest
AllEnd (node inside rest) = AllEnd inside × AllEnd rest
AllEnd (looked k rest) = AllEnd rest
AllEnd (unprinted inside rest) = AllEnd rest
AllEnd (referred t j None inside) = ⊥
AllEnd (referred t j (Some e) inside) = AllEnd inside
AllEnd invalid_syntax = Unit {0}
AllEnd too_deep = Unit {0}
AllEnd after_error = Unit {0}

-- from u on, at most `top` are read again at once
abbrev pub FitsTop : (n top u : ℕ) → Tree → Type 0
FitsTop n top u nothing = Unit {0}
FitsTop n top u (piece t rest) = FitsTop n top u rest
FitsTop n top u (plain_piece t rest) = FitsTop n top u rest
FitsTop n top u (node inside rest) = FitsTop n top u inside × FitsTop n top (u + net inside) rest
FitsTop n top u (looked k rest) = FitsTop n top u rest
FitsTop n top u (unprinted inside rest) = FitsTop n top u rest
FitsTop n top u (referred t j end inside) = (u + (n - t + 1) ≤ top) × FitsTop n top (u + (n - t + 1)) inside
FitsTop n top u invalid_syntax = Unit {0}
FitsTop n top u too_deep = Unit {0}
FitsTop n top u after_error = Unit {0}

-- the same from another number on
pub moved_fits : (n top other u v : ℕ) (t : Tree) → top + v ≤ other + u → FitsTop n top u t → FitsTop n other v t
moved_fits n top other u v nothing l h = tt
moved_fits n top other u v (piece t rest) l h = moved_fits n top other u v rest l h
moved_fits n top other u v (plain_piece t rest) l h = moved_fits n top other u v rest l h
moved_fits n top other u v (node x y) l h = (moved_fits n top other u v x l h.0, moved_fits n top other (u + net x) (v + net x) y (omega (arith, l)) h.1)
moved_fits n top other u v (looked k rest) l h = moved_fits n top other u v rest l h
moved_fits n top other u v (unprinted x y) l h = moved_fits n top other u v y l h
moved_fits n top other u v (referred t j end inside) l h = (omega (arith, l, h.0), moved_fits n top other (u + (n - t + 1)) (v + (n - t + 1)) inside (omega (arith, l)) h.1)
moved_fits n top other u v invalid_syntax l h = tt
moved_fits n top other u v too_deep l h = tt
moved_fits n top other u v after_error l h = tt

-- The depths that references need.

unprinted_most : (k : ℕ) (t : Tree) → Calm false t → AtMost k t
unprinted_most k nothing c = tt
unprinted_most k (piece t rest) c = unprinted_most k rest c
unprinted_most k (plain_piece t rest) c = unprinted_most k rest c
unprinted_most k (node x y) c = (unprinted_most k x c.0, unprinted_most k y c.1)
unprinted_most k (looked n rest) c = unprinted_most k rest c
unprinted_most k (unprinted x y) c = (unprinted_most k x c.0, unprinted_most k y c.1)
unprinted_most k (referred t j end inside) c = absurd c
unprinted_most k invalid_syntax c = tt
unprinted_most k too_deep c = tt
unprinted_most k after_error c = tt

pub tree_most : (k : ℕ) (t : Tree) → Calm true t → AllEnd t → 3 * count t + 2 * net t ≤ k → AtMost k t
tree_most k nothing c a l = tt
tree_most k (piece t rest) c a l = tree_most k rest c a l
tree_most k (plain_piece t rest) c a l = tree_most k rest c a l
tree_most k (node x y) c a l = (tree_most k x c.0 a.0 (omega (arith, l)), tree_most k y c.1 a.1 (omega (arith, l)))
tree_most k (looked n rest) c a l = tree_most k rest c a l
tree_most k (unprinted x y) c a l = (unprinted_most k x c.0, tree_most k y c.1 a l)
tree_most k (referred t j None inside) c a l = absurd a
tree_most k (referred t j (Some e) inside) c a l = (3 * count inside + 2 * net inside, omega (arith, l), tree_most (3 * count inside + 2 * net inside) inside c a (omega arith))
tree_most k invalid_syntax c a l = tt
tree_most k too_deep c a l = tt
tree_most k after_error c a l = tt

-- The events of a tree.

ran_text : (n top u e : ℕ) (b : Bool) (t : Text) (xs : List Event) → Ran n top (text_if b t xs) u e → Ran n top xs u e
ran_text n top u e true t xs h = h
ran_text n top u e false t xs h = h

text_append : (b : Bool) (t : Text) (xs ys : List Event) → text_if b t xs ++ ys ≡ text_if b t (xs ++ ys)
text_append true t xs ys = refl
text_append false t xs ys = refl

-- a part that is not printed follows no reference
ran_silent : (n top : ℕ) (plain : Bool) (t : Tree) (rest : List Event) (u e : ℕ) → Ran n top (events plain false t ++ rest) u e → Ran n top rest u e
ran_silent n top plain nothing rest u e h = h
ran_silent n top plain (piece t more) rest u e h = ran_silent n top plain more rest u e h
ran_silent n top true (plain_piece t more) rest u e h = ran_silent n top true more rest u e h
ran_silent n top false (plain_piece t more) rest u e h = ran_silent n top false more rest u e h
ran_silent n top plain (node x y) rest u e h = ran_silent n top plain y rest u e (ran_silent n top plain x (events plain false y ++ rest) u e (subst (λ z. Ran n top z u e) (append_assoc (events plain false x) (events plain false y) rest) h))
ran_silent n top plain (looked k more) rest u e h = ran_silent n top plain more rest u e h
ran_silent n top plain (unprinted x y) rest u e h = ran_silent n top plain y rest u e (ran_silent n top plain x (events plain false y ++ rest) u e (subst (λ z. Ran n top z u e) (append_assoc (events plain false x) (events plain false y) rest) h))
ran_silent n top plain (referred t j end inside) rest u e h = ran_silent n top plain inside rest u e h
ran_silent n top plain invalid_syntax rest u e h = h
ran_silent n top plain too_deep rest u e h = h
ran_silent n top plain after_error rest u e h = h

-- what a print has read again
pub ran_tree : (b : List ℕ) (top : ℕ) (plain : Bool) (t : Tree) (rest : List Event) (u e : ℕ) → Ahead b t → Ran (length b) top (events plain true t ++ rest) u e → FitsTop (length b) top u t × AllEnd t × Ran (length b) top rest (u + net t) e
ran_tree b top plain nothing rest u e a h = (tt, tt, subst (λ z. Ran (length b) top rest z e) (omega arith) h)
ran_tree b top plain (piece t more) rest u e a h = ran_tree b top plain more rest u e a h
ran_tree b top true (plain_piece t more) rest u e a h = ran_tree b top true more rest u e a h
ran_tree b top false (plain_piece t more) rest u e a h = ran_tree b top false more rest u e a h
ran_tree b top plain (node x y) rest u e a h =
    let one = ran_tree b top plain x (events plain true y ++ rest) u e a.0 (subst (λ z. Ran (length b) top z u e) (append_assoc (events plain true x) (events plain true y) rest) h) in
    let two = ran_tree b top plain y rest (u + net x) e a.1 one.2 in
    ((one.0, two.0), (one.1, two.1), subst (λ z. Ran (length b) top rest z e) (omega arith) two.2)
ran_tree b top plain (looked k more) rest u e a h = ran_tree b top plain more rest u e a h
ran_tree b top plain (unprinted x y) rest u e a h =
    ran_tree b top plain y rest u e a.1 (ran_silent (length b) top plain x (events plain true y ++ rest) u e (subst (λ z. Ran (length b) top z u e) (append_assoc (events plain false x) (events plain true y) rest) h))
ran_tree b top plain (referred t j end inside) rest u e a h =
    let n = length b in
    let one = ran_tree b top plain inside (returns end ∷ rest) (u + (n - t + 1)) e a.1 (subst (λ z. Ran n top z (u + (n - t + 1)) e) (append_assoc (events plain true inside) (returns end ∷ []) rest) h.1) in
    let two = back end a.0 one.1 one.2 in
    ((h.0, one.0), two.0, two.1)
  where
    back : (end : Place) → Rattle.demangle_v0_grammar.proofs.Repetitions.Within b t end → AllEnd inside → Ran (length b) top (returns end ∷ rest) (u + (length b - t + 1) + net inside) e → AllEnd (referred t j end inside) × Ran (length b) top rest (u + (bytes_of t end + net inside)) e
    back None w c r = absurd (omega (arith, r.0))
    back (Some f) w c r = (c, subst (λ z. Ran (length b) top rest z e) (omega (arith, w.0, w.1)) r.1)
ran_tree b top plain invalid_syntax rest u e a h = (tt, tt, subst (λ z. Ran (length b) top rest z e) (omega arith) h)
ran_tree b top plain too_deep rest u e a h = (tt, tt, subst (λ z. Ran (length b) top rest z e) (omega arith) h)
ran_tree b top plain after_error rest u e a h = (tt, tt, subst (λ z. Ran (length b) top rest z e) (omega arith) h)

climbs_silent : (n top : ℕ) (plain : Bool) (t : Tree) (rest : List Event) (u e : ℕ) → Climbs n top rest u e → Climbs n top (events plain false t ++ rest) u e
climbs_silent n top plain nothing rest u e h = h
climbs_silent n top plain (piece t more) rest u e h = climbs_silent n top plain more rest u e h
climbs_silent n top true (plain_piece t more) rest u e h = climbs_silent n top true more rest u e h
climbs_silent n top false (plain_piece t more) rest u e h = climbs_silent n top false more rest u e h
climbs_silent n top plain (node x y) rest u e h = subst (λ z. Climbs n top z u e) (sym (append_assoc (events plain false x) (events plain false y) rest)) (climbs_silent n top plain x (events plain false y ++ rest) u e (climbs_silent n top plain y rest u e h))
climbs_silent n top plain (looked k more) rest u e h = climbs_silent n top plain more rest u e h
climbs_silent n top plain (unprinted x y) rest u e h = subst (λ z. Climbs n top z u e) (sym (append_assoc (events plain false x) (events plain false y) rest)) (climbs_silent n top plain x (events plain false y ++ rest) u e (climbs_silent n top plain y rest u e h))
climbs_silent n top plain (referred t j end inside) rest u e h = climbs_silent n top plain inside rest u e h
climbs_silent n top plain invalid_syntax rest u e h = h
climbs_silent n top plain too_deep rest u e h = h
climbs_silent n top plain after_error rest u e h = h

-- a text that is put again has as much read again
pub climbs_tree : (b : List ℕ) (top : ℕ) (plain : Bool) (t : Tree) (rest : List Event) (u e : ℕ) → Ahead b t → AllEnd t → FitsTop (length b) top u t → Climbs (length b) top rest (u + net t) e → Climbs (length b) top (events plain true t ++ rest) u e
climbs_tree b top plain nothing rest u e a d f h = subst (λ z. Climbs (length b) top rest z e) (omega arith) h
climbs_tree b top plain (piece t more) rest u e a d f h = climbs_tree b top plain more rest u e a d f h
climbs_tree b top true (plain_piece t more) rest u e a d f h = climbs_tree b top true more rest u e a d f h
climbs_tree b top false (plain_piece t more) rest u e a d f h = climbs_tree b top false more rest u e a d f h
climbs_tree b top plain (node x y) rest u e a d f h =
    let last : Climbs (length b) top rest (u + net x + net y) e = subst (λ z. Climbs (length b) top rest z e) (omega arith) h in
    subst (λ z. Climbs (length b) top z u e) (sym (append_assoc (events plain true x) (events plain true y) rest)) (climbs_tree b top plain x (events plain true y ++ rest) u e a.0 d.0 f.0 (climbs_tree b top plain y rest (u + net x) e a.1 d.1 f.1 last))
climbs_tree b top plain (looked k more) rest u e a d f h = climbs_tree b top plain more rest u e a d f h
climbs_tree b top plain (unprinted x y) rest u e a d f h =
    subst (λ z. Climbs (length b) top z u e) (sym (append_assoc (events plain false x) (events plain true y) rest)) (climbs_silent (length b) top plain x (events plain true y ++ rest) u e (climbs_tree b top plain y rest u e a.1 d f h))
climbs_tree b top plain (referred t j None inside) rest u e a d f h = absurd d
climbs_tree b top plain (referred t j (Some g) inside) rest u e a d f h =
    let n = length b in
    let last : Climbs n top rest (u + (n - t + 1) + net inside - (n - g + 1)) e = subst (λ z. Climbs n top rest z e) (omega (arith, a.0)) h in
    (f.0, subst (λ z. Climbs n top z (u + (n - t + 1)) e) (sym (append_assoc (events plain true inside) (returns (Some g) ∷ []) rest)) (climbs_tree b top plain inside (returns (Some g) ∷ rest) (u + (n - t + 1)) e a.1 d f.1 (omega arith, omega (arith, a.0), last)))
climbs_tree b top plain invalid_syntax rest u e a d f h = subst (λ z. Climbs (length b) top rest z e) (omega arith) h
climbs_tree b top plain too_deep rest u e a d f h = subst (λ z. Climbs (length b) top rest z e) (omega arith) h
climbs_tree b top plain after_error rest u e a d f h = subst (λ z. Climbs (length b) top rest z e) (omega arith) h

followed_silent : (plain : Bool) (t : Tree) (rest : List Event) → followed_in (events plain false t ++ rest) ≡ followed_in rest
followed_silent plain nothing rest = refl
followed_silent plain (piece t more) rest = followed_silent plain more rest
followed_silent true (plain_piece t more) rest = followed_silent true more rest
followed_silent false (plain_piece t more) rest = followed_silent false more rest
followed_silent plain (node x y) rest = ap followed_in (append_assoc (events plain false x) (events plain false y) rest) ∙ followed_silent plain x (events plain false y ++ rest) ∙ followed_silent plain y rest
followed_silent plain (looked k more) rest = followed_silent plain more rest
followed_silent plain (unprinted x y) rest = ap followed_in (append_assoc (events plain false x) (events plain false y) rest) ∙ followed_silent plain x (events plain false y ++ rest) ∙ followed_silent plain y rest
followed_silent plain (referred t j end inside) rest = followed_silent plain inside rest
followed_silent plain invalid_syntax rest = refl
followed_silent plain too_deep rest = refl
followed_silent plain after_error rest = refl

pub followed_tree : (plain : Bool) (t : Tree) (rest : List Event) → followed_in (events plain true t ++ rest) ≡ count t + followed_in rest
followed_tree plain nothing rest = omega arith
followed_tree plain (piece t more) rest = followed_tree plain more rest
followed_tree true (plain_piece t more) rest = followed_tree true more rest
followed_tree false (plain_piece t more) rest = followed_tree false more rest
followed_tree plain (node x y) rest = omega (arith, ap followed_in (append_assoc (events plain true x) (events plain true y) rest), followed_tree plain x (events plain true y ++ rest), followed_tree plain y rest)
followed_tree plain (looked k more) rest = followed_tree plain more rest
followed_tree plain (unprinted x y) rest = omega (arith, ap followed_in (append_assoc (events plain false x) (events plain true y) rest), followed_silent plain x (events plain true y ++ rest), followed_tree plain y rest)
followed_tree plain (referred t j end inside) rest = omega (arith, ap followed_in (append_assoc (events plain true inside) (returns end ∷ []) rest), followed_tree plain inside (returns end ∷ rest))
followed_tree plain invalid_syntax rest = omega arith
followed_tree plain too_deep rest = omega arith
followed_tree plain after_error rest = omega arith
