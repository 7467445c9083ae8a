-- The trace of one item after another.
use Rattle.std.proofs.Common.{◌≡◌, ℕ, Bool, true, false, Option, List, [], ◌∷◌, ◌++◌, refl, ap, ◌∙◌, append_assoc}
use Rattle.std.proofs.lemmas.List.{append-nil}
use Rattle.demangle_v0_grammar.specs.Items.{Text}
use Rattle.demangle_v0_grammar.specs.Reading.{Tree, all_pieces}
use Rattle.demangle_v0_grammar.specs.Traces.{Event, events, allows, text_if, texts_then, looks_then, Trace, empty_trace, and_then, with_looks, with_texts}

pub said_append : (out : Bool) (t : Text) (xs ys : List Event) → text_if out t xs ++ ys ≡ text_if out t (xs ++ ys)
said_append true t xs ys = refl
said_append false t xs ys = refl

pub said_all_append : (out : Bool) (ts : List Text) (xs ys : List Event) → texts_then out ts xs ++ ys ≡ texts_then out ts (xs ++ ys)
said_all_append out [] xs ys = refl
said_all_append out (t ∷ ts) xs ys = said_append out t (texts_then out ts xs) ys ∙ ap (text_if out t) (said_all_append out ts xs ys)

pub said_both : (out : Bool) (ts us : List Text) (xs : List Event) → texts_then out (ts ++ us) xs ≡ texts_then out ts (texts_then out us xs)
said_both out [] us xs = refl
said_both out (t ∷ ts) us xs = ap (text_if out t) (said_both out ts us xs)

-- the pieces before a tree
pub pieces_trace : (plain out : Bool) (ts : List Text) (rest : Tree) → events plain out (all_pieces ts rest) ≡ texts_then out ts (events plain out rest)
pieces_trace plain out [] rest = refl
pieces_trace plain out (t ∷ ts) rest = ap (text_if out t) (pieces_trace plain out ts rest)

pub handing_both : (out : Bool) (ts us : List Text) (h : Trace) → with_texts out (ts ++ us) h ≡ with_texts out ts (with_texts out us h)
handing_both out ts us h = ap (λ (xs : List Event). record { events = xs; place = h.place; is_bracket_open = h.is_bracket_open }) (said_both out ts us h.events)

pub allowed_append : (ks : List ℕ) (xs ys : List Event) → looks_then ks xs ++ ys ≡ looks_then ks (xs ++ ys)
allowed_append [] xs ys = refl
allowed_append (k ∷ ks) xs ys = ap (λ (zs : List Event). allows k ∷ zs) (allowed_append ks xs ys)

pub and_then_assoc : (h : Trace) (f g : Option ℕ → Bool → Trace) → and_then (and_then h f) g ≡ and_then h (λ i o. and_then (f i o) g)
and_then_assoc h f g = let m = f h.place h.is_bracket_open in let n = g m.place m.is_bracket_open in ap (λ (xs : List Event). record { events = xs; place = n.place; is_bracket_open = n.is_bracket_open }) (append_assoc h.events m.events n.events)

pub and_then_ended : (h : Trace) → and_then h empty_trace ≡ h
and_then_ended h = ap (λ (xs : List Event). record { events = xs; place = h.place; is_bracket_open = h.is_bracket_open }) (append-nil h.events)

pub handing_then : (out : Bool) (ts : List Text) (h : Trace) (k : Option ℕ → Bool → Trace) → and_then (with_texts out ts h) k ≡ with_texts out ts (and_then h k)
handing_then out ts h k = let g = k h.place h.is_bracket_open in ap (λ (xs : List Event). record { events = xs; place = g.place; is_bracket_open = g.is_bracket_open }) (said_all_append out ts h.events g.events)

pub allowing_then : (ks : List ℕ) (h : Trace) (k : Option ℕ → Bool → Trace) → and_then (with_looks ks h) k ≡ with_looks ks (and_then h k)
allowing_then ks h k = let g = k h.place h.is_bracket_open in ap (λ (xs : List Event). record { events = xs; place = g.place; is_bracket_open = g.is_bracket_open }) (allowed_append ks h.events g.events)
