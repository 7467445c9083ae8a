-- A production that was read without an error reads the same if more depths are left, or if as many are left as two for
-- each of its bytes, two more, and those that its references need.
use Rattle.std.specs.Prelude.{ℕ, zero, suc, ◌&&◌, ◌≤◌, ◌⊎◌, codes, slice_get, ◌==◌, nat_le}
use Rattle.std.proofs.Common.{◌≡◌, Bool, true, false, List, [], ◌∷◌, length, Option, Some, None, inl, inr, refl, subst, sym, ap, ◌∙◌, ◌+◌, ◌-◌, ◌*◌, arith}
use Prim.Native.Char.{code}
use Rattle.demangle_symbol.specs.Digits.{is_byte}
use Rattle.demangle_symbol.specs.Primitives.{Name, Read, byte_at, namespace_at, integer_at, optional_at, backref_at, identifier_at, nibbles_at}
use Rattle.demangle_symbol.proofs.Counts.{Placed, byte_placed, namespace_placed, integer_placed, optional_placed, backref_placed, identifier_placed, nibbles_placed}
use Rattle.demangle_v0_grammar.specs.Items.{Text, Kind, a_path, a_type, a_constant, a_pattern, a_trait_path, Items, done, invalid, print, print_plain, byte, namespace, integer, optional, identifier, nibbles, peek, next, if_ok, until_end, raise, unit, child, skip, folded, target, lifetime, binder, leave_open, dyn_trait, bindings}
use Rattle.demangle_v0_grammar.specs.Table.{items}
use Rattle.demangle_v0_grammar.specs.Reading.{Tree, nothing, piece, plain_piece, node, looked, unprinted, referred, invalid_syntax, too_deep, after_error, Place, Outcome, Level, Context, at_place, with_tree, primitive, followed_by, followed_open, after_unprinted, parse, primitive_outcome, peek_outcome, byte_choice, one_level_deeper, repetitions, angle_if_open, binding_separator, name_equals, bound_by, unit_outcome, folded_by, target_of, target_read, lifetime_at, level_of, levels, nowhere}
use Rattle.demangle_v0_grammar.proofs.Failed.{failed, bound_failed}
use Rattle.demangle_v0_grammar.proofs.Repetitions.{Within, within_later}
use Rattle.demangle_v0_grammar.proofs.SpelledIsParsed.{there_placed}
use Rattle.demangle_v0_grammar.proofs.Forward.{LevelOn, AllOn, Stays, forward, turns_on, bound_on, unit_on, here_on, lifetime_on}
use Rattle.demangle_v0_grammar.proofs.ItemLooks.{target_within}

-- Whether the references of a tree need at most k depths: one, two for each byte of what it leads to, two more, and those
-- that the references in that need.
abbrev pub AtMost : ℕ → Tree → Type 0
AtMost k nothing = Unit {0}
AtMost k (piece t rest) = AtMost k rest
AtMost k (plain_piece t rest) = AtMost k rest
AtMost k (node inside rest) = AtMost k inside × AtMost k rest
AtMost k (looked n rest) = AtMost k rest
AtMost k (unprinted inside rest) = AtMost k inside × AtMost k rest
AtMost k (referred t j None inside) = ⊥
AtMost k (referred t j (Some e) inside) = (l : ℕ) × (2 * (e - t) + 3 + l ≤ k) × AtMost l inside
AtMost k invalid_syntax = Unit {0}
AtMost k too_deep = Unit {0}
AtMost k after_error = Unit {0}

-- the depths that a production needs besides two for each of its bytes
abbrev pub depths_of : Kind → ℕ
depths_of a_type = 2
depths_of _ = 1

-- Whether c depths and two for each byte that is read are enough for the items.
abbrev pub Shallow : ℕ → Items → Type 0
Shallow c done = Unit {0}
Shallow c invalid = Unit {0}
Shallow c (print t p) = Shallow c p
Shallow c (print_plain t p) = Shallow c p
Shallow c (byte f) = (v : ℕ) → Shallow (suc (suc c)) (f v)
Shallow c (namespace f) = (v : ℕ) → Shallow (suc (suc c)) (f v)
Shallow c (integer f) = (v : ℕ) → Shallow c (f v)
Shallow c (optional tag f) = (v : ℕ) → Shallow c (f v)
Shallow c (identifier f) = (v : Name) → Shallow c (f v)
Shallow c (nibbles f) = (v : List ℕ) → Shallow c (f v)
Shallow c (peek f) = (v : ℕ) → Shallow c (f v)
Shallow c (next b p q) = Shallow (suc (suc c)) p × Shallow c q
Shallow c (if_ok p q) = Shallow c p × Shallow c q
Shallow c (until_end p q) = Shallow c p × Shallow c q
Shallow zero (raise p) = ⊥
Shallow (suc c) (raise p) = Shallow c p
Shallow c (unit p q) = Shallow c p × Shallow c q
Shallow c (child kind value p) = (depths_of kind ≤ c) × Shallow c p
Shallow c (skip p) = (1 ≤ c) × Shallow c p
Shallow c (folded p q) = Shallow c p × Shallow c q
Shallow c (target kind value) = Unit {0}
Shallow c (lifetime n p) = Shallow c p
Shallow c (binder n p) = Shallow c p
Shallow c (leave_open p) = Shallow c p
Shallow c (dyn_trait p) = (1 ≤ c) × Shallow c p
Shallow c (bindings o p) = Shallow c p

-- m depths are as many as there were, or as are needed
abbrev pub IsEnough : (had m needed : ℕ) → Type 0
IsEnough had m needed = (needed ≤ m) ⊎ (had ≤ m)

pub fewer : {had m a b : ℕ} → (a ≤ m → b ≤ m) → IsEnough had m a → IsEnough had m b
fewer h (inl l) = inl (h l)
fewer h (inr l) = inr l

-- From place i on, the first outcome is also the second, if it has no error and the second has enough depths for its
-- bytes, for c more, and for k, which its references need.
abbrev pub Agrees : (had m c k i : ℕ) → Outcome → Outcome → Type 0
Agrees had m c k i o w = (e : ℕ) → o.place ≡ Some e → AtMost k o.tree → IsEnough had m (2 * (e - i) + c + k) → w ≡ o

abbrev pub LevelAgrees : List ℕ → (had m : ℕ) → Level → Level → Type 0
LevelAgrees b had m l w = (printed : Bool) (kind : Kind) (value : Bool) (n i k : ℕ) → i ≤ length b → Agrees had m (depths_of kind) k i (l printed kind value n i) (w printed kind value n i)

-- the same for the levels of the last depths
abbrev pub AllAgree : List ℕ → List Level → List Level → Type 0
AllAgree b [] ws = Unit {0}
AllAgree b (l ∷ ls) [] = Unit {0}
AllAgree b (l ∷ ls) (w ∷ ws) = LevelAgrees b (length ls) (length ws) l w × AllAgree b ls ws

ends : (b : List ℕ) (i e : ℕ) (x : Place) → x ≡ Some e → Within b i x → (i ≤ e) × (e ≤ length b)
ends b i e x q w = subst (λ y. Within b i y) q w

primitive_agrees : {A : Type 0} (b : List ℕ) (n had m c d k i low : ℕ) (q : Read A) (f g : A → Place → Outcome) → 2 * i + d ≤ 2 * low + c → c ≤ d → i ≤ low → Placed low b q →
    ((v : A) (j : ℕ) → j ≤ length b → Within b j (f v (Some j)).place) → ((v : A) (j : ℕ) → j ≤ length b → Agrees had m d k j (f v (Some j)) (g v (Some j))) →
    Agrees had m c k i (primitive_outcome n i f q) (primitive_outcome n i g q)
primitive_agrees b n had m c d k i low None f g l le h p s a e x r u = cc
primitive_agrees b n had m c d k i low (Some q) f g l le h p s a e x r u =
    let w : (q.1 ≤ e) × (e ≤ length b) = ends b q.1 e (f q.0 (Some q.1)).place x (s q.0 q.1 p.1) in
    ap (λ o. with_tree (looked (4 * (q.1 - i + 1))) o) (a q.0 q.1 p.1 e x r (fewer (λ u. omega (arith, l, le, h, p.0, w.0, u)) u))

both : (b : List ℕ) (had m c k i : ℕ) (wrap : Tree → Tree → Tree) → ((x y : Tree) → AtMost k (wrap x y) → AtMost k x × AtMost k y) →
    (t : Tree) (x : Place) (w : Outcome) (f g : Place → Outcome) → Within b i x → Stays b f → (f None).place ≡ None →
    ((e : ℕ) → x ≡ Some e → AtMost k t → IsEnough had m (2 * (e - i) + c + k) → (w.tree ≡ t) × (w.place ≡ x)) →
    ((j : ℕ) → j ≤ length b → Agrees had m c k j (f (Some j)) (g (Some j))) →
    (e : ℕ) → (f x).place ≡ Some e → AtMost k (wrap t (f x).tree) → IsEnough had m (2 * (e - i) + c + k) → with_tree (wrap w.tree) (g w.place) ≡ with_tree (wrap t) (f x)
both b had m c k i wrap split t None w f g l s n h a e x r u = cc (n, x)
both b had m c k i wrap split t (Some j) w f g l s n h a e x r u =
    let y : (j ≤ e) × (e ≤ length b) = ends b j e (f (Some j)).place x (s j l.1) in
    let z = split t (f (Some j)).tree r in
    let p = h j refl z.0 (fewer (λ u. omega (arith, y.0, u)) u) in
    ap (λ o. with_tree (wrap o) (g w.place)) p.0 ∙ ap (λ o. with_tree (wrap t) (g o)) p.1 ∙ ap (λ o. with_tree (wrap t) o) (a j l.1 e x z.1 (fewer (λ u. omega (arith, l.0, y.0, u)) u))

-- a production and the rest
follows_agree : (b : List ℕ) (had m c k i : ℕ) (o w : Outcome) (f g : Place → Outcome) → Within b i o.place → Stays b f → (f None).place ≡ None →
    Agrees had m c k i o w → ((j : ℕ) → j ≤ length b → Agrees had m c k j (f (Some j)) (g (Some j))) → Agrees had m c k i (followed_by o f) (followed_by w g)
follows_agree b had m c k i o w f g l s n h a =
    both b had m c k i node (λ x y z. z) o.tree o.place w f g l s n (λ e q r u. let p = h e q r u in (ap (λ z. z.tree) p, ap (λ z. z.place) p)) a

-- a production that is not printed and the rest
skips_agree : (b : List ℕ) (had m c k i : ℕ) (o w : Outcome) (f g : Place → Outcome) → Within b i o.place → Stays b f → (f None).place ≡ None →
    Agrees had m c k i o w → ((j : ℕ) → j ≤ length b → Agrees had m c k j (f (Some j)) (g (Some j))) → Agrees had m c k i (after_unprinted o f) (after_unprinted w g)
skips_agree b had m c k i o w f g l s n h a =
    both b had m c k i unprinted (λ x y z. z) o.tree o.place w f g l s n (λ e q r u. let p = h e q r u in (ap (λ z. z.tree) p, ap (λ z. z.place) p)) a

peek_agrees : (had m c k i : ℕ) (r : Option ℕ) (f g : ℕ → Outcome) → ((v : ℕ) → Agrees had m c k i (f v) (g v)) → Agrees had m c k i (peek_outcome f r) (peek_outcome g r)
peek_agrees had m c k i None f g h e x r u = cc
peek_agrees had m c k i (Some v) f g h e x r u = ap (λ o. with_tree (looked 1) o) (h v e x r u)

fork_agrees : (b : List ℕ) (had m c d k i : ℕ) (t : Bool) (f f' g g' : Place → Outcome) → d ≤ suc (suc c) → (t ≡ true → i + 1 ≤ length b) → Stays b f →
    ((j : ℕ) → j ≤ length b → Agrees had m d k j (f (Some j)) (g (Some j))) → Agrees had m c k i (f' (Some i)) (g' (Some i)) → Agrees had m c k i (byte_choice t f f' (Some i)) (byte_choice t g g' (Some i))
fork_agrees b had m c d k i true f f' g g' z l s h a e x r u =
    let y : (i + 1 ≤ e) × (e ≤ length b) = ends b (i + 1) e (f (Some (i + 1))).place x (s (i + 1) (l refl)) in
    ap (λ o. with_tree (looked 1) o) (h (i + 1) (l refl) e x r (fewer (λ u. omega (arith, y.0, z, u)) u))
fork_agrees b had m c d k i false f f' g g' z l s h a e x r u = ap (λ o. with_tree (looked 1) o) (a e x r u)

same_agrees : (had m c k i : ℕ) (o : Outcome) → Agrees had m c k i o o
same_agrees had m c k i o e x r u = refl

tree_agrees : (had m c k i : ℕ) (wrap : Tree → Tree) → ((t : Tree) → AtMost k (wrap t) → AtMost k t) → (o w : Outcome) → Agrees had m c k i o w → Agrees had m c k i (with_tree wrap o) (with_tree wrap w)
tree_agrees had m c k i wrap s o w h e x r u = ap (λ z. with_tree wrap z) (h e x (s o.tree r) u)

turns_agree : (n : ℕ) (b : List ℕ) (had m c k : ℕ) (f g : Place → Outcome) → Stays b f → ((j : ℕ) → j ≤ length b → Agrees had m c k j (f (Some j)) (g (Some j))) →
    (i : ℕ) → i ≤ length b → Agrees had m c k i (repetitions n b f (Some i)) (repetitions n b g (Some i))
unfolding repetitions
turns_agree zero b had m c k f g s h i l = λ e x r u. cc
turns_agree (suc n) b had m c k f g s h i l =
    fork_agrees b had m c c k i (is_byte b i (code "E")) at_place (λ j. followed_by (f j) (repetitions n b f)) at_place (λ j. followed_by (g j) (repetitions n b g)) (omega arith) (there_placed b (code "E") i) (here_on b)
    (λ j p. same_agrees had m c k j (at_place (Some j)))
    (follows_agree b had m c k i (f (Some i)) (g (Some i)) (repetitions n b f) (repetitions n b g) (s i l) (turns_on n b f s) refl (h i l) (turns_agree n b had m c k f g s h))

separator_at : (o : Bool) (k : ℕ) (t : Tree) → AtMost k (binding_separator o t) → AtMost k t
separator_at true k t r = r
separator_at false k t r = r

pieces_at : (ts : List Text) (k : ℕ) (t : Tree) → AtMost k (Rattle.demangle_v0_grammar.specs.Reading.all_pieces ts t) → AtMost k t
pieces_at [] k t r = r
pieces_at (x ∷ ts) k t r = pieces_at ts k t r

bound_agrees : (n : ℕ) (s : Context) (here : Level) (deeper : List Level) (had m c k : ℕ) (f g : Place → Outcome) → Stays s.symbol f → ((j : ℕ) → j ≤ length s.symbol → Agrees had m c k j (f (Some j)) (g (Some j))) →
    (o : Bool) (i : ℕ) → i ≤ length s.symbol → Agrees had m c k i (bound_by n s f o (Some i)) (bound_by n (record s { here = here; deeper = deeper }) g o (Some i))
unfolding bound_by
bound_agrees zero s here deeper had m c k f g h a o i l = λ e x r u. cc
bound_agrees (suc n) s here deeper had m c k f g h a o i l =
    let b = s.symbol in
    let z : Context = record s { here = here; deeper = deeper } in
    let one : Name → Place → Outcome = λ v x. with_tree (name_equals v) (followed_by (f x) (bound_by n s f true)) in
    let two : Name → Place → Outcome = λ v x. with_tree (name_equals v) (followed_by (g x) (bound_by n z g true)) in
    let on : (v : Name) (j : ℕ) → j ≤ length b → Within b j (one v (Some j)).place = λ v j p. bound_rest n s f h j p in
    fork_agrees b had m c c k i (is_byte b i (code "p")) (λ j. with_tree (binding_separator o) (primitive s j identifier_at one)) (angle_if_open o) (λ j. with_tree (binding_separator o) (primitive z j identifier_at two)) (angle_if_open o) (omega arith) (there_placed b (code "p") i)
    (λ j p. bound_word s f h n j p)
    (λ j p. tree_agrees had m c k j (binding_separator o) (separator_at o k) (primitive s (Some j) identifier_at one) (primitive z (Some j) identifier_at two)
    (primitive_agrees b (length b) had m c c k j (j + 1) (identifier_at b j) one two (omega arith) (omega arith) (omega arith) (identifier_placed b j) on
    (λ v q t. tree_agrees had m c k q (name_equals v) (λ y. pieces_at (Rattle.demangle_symbol.specs.Names.name_pieces v) k (piece (codes " = ") y)) (followed_by (f (Some q)) (bound_by n s f true)) (followed_by (g (Some q)) (bound_by n z g true))
    (follows_agree b had m c k q (f (Some q)) (g (Some q)) (bound_by n s f true) (bound_by n z g true) (h q t) (bound_on n s f h true) (bound_failed n s f true) (a q t) (bound_agrees n s here deeper had m c k f g h a true)))))
    (same_agrees had m c k i (angle_if_open o (Some i)))
  where
    bound_rest : (n : ℕ) (s : Context) (f : Place → Outcome) → Stays s.symbol f → (j : ℕ) → j ≤ length s.symbol → Within s.symbol j (bound_by n s f true (f (Some j)).place).place
    bound_rest n s f h j p = Rattle.demangle_v0_grammar.proofs.Forward.rest_on s.symbol j (f (Some j)).place (bound_by n s f true) (h j p) (bound_on n s f h true) (bound_failed n s f true)

    bound_word : (s : Context) (f : Place → Outcome) → Stays s.symbol f → (n j : ℕ) → j ≤ length s.symbol → Within s.symbol j (primitive s (Some j) identifier_at (λ v x. with_tree (name_equals v) (followed_by (f x) (bound_by n s f true)))).place
    bound_word s f h n j p = Rattle.demangle_v0_grammar.proofs.Forward.primitive_on s.symbol (length s.symbol) j (j + 1) (identifier_at s.symbol j) (λ v x. with_tree (name_equals v) (followed_by (f x) (bound_by n s f true))) (omega arith) (identifier_placed s.symbol j) (λ v q l t. bound_rest n s f h q t)

folded_agrees : (b : List ℕ) (had m c k i : ℕ) (t : Bool) (x y x' y' : Outcome) (f g : Place → Outcome) → Within b i x.place → Within b i y.place → Stays b f → (f None).place ≡ None →
    Agrees had m c k i x x' → Agrees had m c k i y y' → ((j : ℕ) → j ≤ length b → Agrees had m c k j (f (Some j)) (g (Some j))) → Agrees had m c k i (folded_by t x y f) (folded_by t x' y' g)
folded_agrees b had m c k i true x y x' y' f g l l' s n h h' a =
    skips_agree b had m c k i x x' (λ z. with_tree (piece (codes "_")) (f z)) (λ z. with_tree (piece (codes "_")) (g z)) l s n h
    (λ j p. tree_agrees had m c k j (piece (codes "_")) (λ z r. r) (f (Some j)) (g (Some j)) (a j p))
folded_agrees b had m c k i false x y x' y' f g l l' s n h h' a = follows_agree b had m c k i y y' f g l' s n h' a

open_agrees : (b : List ℕ) (had m c k i : ℕ) (o w : Outcome) (f g : Bool → Place → Outcome) → Within b i o.place → Stays b (f o.is_bracket_open) → (f o.is_bracket_open None).place ≡ None →
    Agrees had m c k i o w → ((j : ℕ) → j ≤ length b → Agrees had m c k j (f o.is_bracket_open (Some j)) (g o.is_bracket_open (Some j))) → Agrees had m c k i (followed_open o f) (followed_open w g)
open_agrees b had m c k i o w f g l s n h a e x r u = go o.place refl
  where
    go : (y : Place) → o.place ≡ y → followed_open w g ≡ followed_open o f
    go None q = cc (n, x, q)
    go (Some j) q =
        let x' : (f o.is_bracket_open (Some j)).place ≡ Some e = subst (λ y. (f o.is_bracket_open y).place ≡ Some e) q x in
        let r' : AtMost k (f o.is_bracket_open (Some j)).tree = subst (λ y. AtMost k (f o.is_bracket_open y).tree) q r.1 in
        let l' : (i ≤ j) × (j ≤ length b) = ends b i j o.place q l in
        let y : (j ≤ e) × (e ≤ length b) = ends b j e (f o.is_bracket_open (Some j)).place x' (s j l'.1) in
        let z : g o.is_bracket_open (Some j) ≡ f o.is_bracket_open (Some j) = a j l'.1 e x' r' (fewer (λ u. omega (arith, l'.0, y.0, u)) u) in
        ap (λ v. followed_open v g) (h j q r.0 (fewer (λ u. omega (arith, y.0, u)) u))
        ∙ ap (λ v. with_tree (node o.tree) v) (subst (λ v. g o.is_bracket_open v ≡ f o.is_bracket_open v) (sym q) z)

raised_agrees : (b : List ℕ) (c k i : ℕ) (ls ws : List Level) (f g : Level → List Level → Place → Outcome) → AllOn b ls → AllAgree b ls ws →
    ((l w : Level) (xs ys : List Level) → LevelOn b l → AllOn b xs → LevelAgrees b (length xs) (length ys) l w → AllAgree b xs ys → Agrees (length xs) (length ys) c k i (f l xs (Some i)) (g w ys (Some i))) →
    Agrees (length ls) (length ws) (suc c) k i (one_level_deeper ls f (Some i)) (one_level_deeper ws g (Some i))
raised_agrees b c k i [] ws f g d a h = λ e x r u. cc
raised_agrees b c k i (l ∷ ls) [] f g d a h = λ e x r u. none _ u
  where
    none : {A : Type 0} (q : ℕ) → IsEnough (suc (length ls)) 0 (q + suc c + k) → A
    none q (inl u) = absurd (omega (arith, u))
    none q (inr u) = absurd (omega (arith, u))
raised_agrees b c k i (l ∷ ls) (w ∷ ws) f g d a h = λ e x r u. h l w ls ws d.0 d.1 a.0 a.1 e x r (deeper _ u)
  where
    deeper : (q : ℕ) → IsEnough (suc (length ls)) (suc (length ws)) (q + suc c + k) → IsEnough (length ls) (length ws) (q + c + k)
    deeper q (inl u) = inl (omega (arith, u))
    deeper q (inr u) = inr (omega (arith, u))

target_agrees : (b : List ℕ) (pr : Bool) (ls ws : List Level) (kind : Kind) (value : Bool) (n c k t j : ℕ) → t ≤ length b → AllAgree b ls ws →
    Agrees (length ls) (length ws) (c + 1) k j (target_of ls (λ level. target_read pr (level true kind value n) t (Some j))) (target_of ws (λ level. target_read pr (level true kind value n) t (Some j)))
target_agrees b pr [] ws kind value n c k t j l a = λ e x r u. cc
target_agrees b pr (x ∷ xs) [] kind value n c k t j l a = λ e y r u. none _ u
  where
    none : {A : Type 0} (q : ℕ) → IsEnough (suc (length xs)) 0 (q + (c + 1) + k) → A
    none q (inl u) = absurd (omega (arith, u))
    none q (inr u) = absurd (omega (arith, u))
target_agrees b false (x ∷ xs) (w ∷ ws) kind value n c k t j l a = λ e y r u. refl
target_agrees b true (x ∷ xs) (w ∷ ws) kind value n c k t j l a = λ e y r u.
    let o : Outcome = x true kind value n t in
    let found : (p : Place) → o.place ≡ p → AtMost k (referred t (Some j) p o.tree) → w true kind value n t ≡ o = read _ u in
    ap (λ z. record { tree = node (referred t (Some j) z.place z.tree) nothing; place = Some j; is_bracket_open = z.is_bracket_open }) (found o.place refl r.0)
  where
    small : (kind : Kind) → depths_of kind ≤ 2
    small a_type = omega arith
    small a_path = omega arith
    small a_constant = omega arith
    small a_pattern = omega arith
    small a_trait_path = omega arith

    deeper : (h f q : ℕ) → 2 * (f - t) + 3 + q ≤ k → IsEnough (suc (length xs)) (suc (length ws)) (h + (c + 1) + k) → IsEnough (length xs) (length ws) (2 * (f - t) + depths_of kind + q)
    deeper h f q l (inl u) = inl (omega (arith, u, l, small kind))
    deeper h f q l (inr u) = inr (omega (arith, u))

    read : (h : ℕ) → IsEnough (suc (length xs)) (suc (length ws)) (h + (c + 1) + k) → (p : Place) → (x true kind value n t).place ≡ p → AtMost k (referred t (Some j) p (x true kind value n t).tree) → w true kind value n t ≡ x true kind value n t
    read h u None q r = absurd r
    read h u (Some f) q r = a.0 true kind value n t r.0 l f q r.2 (deeper h f r.0 r.1 u)

binder_most : (out : Bool) (m n k : ℕ) (t : Tree) → AtMost k (Rattle.demangle_v0_grammar.specs.Reading.binder_at out m n t) → AtMost k t
binder_most false m n k t r = r
binder_most true zero n k t r = r
binder_most true (suc m) n k t r = new_most m (n + 1) k t (pieces_at (Rattle.demangle_v0_grammar.specs.Reading.letter_of n) k (Rattle.demangle_v0_grammar.specs.Reading.new_lifetimes m (n + 1) (piece (codes "> ") t)) r)
  where
    new_most : (m n k : ℕ) (t : Tree) → AtMost k (Rattle.demangle_v0_grammar.specs.Reading.new_lifetimes m n (piece (codes "> ") t)) → AtMost k t
    new_most zero n k t r = r
    new_most (suc m) n k t r = new_most m (n + 1) k t (pieces_at (Rattle.demangle_v0_grammar.specs.Reading.letter_of n) k (Rattle.demangle_v0_grammar.specs.Reading.new_lifetimes m (n + 1) (piece (codes "> ") t)) r)

weaker : (had m c d k i : ℕ) (o w : Outcome) → d ≤ c → Agrees had m d k i o w → Agrees had m c k i o w
weaker had m c d k i o w l h e x r u = h e x r (fewer (λ u. omega (arith, l, u)) u)

pub enough : (p : Items) (c : ℕ) (s : Context) (here : Level) (deeper : List Level) → Shallow c p → LevelOn s.symbol s.here → AllOn s.symbol s.deeper →
    LevelAgrees s.symbol (length s.deeper) (length deeper) s.here here → AllAgree s.symbol s.deeper deeper → (k i : ℕ) → i ≤ length s.symbol →
    Agrees (length s.deeper) (length deeper) c k i (parse p s (Some i)) (parse p (record s { here = here; deeper = deeper }) (Some i))
unfolding parse
enough done c s z zs h o d v a k i l = same_agrees (length s.deeper) (length zs) c k i (at_place (Some i))
enough invalid c s z zs h o d v a k i l = λ e x r u. cc
enough (print t p) c s z zs h o d v a k i l = tree_agrees (length s.deeper) (length zs) c k i (piece t) (λ y r. r) (parse p s (Some i)) (parse p (record s { here = z; deeper = zs }) (Some i)) (enough p c s z zs h o d v a k i l)
enough (print_plain t p) c s z zs h o d v a k i l = tree_agrees (length s.deeper) (length zs) c k i (plain_piece t) (λ y r. r) (parse p s (Some i)) (parse p (record s { here = z; deeper = zs }) (Some i)) (enough p c s z zs h o d v a k i l)
enough (byte f) c s z zs h o d v a k i l =
    primitive_agrees s.symbol (length s.symbol) (length s.deeper) (length zs) c (suc (suc c)) k i (i + 1) (byte_at s.symbol i) (λ x. parse (f x) s) (λ x. parse (f x) (record s { here = z; deeper = zs })) (omega arith) (omega arith) (omega arith) (byte_placed s.symbol i)
    (λ x j q. forward (f x) s o d j q) (λ x j q. enough (f x) (suc (suc c)) s z zs (h x) o d v a k j q)
enough (namespace f) c s z zs h o d v a k i l =
    primitive_agrees s.symbol (length s.symbol) (length s.deeper) (length zs) c (suc (suc c)) k i (i + 1) (namespace_at s.symbol i) (λ x. parse (f x) s) (λ x. parse (f x) (record s { here = z; deeper = zs })) (omega arith) (omega arith) (omega arith) (namespace_placed s.symbol i)
    (λ x j q. forward (f x) s o d j q) (λ x j q. enough (f x) (suc (suc c)) s z zs (h x) o d v a k j q)
enough (integer f) c s z zs h o d v a k i l =
    primitive_agrees s.symbol (length s.symbol) (length s.deeper) (length zs) c c k i (i + 1) (integer_at s.symbol i) (λ x. parse (f x) s) (λ x. parse (f x) (record s { here = z; deeper = zs })) (omega arith) (omega arith) (omega arith) (integer_placed s.symbol i)
    (λ x j q. forward (f x) s o d j q) (λ x j q. enough (f x) c s z zs (h x) o d v a k j q)
enough (optional tag f) c s z zs h o d v a k i l =
    primitive_agrees s.symbol (length s.symbol) (length s.deeper) (length zs) c c k i i (optional_at tag s.symbol i) (λ x. parse (f x) s) (λ x. parse (f x) (record s { here = z; deeper = zs })) (omega arith) (omega arith) (omega arith) (optional_placed tag s.symbol i l)
    (λ x j q. forward (f x) s o d j q) (λ x j q. enough (f x) c s z zs (h x) o d v a k j q)
enough (identifier f) c s z zs h o d v a k i l =
    primitive_agrees s.symbol (length s.symbol) (length s.deeper) (length zs) c c k i (i + 1) (identifier_at s.symbol i) (λ x. parse (f x) s) (λ x. parse (f x) (record s { here = z; deeper = zs })) (omega arith) (omega arith) (omega arith) (identifier_placed s.symbol i)
    (λ x j q. forward (f x) s o d j q) (λ x j q. enough (f x) c s z zs (h x) o d v a k j q)
enough (nibbles f) c s z zs h o d v a k i l =
    primitive_agrees s.symbol (length s.symbol) (length s.deeper) (length zs) c c k i (i + 1) (nibbles_at s.symbol i) (λ x. parse (f x) s) (λ x. parse (f x) (record s { here = z; deeper = zs })) (omega arith) (omega arith) (omega arith) (nibbles_placed s.symbol i)
    (λ x j q. forward (f x) s o d j q) (λ x j q. enough (f x) c s z zs (h x) o d v a k j q)
enough (peek f) c s z zs h o d v a k i l = peek_agrees (length s.deeper) (length zs) c k i (slice_get s.symbol i) (λ x. parse (f x) s (Some i)) (λ x. parse (f x) (record s { here = z; deeper = zs }) (Some i)) (λ x. enough (f x) c s z zs (h x) o d v a k i l)
enough (next b p q) c s z zs h o d v a k i l =
    fork_agrees s.symbol (length s.deeper) (length zs) c (suc (suc c)) k i (is_byte s.symbol i b) (parse p s) (parse q s) (parse p (record s { here = z; deeper = zs })) (parse q (record s { here = z; deeper = zs })) (omega arith) (there_placed s.symbol b i) (forward p s o d)
    (λ j x. enough p (suc (suc c)) s z zs h.0 o d v a k j x) (enough q c s z zs h.1 o d v a k i l)
enough (if_ok p q) c s z zs h o d v a k i l = enough p c s z zs h.0 o d v a k i l
enough (until_end p q) c s z zs h o d v a k i l =
    let n = suc (length s.symbol) in
    follows_agree s.symbol (length s.deeper) (length zs) c k i (repetitions n s.symbol (parse p s) (Some i)) (repetitions n s.symbol (parse p (record s { here = z; deeper = zs })) (Some i)) (parse q s) (parse q (record s { here = z; deeper = zs }))
    (turns_on n s.symbol (parse p s) (forward p s o d) i l) (forward q s o d) (failed q s)
    (turns_agree n s.symbol (length s.deeper) (length zs) c k (parse p s) (parse p (record s { here = z; deeper = zs })) (forward p s o d) (λ j x. enough p c s z zs h.0 o d v a k j x) i l) (λ j x. enough q c s z zs h.1 o d v a k j x)
enough (raise p) zero s z zs h o d v a k i l = absurd h
enough (raise p) (suc c) s z zs h o d v a k i l =
    raised_agrees s.symbol c k i s.deeper zs (λ level levels. parse p (record s { here = level; deeper = levels })) (λ level levels. parse p (record s { here = level; deeper = levels })) d a
    (λ x w xs ws e f g b. enough p c (record s { here = x; deeper = xs }) w ws h e f g b k i l)
enough (unit p q) c s z zs h o d v a k i l =
    follows_agree s.symbol (length s.deeper) (length zs) c k i (parse p s (Some i)) (parse p (record s { here = z; deeper = zs }) (Some i)) (parse q s) (parse q (record s { here = z; deeper = zs })) (forward p s o d i l) (forward q s o d) (failed q s)
    (enough p c s z zs h.0 o d v a k i l) (λ j x. enough q c s z zs h.1 o d v a k j x)
enough (child kind value p) c s z zs h o d v a k i l =
    follows_agree s.symbol (length s.deeper) (length zs) c k i (unit_outcome s kind value (Some i)) (unit_outcome (record s { here = z; deeper = zs }) kind value (Some i)) (parse p s) (parse p (record s { here = z; deeper = zs }))
    (unit_on s kind value o i l) (forward p s o d) (failed p s)
    (weaker (length s.deeper) (length zs) c (depths_of kind) k i (unit_outcome s kind value (Some i)) (unit_outcome (record s { here = z; deeper = zs }) kind value (Some i)) h.0 (v s.printed kind value s.lifetimes i k l)) (λ j x. enough p c s z zs h.1 o d v a k j x)
enough (skip p) c s z zs h o d v a k i l =
    skips_agree s.symbol (length s.deeper) (length zs) c k i (s.here false a_path false s.lifetimes i) (z false a_path false s.lifetimes i) (parse p s) (parse p (record s { here = z; deeper = zs }))
    (o false a_path false s.lifetimes i l) (forward p s o d) (failed p s)
    (weaker (length s.deeper) (length zs) c 1 k i (s.here false a_path false s.lifetimes i) (z false a_path false s.lifetimes i) h.0 (v false a_path false s.lifetimes i k l)) (λ j x. enough p c s z zs h.1 o d v a k j x)
enough (folded p q) c s z zs h o d v a k i l =
    folded_agrees s.symbol (length s.deeper) (length zs) c k i (s.printed && s.folds) (parse p (record s { printed = false }) (Some i)) (parse p s (Some i)) (parse p (record s { printed = false; here = z; deeper = zs }) (Some i)) (parse p (record s { here = z; deeper = zs }) (Some i)) (parse q s) (parse q (record s { here = z; deeper = zs }))
    (forward p (record s { printed = false }) o d i l) (forward p s o d i l) (forward q s o d) (failed q s)
    (enough p c (record s { printed = false }) z zs h.0 o d v a k i l) (enough p c s z zs h.0 o d v a k i l) (λ j x. enough q c s z zs h.1 o d v a k j x)
enough (lifetime n p) c s z zs h o d v a k i l =
    follows_agree s.symbol (length s.deeper) (length zs) c k i (lifetime_at s.printed s.lifetimes n (Some i)) (lifetime_at s.printed s.lifetimes n (Some i)) (parse p s) (parse p (record s { here = z; deeper = zs })) (lifetime_on s.symbol s.printed s.lifetimes n i l) (forward p s o d) (failed p s)
    (same_agrees (length s.deeper) (length zs) c k i (lifetime_at s.printed s.lifetimes n (Some i))) (λ j x. enough p c s z zs h o d v a k j x)
enough (binder n p) c s z zs h o d v a k i l =
    tree_agrees (length s.deeper) (length zs) c k i (Rattle.demangle_v0_grammar.specs.Reading.binder_at s.printed n s.lifetimes) (binder_most s.printed n s.lifetimes k) (parse p (record s { lifetimes = s.lifetimes + n }) (Some i)) (parse p (record s { lifetimes = s.lifetimes + n; here = z; deeper = zs }) (Some i))
    (enough p c (record s { lifetimes = s.lifetimes + n }) z zs h o d v a k i l)
enough (leave_open p) c s z zs h o d v a k i l =
    let left_open : Outcome → Outcome = λ y. record y { is_bracket_open = true } in
    λ e x r u. ap left_open (enough p c s z zs h o d v a k i l e x r u)
enough (bindings t p) c s z zs h o d v a k i l = bound_agrees (suc (length s.symbol)) s z zs (length s.deeper) (length zs) c k (parse p s) (parse p (record s { here = z; deeper = zs })) (forward p s o d) (λ j x. enough p c s z zs h o d v a k j x) t i l
enough (dyn_trait p) c s z zs h o d v a k i l =
    let n = suc (length s.symbol) in
    let y : Outcome = unit_outcome s a_trait_path false (Some i) in
    open_agrees s.symbol (length s.deeper) (length zs) c k i y (unit_outcome (record s { here = z; deeper = zs }) a_trait_path false (Some i)) (bound_by n s (parse p s)) (bound_by n (record s { here = z; deeper = zs }) (parse p (record s { here = z; deeper = zs })))
    (unit_on s a_trait_path false o i l) (bound_on n s (parse p s) (forward p s o d) y.is_bracket_open) (bound_failed n s (parse p s) y.is_bracket_open)
    (weaker (length s.deeper) (length zs) c 1 k i y (unit_outcome (record s { here = z; deeper = zs }) a_trait_path false (Some i)) h.0 (v s.printed a_trait_path false s.lifetimes i k l))
    (λ j x. bound_agrees n s z zs (length s.deeper) (length zs) c k (parse p s) (parse p (record s { here = z; deeper = zs })) (forward p s o d) (λ w q. enough p c s z zs h.1 o d v a k w q) y.is_bracket_open j x)
enough (target kind value) c s z zs h o d v a k i l = tagged (backref_at s.symbol i) refl
  where
    f : ℕ → Place → Outcome
    f t j = target_of s.deeper (λ level. target_read s.printed (level true kind value s.lifetimes) t j)

    g : ℕ → Place → Outcome
    g t j = target_of zs (λ level. target_read s.printed (level true kind value s.lifetimes) t j)

    tagged : (q : Read ℕ) → backref_at s.symbol i ≡ q → Agrees (length s.deeper) (length zs) c k i (primitive_outcome (length s.symbol) i f q) (primitive_outcome (length s.symbol) i g q)
    tagged None e = λ e x r u. cc
    tagged (Some q) e = λ w x r u.
        let p = subst (λ y. Placed (i + 1) s.symbol y) e (backref_placed s.symbol i) in
        let y = ends s.symbol q.1 w (f q.0 (Some q.1)).place x (Rattle.demangle_v0_grammar.proofs.Forward.target_on s.symbol s.printed s.deeper kind value s.lifetimes q.0 q.1 p.1) in
        ap (λ o. with_tree (looked (4 * (q.1 - i + 1))) o)
        (target_agrees s.symbol s.printed s.deeper zs kind value s.lifetimes c k q.0 q.1 (target_within s.symbol i q.0 q.1 (length s.symbol) l e) a w x r (fewer (λ u. omega (arith, p.0, y.0, u)) u))
