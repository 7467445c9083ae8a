-- What a reference leads to ends no earlier than it starts, and within the symbol.
use Rattle.std.specs.Prelude.{ℕ, zero, suc, ◌≤◌, ◌&&◌, codes, slice_get, ◌==◌, nat_le}
use Rattle.std.proofs.Common.{◌≡◌, Bool, true, false, cond, List, [], ◌∷◌, length, Option, Some, None, refl, subst, ◌+◌, ◌-◌, arith}
use Prim.Native.Char.{code}
use Rattle.demangle_symbol.specs.Digits.{is_byte}
use Rattle.demangle_symbol.specs.Primitives.{Read, byte_at, namespace_at, integer_at, optional_at, backref_at, identifier_at, nibbles_at}
use Rattle.demangle_symbol.specs.Names.{name_pieces}
use Rattle.demangle_symbol.proofs.Counts.{Placed, byte_placed, namespace_placed, integer_placed, optional_placed, backref_placed, identifier_placed, nibbles_placed}
use Rattle.demangle_v0_grammar.specs.Items.{Text, Kind, a_path, a_trait_path, Items, done, invalid, print, print_plain, byte, namespace, integer, optional, identifier, nibbles, peek, next, if_ok, until_end, raise, unit, child, skip, folded, target, lifetime, binder, leave_open, dyn_trait, bindings}
use Rattle.demangle_v0_grammar.specs.Table.{items}
use Rattle.demangle_v0_grammar.specs.Reading.{Tree, nothing, piece, plain_piece, node, looked, unprinted, referred, invalid_syntax, too_deep, after_error, Place, Outcome, Level, Context, at_place, with_tree, primitive, followed_by, parse, primitive_outcome, peek_outcome, byte_choice, one_level_deeper, repetitions, angle_if_open, binding_separator, name_equals, bound_by, unit_outcome, folded_by, target_of, target_read, lifetime_at, letter_of, all_pieces, new_lifetimes, binder_at, level_of, levels, nowhere}
use Rattle.demangle_v0_grammar.proofs.Failed.{failed, bound_failed}
use Rattle.demangle_v0_grammar.proofs.Repetitions.{Within}
use Rattle.demangle_v0_grammar.proofs.SpelledIsParsed.{there_placed}
use Rattle.demangle_v0_grammar.proofs.Forward.{LevelOn, AllOn, Stays, forward, turns_on, unit_on, nowhere_on, inner_on, levels_on}
use Rattle.demangle_v0_grammar.proofs.ItemLooks.{target_within}

abbrev pub Ahead : List ℕ → Tree → Type 0
Ahead b nothing = Unit {0}
Ahead b (piece t rest) = Ahead b rest
Ahead b (plain_piece t rest) = Ahead b rest
Ahead b (node inside rest) = Ahead b inside × Ahead b rest
Ahead b (looked k rest) = Ahead b rest
Ahead b (unprinted inside rest) = Ahead b inside × Ahead b rest
Ahead b (referred t j end inside) = Within b t end × Ahead b inside
Ahead b invalid_syntax = Unit {0}
Ahead b too_deep = Unit {0}
Ahead b after_error = Unit {0}

abbrev LevelAhead : List ℕ → Level → Type 0
LevelAhead b l = (pr : Bool) (kind : Kind) (value : Bool) (m i : ℕ) → i ≤ length b → Ahead b (l pr kind value m i).tree

abbrev AllAhead : List ℕ → List Level → Type 0
AllAhead b [] = Unit {0}
AllAhead b (l ∷ ls) = LevelAhead b l × AllAhead b ls

pieces_ahead : (b : List ℕ) (ts : List Text) (rest : Tree) → Ahead b rest → Ahead b (all_pieces ts rest)
pieces_ahead b [] rest h = h
pieces_ahead b (t ∷ ts) rest h = pieces_ahead b ts rest h

primitive_ahead : {A : Type 0} (b : List ℕ) (n i low : ℕ) (q : Read A) (f : A → Place → Outcome) → Placed low b q → ((v : A) (j : ℕ) → j ≤ length b → Ahead b (f v (Some j)).tree) → Ahead b (primitive_outcome n i f q).tree
primitive_ahead b n i low None f p h = tt
primitive_ahead b n i low (Some r) f p h = h r.0 r.1 p.1

rest_ahead : (b : List ℕ) (i : ℕ) (x : Place) (f : Place → Outcome) → Within b i x → Ahead b (f None).tree → ((j : ℕ) → j ≤ length b → Ahead b (f (Some j)).tree) → Ahead b (f x).tree
rest_ahead b i None f w n h = n
rest_ahead b i (Some j) f w n h = h j w.1

peek_ahead : (b : List ℕ) (f : ℕ → Outcome) (r : Option ℕ) → ((v : ℕ) → Ahead b (f v).tree) → Ahead b (peek_outcome f r).tree
peek_ahead b f None h = tt
peek_ahead b f (Some v) h = h v

fork_ahead : (b : List ℕ) (c : Bool) (f g : Place → Outcome) (i : ℕ) → (c ≡ true → i + 1 ≤ length b) → ((j : ℕ) → j ≤ length b → Ahead b (f (Some j)).tree) → Ahead b (g (Some i)).tree → Ahead b (byte_choice c f g (Some i)).tree
fork_ahead b true f g i l h k = h (i + 1) (l refl)
fork_ahead b false f g i l h k = k

turns_ahead : (n : ℕ) (b : List ℕ) (f : Place → Outcome) → Stays b f → ((j : ℕ) → j ≤ length b → Ahead b (f (Some j)).tree) → (i : ℕ) → i ≤ length b → Ahead b (repetitions n b f (Some i)).tree
unfolding repetitions
turns_ahead zero b f s h i l = tt
turns_ahead (suc n) b f s h i l =
    fork_ahead b (is_byte b i (code "E")) at_place (λ j. followed_by (f j) (repetitions n b f)) i (there_placed b (code "E") i) (λ j p. tt)
    (h i l, rest_ahead b i (f (Some i)).place (repetitions n b f) (s i l) tt (turns_ahead n b f s h))

closed_ahead : (b : List ℕ) (o : Bool) (i : Place) → Ahead b (angle_if_open o i).tree
closed_ahead b true i = tt
closed_ahead b false i = tt

separator_ahead : (b : List ℕ) (o : Bool) (t : Tree) → Ahead b t → Ahead b (binding_separator o t)
separator_ahead b true t h = h
separator_ahead b false t h = h

bound_ahead : (n : ℕ) (s : Context) (f : Place → Outcome) → Stays s.symbol f → ((j : ℕ) → j ≤ length s.symbol → Ahead s.symbol (f (Some j)).tree) → (o : Bool) (i : ℕ) → i ≤ length s.symbol → Ahead s.symbol (bound_by n s f o (Some i)).tree
unfolding bound_by
bound_ahead zero s f h a o i l = tt
bound_ahead (suc n) s f h a o i l =
    fork_ahead s.symbol (is_byte s.symbol i (code "p")) (λ j. with_tree (binding_separator o) (primitive s j identifier_at (λ v k. with_tree (name_equals v) (followed_by (f k) (bound_by n s f true))))) (angle_if_open o) i (there_placed s.symbol (code "p") i)
    (λ j p. separator_ahead s.symbol o (primitive s (Some j) identifier_at (λ v k. with_tree (name_equals v) (followed_by (f k) (bound_by n s f true)))).tree
    (primitive_ahead s.symbol (length s.symbol) j (j + 1) (identifier_at s.symbol j) (λ v k. with_tree (name_equals v) (followed_by (f k) (bound_by n s f true))) (identifier_placed s.symbol j)
    (λ v k q. pieces_ahead s.symbol (name_pieces v) (piece (codes " = ") (followed_by (f (Some k)) (bound_by n s f true)).tree) (a k q, rest_ahead s.symbol k (f (Some k)).place (bound_by n s f true) (h k q) tt (bound_ahead n s f h a true)))))
    (closed_ahead s.symbol o (Some i))

folded_ahead : (b : List ℕ) (c : Bool) (x y : Outcome) (f : Place → Outcome) → Ahead b x.tree → Ahead b y.tree → Ahead b (f x.place).tree → Ahead b (f y.place).tree → Ahead b (folded_by c x y f).tree
folded_ahead b true x y f h k m n = (h, m)
folded_ahead b false x y f h k m n = (k, n)

named_ahead : (b : List ℕ) (c d : Bool) (n k : ℕ) (i : Place) → Ahead b (cond c (with_tree (piece (codes "_")) (at_place i)) (cond d (with_tree (all_pieces (letter_of (n - k))) (at_place i)) (record { tree = invalid_syntax; place = None; is_bracket_open = false }))).tree
named_ahead b true d n k i = tt
named_ahead b false true n k i = pieces_ahead b (letter_of (n - k)) nothing tt
named_ahead b false false n k i = tt

lifetime_ahead : (b : List ℕ) (out : Bool) (n k : ℕ) (i : Place) → Ahead b (lifetime_at out n k i).tree
lifetime_ahead b false n k i = tt
lifetime_ahead b true n k i = named_ahead b (k == 0) (nat_le k n) n k i

new_ahead : (b : List ℕ) (m n : ℕ) (rest : Tree) → Ahead b rest → Ahead b (new_lifetimes m n rest)
new_ahead b zero n rest h = h
new_ahead b (suc m) n rest h = pieces_ahead b (letter_of n) (new_lifetimes m (n + 1) rest) (new_ahead b m (n + 1) rest h)

binder_ahead : (b : List ℕ) (out : Bool) (m n : ℕ) (rest : Tree) → Ahead b rest → Ahead b (binder_at out m n rest)
binder_ahead b false m n rest h = h
binder_ahead b true zero n rest h = h
binder_ahead b true (suc m) n rest h = pieces_ahead b (letter_of n) (new_lifetimes m (n + 1) (piece (codes "> ") rest)) (new_ahead b m (n + 1) (piece (codes "> ") rest) h)

-- after an error

raised_none : (b : List ℕ) (ls : List Level) (f : Level → List Level → Place → Outcome) → ((l : Level) (ls : List Level) → Ahead b (f l ls None).tree) → Ahead b (one_level_deeper ls f None).tree
raised_none b [] f h = tt
raised_none b (l ∷ ls) f h = h l ls

none_ahead : (b : List ℕ) (p : Items) (s : Context) → Ahead b (parse p s None).tree
unfolding parse bound_by repetitions
none_ahead b (print t p) s = none_ahead b p s
none_ahead b (print_plain t p) s = none_ahead b p s
none_ahead b (next c p q) s = none_ahead b q s
none_ahead b (if_ok p q) s = none_ahead b q s
none_ahead b (until_end p q) s = (tt, none_ahead b q s)
none_ahead b (raise p) s = raised_none b s.deeper (λ level levels. parse p (record s { here = level; deeper = levels })) (λ l ls. none_ahead b p (record s { here = l; deeper = ls }))
none_ahead b (unit p q) s = (none_ahead b p s, subst (λ x. Ahead b (parse q s x).tree) (Rattle.std.proofs.Common.sym (failed p s)) (none_ahead b q s))
none_ahead b (child kind value p) s = (tt, none_ahead b p s)
none_ahead b (skip p) s = none_ahead b p s
none_ahead b (folded p q) s =
    let rest : (x : Place) → x ≡ None → Ahead b (parse q s x).tree = λ x e. subst (λ y. Ahead b (parse q s y).tree) (Rattle.std.proofs.Common.sym e) (none_ahead b q s) in
    folded_ahead b (s.printed && s.folds) (parse p (record s { printed = false }) None) (parse p s None) (parse q s) (none_ahead b p (record s { printed = false })) (none_ahead b p s) (rest (parse p (record s { printed = false }) None).place (failed p (record s { printed = false }))) (rest (parse p s None).place (failed p s))
none_ahead b (lifetime k p) s =
    (lifetime_ahead b s.printed s.lifetimes k None, subst (λ x. Ahead b (parse p s x).tree) (Rattle.std.proofs.Common.sym (lifetime_none s.printed s.lifetimes k)) (none_ahead b p s))
  where
    named_none : (c d : Bool) (n k : ℕ) → (cond c (with_tree (piece (codes "_")) (at_place None)) (cond d (with_tree (all_pieces (letter_of (n - k))) (at_place None)) (record { tree = invalid_syntax; place = None; is_bracket_open = false }))).place ≡ None
    named_none true d n k = refl
    named_none false true n k = refl
    named_none false false n k = refl

    lifetime_none : (out : Bool) (n k : ℕ) → (lifetime_at out n k None).place ≡ None
    lifetime_none false n k = refl
    lifetime_none true n k = named_none (k == 0) (nat_le k n) n k
none_ahead b (binder m p) s = binder_ahead b s.printed m s.lifetimes (parse p (record s { lifetimes = s.lifetimes + m }) None).tree (none_ahead b p (record s { lifetimes = s.lifetimes + m }))
none_ahead b (leave_open p) s = none_ahead b p s
none_ahead b (dyn_trait p) s = (tt, tt)
none_ahead b (bindings o p) s = closed_ahead b o None
none_ahead b _ s = tt

-- in any place

raised_ahead : (b : List ℕ) (ls : List Level) (f : Level → List Level → Place → Outcome) (i : ℕ) → AllOn b ls → AllAhead b ls → ((l : Level) (ls : List Level) → LevelOn b l → AllOn b ls → LevelAhead b l → AllAhead b ls → Ahead b (f l ls (Some i)).tree) → Ahead b (one_level_deeper ls f (Some i)).tree
raised_ahead b [] f i o a h = tt
raised_ahead b (l ∷ ls) f i o a h = h l ls o.0 o.1 a.0 a.1

target_ahead : (b : List ℕ) (pr : Bool) (ls : List Level) (kind : Kind) (value : Bool) (m t : ℕ) (j : Place) → t ≤ length b → AllOn b ls → AllAhead b ls → Ahead b (target_of ls (λ level. target_read pr (level true kind value m) t j)).tree
target_ahead b pr [] kind value m t j l o a = tt
target_ahead b true (x ∷ xs) kind value m t j l o a = ((o.0 true kind value m t l, a.0 true kind value m t l), tt)
target_ahead b false (x ∷ xs) kind value m t j l o a = tt

ahead : (p : Items) (s : Context) → LevelOn s.symbol s.here → AllOn s.symbol s.deeper → LevelAhead s.symbol s.here → AllAhead s.symbol s.deeper → (i : ℕ) → i ≤ length s.symbol → Ahead s.symbol (parse p s (Some i)).tree
unfolding parse bound_by
ahead done s o d h a i l = tt
ahead invalid s o d h a i l = tt
ahead (print t p) s o d h a i l = ahead p s o d h a i l
ahead (print_plain t p) s o d h a i l = ahead p s o d h a i l
ahead (byte f) s o d h a i l = primitive_ahead s.symbol (length s.symbol) i (i + 1) (byte_at s.symbol i) (λ v. parse (f v) s) (byte_placed s.symbol i) (λ v j q. ahead (f v) s o d h a j q)
ahead (namespace f) s o d h a i l = primitive_ahead s.symbol (length s.symbol) i (i + 1) (namespace_at s.symbol i) (λ v. parse (f v) s) (namespace_placed s.symbol i) (λ v j q. ahead (f v) s o d h a j q)
ahead (integer f) s o d h a i l = primitive_ahead s.symbol (length s.symbol) i (i + 1) (integer_at s.symbol i) (λ v. parse (f v) s) (integer_placed s.symbol i) (λ v j q. ahead (f v) s o d h a j q)
ahead (optional tag f) s o d h a i l = primitive_ahead s.symbol (length s.symbol) i i (optional_at tag s.symbol i) (λ v. parse (f v) s) (optional_placed tag s.symbol i l) (λ v j q. ahead (f v) s o d h a j q)
ahead (identifier f) s o d h a i l = primitive_ahead s.symbol (length s.symbol) i (i + 1) (identifier_at s.symbol i) (λ v. parse (f v) s) (identifier_placed s.symbol i) (λ v j q. ahead (f v) s o d h a j q)
ahead (nibbles f) s o d h a i l = primitive_ahead s.symbol (length s.symbol) i (i + 1) (nibbles_at s.symbol i) (λ v. parse (f v) s) (nibbles_placed s.symbol i) (λ v j q. ahead (f v) s o d h a j q)
ahead (peek f) s o d h a i l = peek_ahead s.symbol (λ v. parse (f v) s (Some i)) (slice_get s.symbol i) (λ v. ahead (f v) s o d h a i l)
ahead (next b p q) s o d h a i l = fork_ahead s.symbol (is_byte s.symbol i b) (parse p s) (parse q s) i (there_placed s.symbol b i) (ahead p s o d h a) (ahead q s o d h a i l)
ahead (if_ok p q) s o d h a i l = ahead p s o d h a i l
ahead (until_end p q) s o d h a i l =
    let n = suc (length s.symbol) in
    (turns_ahead n s.symbol (parse p s) (forward p s o d) (ahead p s o d h a) i l, rest_ahead s.symbol i (repetitions n s.symbol (parse p s) (Some i)).place (parse q s) (turns_on n s.symbol (parse p s) (forward p s o d) i l) (none_ahead s.symbol q s) (ahead q s o d h a))
ahead (raise p) s o d h a i l = raised_ahead s.symbol s.deeper (λ level levels. parse p (record s { here = level; deeper = levels })) i d a (λ x xs e f g k. ahead p (record s { here = x; deeper = xs }) e f g k i l)
ahead (unit p q) s o d h a i l = (ahead p s o d h a i l, rest_ahead s.symbol i (parse p s (Some i)).place (parse q s) (forward p s o d i l) (none_ahead s.symbol q s) (ahead q s o d h a))
ahead (child kind value p) s o d h a i l = (h s.printed kind value s.lifetimes i l, rest_ahead s.symbol i (unit_outcome s kind value (Some i)).place (parse p s) (unit_on s kind value o i l) (none_ahead s.symbol p s) (ahead p s o d h a))
ahead (skip p) s o d h a i l = (h false a_path false s.lifetimes i l, rest_ahead s.symbol i (s.here false a_path false s.lifetimes i).place (parse p s) (o false a_path false s.lifetimes i l) (none_ahead s.symbol p s) (ahead p s o d h a))
ahead (folded p q) s o d h a i l =
    let rest : (x : Place) → Within s.symbol i x → Ahead s.symbol (parse q s x).tree = λ x w. rest_ahead s.symbol i x (parse q s) w (none_ahead s.symbol q s) (ahead q s o d h a) in
    folded_ahead s.symbol (s.printed && s.folds) (parse p (record s { printed = false }) (Some i)) (parse p s (Some i)) (parse q s) (ahead p (record s { printed = false }) o d h a i l) (ahead p s o d h a i l)
    (rest (parse p (record s { printed = false }) (Some i)).place (forward p (record s { printed = false }) o d i l)) (rest (parse p s (Some i)).place (forward p s o d i l))
ahead (target kind value) s o d h a i l = tagged (backref_at s.symbol i) refl
  where
    f : ℕ → Place → Outcome
    f t j = target_of s.deeper (λ level. target_read s.printed (level true kind value s.lifetimes) t j)

    tagged : (q : Read ℕ) → backref_at s.symbol i ≡ q → Ahead s.symbol (primitive_outcome (length s.symbol) i f q).tree
    tagged None e = tt
    tagged (Some q) e = target_ahead s.symbol s.printed s.deeper kind value s.lifetimes q.0 (Some q.1) (target_within s.symbol i q.0 q.1 (length s.symbol) l e) d a
ahead (lifetime k p) s o d h a i l =
    (lifetime_ahead s.symbol s.printed s.lifetimes k (Some i), rest_ahead s.symbol i (lifetime_at s.printed s.lifetimes k (Some i)).place (parse p s) (Rattle.demangle_v0_grammar.proofs.Forward.lifetime_on s.symbol s.printed s.lifetimes k i l) (none_ahead s.symbol p s) (ahead p s o d h a))
ahead (binder m p) s o d h a i l = binder_ahead s.symbol s.printed m s.lifetimes (parse p (record s { lifetimes = s.lifetimes + m }) (Some i)).tree (ahead p (record s { lifetimes = s.lifetimes + m }) o d h a i l)
ahead (leave_open p) s o d h a i l = ahead p s o d h a i l
ahead (dyn_trait p) s o d h a i l =
    let n = suc (length s.symbol) in
    let y : Outcome = unit_outcome s a_trait_path false (Some i) in
    (h s.printed a_trait_path false s.lifetimes i l, rest_ahead s.symbol i y.place (bound_by n s (parse p s) y.is_bracket_open) (unit_on s a_trait_path false o i l) (closed_ahead s.symbol y.is_bracket_open None) (bound_ahead n s (parse p s) (forward p s o d) (ahead p s o d h a) y.is_bracket_open))
ahead (bindings t p) s o d h a i l = bound_ahead (suc (length s.symbol)) s (parse p s) (forward p s o d) (ahead p s o d h a) t i l

nowhere_ahead : (b : List ℕ) → LevelAhead b nowhere
nowhere_ahead b pr kind value m i l = tt

inner_ahead : (b : List ℕ) (folds : Bool) (ls : List Level) → AllOn b ls → AllAhead b ls → LevelAhead b (λ printed kind value m i. parse (items kind value) (record { symbol = b; folds = folds; printed = printed; here = nowhere; deeper = ls; lifetimes = m }) (Some i))
inner_ahead b folds ls d a printed kind value m i l = ahead (items kind value) (record { symbol = b; folds = folds; printed = printed; here = nowhere; deeper = ls; lifetimes = m }) (nowhere_on b) d (nowhere_ahead b) a i l

level_ahead : (b : List ℕ) (folds : Bool) (ls : List Level) → AllOn b ls → AllAhead b ls → LevelAhead b (level_of b folds ls)
unfolding level_of
level_ahead b folds ls d a printed kind value m i l =
    let inner : Level = λ pr k v n j. parse (items k v) (record { symbol = b; folds = folds; printed = pr; here = nowhere; deeper = ls; lifetimes = n }) (Some j) in
    ahead (items kind value) (record { symbol = b; folds = folds; printed = printed; here = inner; deeper = ls; lifetimes = m }) (inner_on b folds ls d) d (inner_ahead b folds ls d a) a i l

levels_ahead : (b : List ℕ) (folds : Bool) (n : ℕ) → AllAhead b (levels b folds n)
unfolding levels
levels_ahead b folds zero = tt
levels_ahead b folds (suc n) = (level_ahead b folds (levels b folds n) (levels_on b folds n) (levels_ahead b folds n), levels_ahead b folds n)

-- in a production
pub unit_ahead : (b : List ℕ) (folds printed : Bool) (n : ℕ) (kind : Kind) (value : Bool) (lifetimes i : ℕ) → i ≤ length b → Ahead b (level_of b folds (levels b folds n) printed kind value lifetimes i).tree
unit_ahead b folds printed n kind value lifetimes i l = level_ahead b folds (levels b folds n) (levels_on b folds n) (levels_ahead b folds n) printed kind value lifetimes i l
