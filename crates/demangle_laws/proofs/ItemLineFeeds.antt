-- Items without a line feed in their texts print none.
use Rattle.std.proofs.Common.{◌≡◌, ◌≢◌, ◌==◌, ◌&&◌, ℕ, zero, suc, ◌+◌, ◌-◌, Bool, true, false, cond, List, [], ◌∷◌, length, Option, None, Some, refl, arith, codes}
use Rattle.std.specs.Prelude.{nat_lt, nat_le, decimal, slice_get}
use Rattle.std.specs.List.{concat}
use Prim.Native.Char.{code}
use Rattle.rustc_demangle.specs.Lines.{line_feeds}
use Rattle.demangle_symbol.specs.Digits.{is_byte}
use Rattle.demangle_symbol.specs.Primitives.{Name, Read, byte_at, namespace_at, integer_at, optional_at, backref_at, identifier_at, nibbles_at}
use Rattle.demangle_symbol.specs.Names.{name_pieces}
use Rattle.demangle_v0_grammar.specs.Items.{Text, Kind, a_path, a_trait_path, Items, done, invalid, print, print_plain, byte, namespace, integer, optional, identifier, nibbles, peek, next, if_ok, until_end, raise, unit, child, skip, folded, target, lifetime, binder, leave_open, dyn_trait, bindings}
use Rattle.demangle_v0_grammar.specs.Reading.{Tree, nothing, piece, plain_piece, node, looked, unprinted, referred, invalid_syntax, too_deep, after_error, pieces, Place, Outcome, Level, Context, at_place, with_tree, followed_by, folded_by, primitive_outcome, primitive, peek_outcome, byte_choice, one_level_deeper, repetitions, unit_outcome, unprinted_path, all_pieces, angle_if_open, binding_separator, name_equals, bound_by, target_read, target_of, letter_of, lifetime_at, new_lifetimes, binder_at, parse}
use Rattle.demangle_laws.proofs.LineFeeds.{line_feeds-append, line_feeds-concat, line_feeds-other}
use Rattle.demangle_laws.proofs.PrimitiveLineFeeds.{AreClear, number_clear, namespace_clear, nibbles_clear, identifier_clear, name_clear}

-- no piece of a tree has a line feed
abbrev pub IsClear : Tree → Type 0
IsClear nothing = Unit {0}
IsClear (piece t rest) = (line_feeds t ≡ 0) × IsClear rest
IsClear (plain_piece t rest) = (line_feeds t ≡ 0) × IsClear rest
IsClear (node inside rest) = IsClear inside × IsClear rest
IsClear (looked k rest) = IsClear rest
IsClear (unprinted inside rest) = IsClear rest
IsClear (referred t j end inside) = IsClear inside
IsClear invalid_syntax = Unit {0}
IsClear too_deep = Unit {0}
IsClear after_error = Unit {0}

pub clear_pieces : (plain : Bool) (t : Tree) → IsClear t → line_feeds (concat (pieces plain t)) ≡ 0
clear_pieces plain nothing h = refl
clear_pieces plain (piece t rest) h = omega (arith, h.0, clear_pieces plain rest h.1, line_feeds-append t (concat (pieces plain rest)))
clear_pieces true (plain_piece t rest) h = omega (arith, h.0, clear_pieces true rest h.1, line_feeds-append t (concat (pieces true rest)))
clear_pieces false (plain_piece t rest) h = clear_pieces false rest h.1
clear_pieces plain (node inside rest) h = omega (arith, clear_pieces plain inside h.0, clear_pieces plain rest h.1, line_feeds-concat (pieces plain inside) (pieces plain rest))
clear_pieces plain (looked k rest) h = clear_pieces plain rest h
clear_pieces plain (unprinted inside rest) h = clear_pieces plain rest h
clear_pieces plain (referred t j end inside) h = clear_pieces plain inside h
clear_pieces plain invalid_syntax h = refl
clear_pieces plain too_deep h = refl
clear_pieces plain after_error h = refl

-- no text of the items has a line feed, if the primitives that they read have none
abbrev pub SaysClear : Items → Type 0
SaysClear done = Unit {0}
SaysClear invalid = Unit {0}
SaysClear (print t p) = (line_feeds t ≡ 0) × SaysClear p
SaysClear (print_plain t p) = (line_feeds t ≡ 0) × SaysClear p
SaysClear (byte f) = (b : ℕ) → SaysClear (f b)
SaysClear (namespace f) = (b : ℕ) → b ≢ 10 → SaysClear (f b)
SaysClear (integer f) = (n : ℕ) → SaysClear (f n)
SaysClear (optional tag f) = (n : ℕ) → SaysClear (f n)
SaysClear (identifier f) = (a : Name) → line_feeds a.ascii ≡ 0 → line_feeds a.punycode ≡ 0 → SaysClear (f a)
SaysClear (nibbles f) = (h : List ℕ) → line_feeds h ≡ 0 → SaysClear (f h)
SaysClear (peek f) = (b : ℕ) → SaysClear (f b)
SaysClear (next b p q) = SaysClear p × SaysClear q
SaysClear (if_ok p q) = SaysClear p × SaysClear q
SaysClear (until_end p q) = SaysClear p × SaysClear q
SaysClear (raise p) = SaysClear p
SaysClear (unit p q) = SaysClear p × SaysClear q
SaysClear (child kind value p) = SaysClear p
SaysClear (skip p) = SaysClear p
SaysClear (folded p q) = SaysClear p × SaysClear q
SaysClear (target kind value) = Unit {0}
SaysClear (lifetime k p) = SaysClear p
SaysClear (binder m p) = SaysClear p
SaysClear (leave_open p) = SaysClear p
SaysClear (dyn_trait p) = SaysClear p
SaysClear (bindings o p) = SaysClear p

-- Pieces.

pieces_clear : (ts : List Text) (t : Tree) → AreClear ts → IsClear t → IsClear (all_pieces ts t)
pieces_clear [] t h k = k
pieces_clear (x ∷ ts) t h k = (h.0, pieces_clear ts t h.1 k)

letter_clear : (n : ℕ) → AreClear (letter_of n)
letter_clear n = go (nat_lt n 26)
  where
    go : (b : Bool) → AreClear (cond b (((97 + n) ∷ []) ∷ []) (codes "_" ∷ decimal n ∷ []))
    go true = (line_feeds-other (97 + n) [] (λ same. omega (arith, same)), tt)
    go false = (refl, (number_clear 10 n, tt))

new_clear : (m n : ℕ) (t : Tree) → IsClear t → IsClear (new_lifetimes m n t)
new_clear zero n t h = h
new_clear (suc m) n t h = (refl, (refl, pieces_clear (letter_of n) (new_lifetimes m (n + 1) t) (letter_clear n) (new_clear m (n + 1) t h)))

binder_clear : (b : Bool) (m n : ℕ) (t : Tree) → IsClear t → IsClear (binder_at b m n t)
binder_clear false m n t h = h
binder_clear true zero n t h = h
binder_clear true (suc m) n t h =
    let rest = new_lifetimes m (n + 1) (piece (codes "> ") t) in
    (refl, (refl, pieces_clear (letter_of n) rest (letter_clear n) (new_clear m (n + 1) (piece (codes "> ") t) (refl, h))))

choice_clear : (b : Bool) (x y : Outcome) → IsClear x.tree → IsClear y.tree → IsClear (cond b x y).tree
choice_clear true x y h k = h
choice_clear false x y h k = k

lifetime_clear : (b : Bool) (m k : ℕ) (i : Place) → IsClear (lifetime_at b m k i).tree
lifetime_clear false m k i = tt
lifetime_clear true m k i =
    (refl, choice_clear (k == 0) _ _ (refl, tt) (choice_clear (nat_le k m) _ _ (pieces_clear (letter_of (m - k)) nothing (letter_clear (m - k)) tt) tt))

closed_clear : (o : Bool) (i : Place) → IsClear (angle_if_open o i).tree
closed_clear true i = (refl, tt)
closed_clear false i = tt

opened_clear : (o : Bool) (t : Tree) → IsClear t → IsClear (binding_separator o t)
opened_clear true t h = (refl, h)
opened_clear false t h = (refl, h)

-- Primitives.

primitive_clear : {A : Type 0} (s : Context) (reads : List ℕ → ℕ → Read A) (rest : A → Place → Outcome)
    → ((i : ℕ) (v : A) (j : ℕ) → reads s.symbol i ≡ Some (v, j) → IsClear (rest v (Some j)).tree) → (i : Place) → IsClear (primitive s i reads rest).tree
primitive_clear s reads rest h None = tt
primitive_clear {A} s reads rest h (Some i) = go (reads s.symbol i) refl
  where
    go : (q : Read A) → reads s.symbol i ≡ q → IsClear (primitive_outcome (length s.symbol) i rest q).tree
    go None e = tt
    go (Some r) e = h i r.0 r.1 e

peek_clear : (q : Option ℕ) (f : ℕ → Outcome) → ((b : ℕ) → IsClear (f b).tree) → IsClear (peek_outcome f q).tree
peek_clear None f h = tt
peek_clear (Some b) f h = h b

fork_clear : (b : Bool) (f g : Place → Outcome) → ((i : Place) → IsClear (f i).tree) → ((i : Place) → IsClear (g i).tree) → (i : Place) → IsClear (byte_choice b f g i).tree
fork_clear b f g h k None = k None
fork_clear true f g h k (Some i) = h (Some (i + 1))
fork_clear false f g h k (Some i) = k (Some i)

-- Productions.

abbrev pub LevelClear : Level → Type 0
LevelClear l = (printed : Bool) (kind : Kind) (value : Bool) (m i : ℕ) → IsClear (l printed kind value m i).tree

abbrev pub LevelsClear : List Level → Type 0
LevelsClear [] = Unit {0}
LevelsClear (l ∷ ls) = LevelClear l × LevelsClear ls

-- the symbol has no line feed, and its other productions print none
pub record Holds (s : Context) : Type 0 where
  pub symbol : line_feeds s.symbol ≡ 0
  pub here : LevelClear s.here
  pub deeper : LevelsClear s.deeper

raised_clear : (ls : List Level) (f : Level → List Level → Place → Outcome) → LevelsClear ls
    → ((l : Level) (ls : List Level) → LevelClear l → LevelsClear ls → (i : Place) → IsClear (f l ls i).tree) → (i : Place) → IsClear (one_level_deeper ls f i).tree
raised_clear [] f d h i = tt
raised_clear (l ∷ ls) f d h i = h l ls d.0 d.1 i

turns_clear : (m : ℕ) (symbol : List ℕ) (f : Place → Outcome) → ((i : Place) → IsClear (f i).tree) → (i : Place) → IsClear (repetitions m symbol f i).tree
unfolding repetitions
turns_clear zero symbol f h None = tt
turns_clear zero symbol f h (Some i) = tt
turns_clear (suc m) symbol f h None = tt
turns_clear (suc m) symbol f h (Some i) =
    fork_clear (is_byte symbol i (code "E")) at_place (λ j. followed_by (f j) (repetitions m symbol f)) (λ _. tt) (λ j. (h j, turns_clear m symbol f h (f j).place)) (Some i)

begun_clear : (s : Context) (kind : Kind) (value : Bool) → LevelClear s.here → (i : Place) → IsClear (unit_outcome s kind value i).tree
begun_clear s kind value h None = tt
begun_clear s kind value h (Some i) = h s.printed kind value s.lifetimes i

skipped_clear : (s : Context) (f : Place → Outcome) → ((i : Place) → IsClear (f i).tree) → (i : Place) → IsClear (unprinted_path s f i).tree
skipped_clear s f h None = h None
skipped_clear s f h (Some i) = h (s.here false a_path false s.lifetimes i).place

folded_clear : (b : Bool) (x y : Outcome) (f : Place → Outcome) → IsClear y.tree → ((i : Place) → IsClear (f i).tree) → IsClear (folded_by b x y f).tree
folded_clear true x y f h k = (refl, k x.place)
folded_clear false x y f h k = (h, k y.place)

bound_clear : (m : ℕ) (s : Context) (f : Place → Outcome) → line_feeds s.symbol ≡ 0 → ((i : Place) → IsClear (f i).tree) → (o : Bool) (i : Place) → IsClear (bound_by m s f o i).tree
unfolding bound_by
bound_clear zero s f none h o None = closed_clear o None
bound_clear (suc m) s f none h o None = closed_clear o None
bound_clear zero s f none h o (Some i) = tt
bound_clear (suc m) s f none h o (Some i) =
    let then : Name → Place → Outcome = λ a k. with_tree (name_equals a) (followed_by (f k) (bound_by m s f true)) in
    fork_clear (is_byte s.symbol i (code "p")) (λ j. with_tree (binding_separator o) (primitive s j identifier_at then)) (angle_if_open o)
    (λ j. opened_clear o (primitive s j identifier_at then).tree (primitive_clear s identifier_at then
    (λ i a k e. let c = identifier_clear s.symbol i a k none e in
    pieces_clear (name_pieces a) _ (name_clear a c.0 c.1) (refl, (h (Some k), bound_clear m s f none h true (f (Some k)).place))) j))
    (closed_clear o) (Some i)

target_clear : (ls : List Level) (printed : Bool) (kind : Kind) (value : Bool) (m t : ℕ) (i : Place) → LevelsClear ls
    → IsClear (target_of ls (λ level. target_read printed (level true kind value m) t i)).tree
target_clear [] printed kind value m t i d = tt
target_clear (l ∷ ls) true kind value m t i d = (d.0 true kind value m t, tt)
target_clear (l ∷ ls) false kind value m t i d = tt

pub clear : (p : Items) (s : Context) → SaysClear p → Holds s → (i : Place) → IsClear (parse p s i).tree
unfolding parse
clear done s a m i = tt
clear invalid s a m i = tt
clear (print t p) s a m i = (a.0, clear p s a.1 m i)
clear (print_plain t p) s a m i = (a.0, clear p s a.1 m i)
clear (byte f) s a m i = primitive_clear s byte_at (λ b. parse (f b) s) (λ _ b j _. clear (f b) s (a b) m (Some j)) i
clear (namespace f) s a m i = primitive_clear s namespace_at (λ b. parse (f b) s) (λ i b j e. clear (f b) s (a b (namespace_clear s.symbol i b j e)) m (Some j)) i
clear (integer f) s a m i = primitive_clear s integer_at (λ n. parse (f n) s) (λ _ n j _. clear (f n) s (a n) m (Some j)) i
clear (optional tag f) s a m i = primitive_clear s (optional_at tag) (λ n. parse (f n) s) (λ _ n j _. clear (f n) s (a n) m (Some j)) i
clear (identifier f) s a m i = primitive_clear s identifier_at (λ x. parse (f x) s)
    (λ i x j e. let c = identifier_clear s.symbol i x j m.symbol e in clear (f x) s (a x c.0 c.1) m (Some j)) i
clear (nibbles f) s a m i = primitive_clear s nibbles_at (λ h. parse (f h) s) (λ i h j e. clear (f h) s (a h (nibbles_clear s.symbol i h j m.symbol e)) m (Some j)) i
clear (peek f) s a m None = tt
clear (peek f) s a m (Some i) = peek_clear (slice_get s.symbol i) (λ b. parse (f b) s (Some i)) (λ b. clear (f b) s (a b) m (Some i))
clear (next b p q) s a m None = clear q s a.1 m None
clear (next b p q) s a m (Some i) = fork_clear (is_byte s.symbol i b) (parse p s) (parse q s) (clear p s a.0 m) (clear q s a.1 m) (Some i)
clear (if_ok p q) s a m None = clear q s a.1 m None
clear (if_ok p q) s a m (Some i) = clear p s a.0 m (Some i)
clear (until_end p q) s a m i =
    let o : Outcome = repetitions (suc (length s.symbol)) s.symbol (parse p s) i in
    (turns_clear (suc (length s.symbol)) s.symbol (parse p s) (clear p s a.0 m) i, clear q s a.1 m o.place)
clear (raise p) s a m i = raised_clear s.deeper (λ l ls. parse p (record s { here = l; deeper = ls })) m.deeper
    (λ l ls h d j. clear p (record s { here = l; deeper = ls }) a (record { symbol = m.symbol; here = h; deeper = d }) j) i
clear (unit p q) s a m i = let o : Outcome = parse p s i in (clear p s a.0 m i, clear q s a.1 m o.place)
clear (child kind value p) s a m i = let o : Outcome = unit_outcome s kind value i in (begun_clear s kind value m.here i, clear p s a m o.place)
clear (skip p) s a m i = skipped_clear s (parse p s) (clear p s a m) i
clear (folded p q) s a m i =
    folded_clear (s.printed && s.folds) (parse p (record s { printed = false }) i) (parse p s i) (parse q s) (clear p s a.0 m i) (clear q s a.1 m)
clear (target kind value) s a m i = primitive_clear s backref_at (λ t j. target_of s.deeper (λ level. target_read s.printed (level true kind value s.lifetimes) t j))
    (λ _ t j _. target_clear s.deeper s.printed kind value s.lifetimes t (Some j) m.deeper) i
clear (lifetime k p) s a m i = let o : Outcome = lifetime_at s.printed s.lifetimes k i in (lifetime_clear s.printed s.lifetimes k i, clear p s a m o.place)
clear (binder k p) s a m i =
    let y = record s { lifetimes = s.lifetimes + k } in
    binder_clear s.printed k s.lifetimes (parse p y i).tree (clear p y a (record { symbol = m.symbol; here = m.here; deeper = m.deeper }) i)
clear (leave_open p) s a m i = clear p s a m i
clear (dyn_trait p) s a m i =
    let o : Outcome = unit_outcome s a_trait_path false i in
    (begun_clear s a_trait_path false m.here i, bound_clear (suc (length s.symbol)) s (parse p s) m.symbol (clear p s a m) o.is_bracket_open o.place)
clear (bindings o p) s a m i = bound_clear (suc (length s.symbol)) s (parse p s) m.symbol (clear p s a m) o i
