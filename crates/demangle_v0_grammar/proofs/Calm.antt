-- What is read and not printed follows no reference.
use Rattle.std.specs.Prelude.{ℕ, zero, suc, ◌&&◌, codes, slice_get, ◌==◌, nat_le}
use Rattle.std.proofs.Common.{Bool, true, false, cond, List, [], ◌∷◌, length, Option, Some, None, ◌+◌, ◌-◌}
use Prim.Native.Char.{code}
use Rattle.demangle_symbol.specs.Digits.{is_byte}
use Rattle.demangle_symbol.specs.Primitives.{Read, byte_at, namespace_at, integer_at, optional_at, backref_at, identifier_at, nibbles_at}
use Rattle.demangle_symbol.specs.Names.{name_pieces}
use Rattle.demangle_v0_grammar.specs.Items.{Text, Kind, a_path, a_trait_path, Items, done, invalid, print, print_plain, byte, namespace, integer, optional, identifier, nibbles, peek, next, if_ok, until_end, raise, unit, child, skip, folded, target, lifetime, binder, leave_open, dyn_trait, bindings}
use Rattle.demangle_v0_grammar.specs.Table.{items}
use Rattle.demangle_v0_grammar.specs.Reading.{Tree, nothing, piece, plain_piece, node, looked, unprinted, referred, invalid_syntax, too_deep, after_error, Place, Outcome, Level, Context, at_place, with_tree, primitive, followed_by, parse, primitive_outcome, peek_outcome, byte_choice, one_level_deeper, max_depth, repetitions, angle_if_open, binding_separator, name_equals, bound_by, unit_outcome, unprinted_path, folded_by, target_of, target_read, lifetime_at, letter_of, all_pieces, new_lifetimes, binder_at, level_of, levels, nowhere, read_at}

abbrev pub Calm : Bool → Tree → Type 0
Calm pr nothing = Unit {0}
Calm pr (piece t rest) = Calm pr rest
Calm pr (plain_piece t rest) = Calm pr rest
Calm pr (node inside rest) = Calm pr inside × Calm pr rest
Calm pr (looked k rest) = Calm pr rest
Calm pr (unprinted inside rest) = Calm false inside × Calm pr rest
Calm true (referred t j end inside) = Calm true inside
Calm false (referred t j end inside) = ⊥
Calm pr invalid_syntax = Unit {0}
Calm pr too_deep = Unit {0}
Calm pr after_error = Unit {0}

abbrev pub LevelCalm : Level → Type 0
LevelCalm l = (pr : Bool) (kind : Kind) (value : Bool) (m i : ℕ) → Calm pr (l pr kind value m i).tree

abbrev pub AllCalm : List Level → Type 0
AllCalm [] = Unit {0}
AllCalm (l ∷ ls) = LevelCalm l × AllCalm ls

pieces_calm : (pr : Bool) (ts : List Text) (rest : Tree) → Calm pr rest → Calm pr (all_pieces ts rest)
pieces_calm pr [] rest h = h
pieces_calm pr (t ∷ ts) rest h = pieces_calm pr ts rest h

primitive_calm : {A : Type 0} (pr : Bool) (s : Context) (i : Place) (reads : List ℕ → ℕ → Read A) (f : A → Place → Outcome) → ((v : A) (x : Place) → Calm pr (f v x).tree) → Calm pr (primitive s i reads f).tree
primitive_calm pr s None reads f h = tt
primitive_calm pr s (Some i) reads f h = go (reads s.symbol i)
  where
    go : (r : Read _) → Calm pr (primitive_outcome (length s.symbol) i f r).tree
    go None = tt
    go (Some r) = h r.0 (Some r.1)

peek_calm : (pr : Bool) (f : ℕ → Outcome) (r : Option ℕ) → ((v : ℕ) → Calm pr (f v).tree) → Calm pr (peek_outcome f r).tree
peek_calm pr f None h = tt
peek_calm pr f (Some v) h = h v

choice_calm : (pr c : Bool) (f g : Place → Outcome) (i : Place) → ((x : Place) → Calm pr (f x).tree) → ((x : Place) → Calm pr (g x).tree) → Calm pr (byte_choice c f g i).tree
choice_calm pr c f g None h k = k None
choice_calm pr true f g (Some i) h k = h (Some (i + 1))
choice_calm pr false f g (Some i) h k = k (Some i)

repetitions_calm : (pr : Bool) (n : ℕ) (symbol : List ℕ) (f : Place → Outcome) → ((x : Place) → Calm pr (f x).tree) → (i : Place) → Calm pr (repetitions n symbol f i).tree
unfolding repetitions
repetitions_calm pr n symbol f h None = tt
repetitions_calm pr zero symbol f h (Some i) = tt
repetitions_calm pr (suc n) symbol f h (Some i) = choice_calm pr (is_byte symbol i (code "E")) at_place (λ j. followed_by (f j) (repetitions n symbol f)) (Some i) (λ x. tt) (λ j. (h j, repetitions_calm pr n symbol f h (f j).place))

closed_calm : (pr o : Bool) (i : Place) → Calm pr (angle_if_open o i).tree
closed_calm pr true i = tt
closed_calm pr false i = tt

separator_calm : (pr o : Bool) (t : Tree) → Calm pr t → Calm pr (binding_separator o t)
separator_calm pr true t h = h
separator_calm pr false t h = h

bound_calm : (pr : Bool) (n : ℕ) (s : Context) (f : Place → Outcome) → ((x : Place) → Calm pr (f x).tree) → (o : Bool) (i : Place) → Calm pr (bound_by n s f o i).tree
unfolding bound_by
bound_calm pr n s f h o None = closed_calm pr o None
bound_calm pr zero s f h o (Some i) = tt
bound_calm pr (suc n) s f h o (Some i) =
    choice_calm pr (is_byte s.symbol i (code "p")) (λ j. with_tree (binding_separator o) (primitive s j identifier_at (λ a k. with_tree (name_equals a) (followed_by (f k) (bound_by n s f true))))) (angle_if_open o) (Some i)
    (λ j. separator_calm pr o (primitive s j identifier_at (λ a k. with_tree (name_equals a) (followed_by (f k) (bound_by n s f true)))).tree
    (primitive_calm pr s j identifier_at (λ a k. with_tree (name_equals a) (followed_by (f k) (bound_by n s f true)))
    (λ a k. pieces_calm pr (name_pieces a) (piece (codes " = ") (followed_by (f k) (bound_by n s f true)).tree) (h k, bound_calm pr n s f h true (f k).place))))
    (closed_calm pr o)

unit_calm : (s : Context) (kind : Kind) (value : Bool) → LevelCalm s.here → (i : Place) → Calm s.printed (unit_outcome s kind value i).tree
unit_calm s kind value h None = tt
unit_calm s kind value h (Some i) = h s.printed kind value s.lifetimes i

unprinted_calm : (pr : Bool) (s : Context) (f : Place → Outcome) → LevelCalm s.here → ((x : Place) → Calm pr (f x).tree) → (i : Place) → Calm pr (unprinted_path s f i).tree
unprinted_calm pr s f h k None = k None
unprinted_calm pr s f h k (Some i) = let o : Outcome = s.here false a_path false s.lifetimes i in (h false a_path false s.lifetimes i, k o.place)

folded_calm : (pr c : Bool) (skipped printed : Outcome) (f : Place → Outcome) → Calm false skipped.tree → Calm pr printed.tree → ((x : Place) → Calm pr (f x).tree) → Calm pr (folded_by c skipped printed f).tree
folded_calm pr true skipped printed f h k m = (h, m skipped.place)
folded_calm pr false skipped printed f h k m = (k, m printed.place)

target_calm : (pr : Bool) (ls : List Level) (kind : Kind) (value : Bool) (m t : ℕ) (j : Place) → AllCalm ls → Calm pr (target_of ls (λ level. target_read pr (level true kind value m) t j)).tree
target_calm pr [] kind value m t j h = tt
target_calm true (l ∷ ls) kind value m t j h = (h.0 true kind value m t, tt)
target_calm false (l ∷ ls) kind value m t j h = tt

named_calm : (pr c d : Bool) (n k : ℕ) (i : Place) → Calm pr (cond c (with_tree (piece (codes "_")) (at_place i)) (cond d (with_tree (all_pieces (letter_of (n - k))) (at_place i)) (record { tree = invalid_syntax; place = None; is_bracket_open = false }))).tree
named_calm pr true d n k i = tt
named_calm pr false true n k i = pieces_calm pr (letter_of (n - k)) nothing tt
named_calm pr false false n k i = tt

lifetime_calm : (pr out : Bool) (n k : ℕ) (i : Place) → Calm pr (lifetime_at out n k i).tree
lifetime_calm pr false n k i = tt
lifetime_calm pr true n k i = named_calm pr (k == 0) (nat_le k n) n k i

new_calm : (pr : Bool) (m n : ℕ) (rest : Tree) → Calm pr rest → Calm pr (new_lifetimes m n rest)
new_calm pr zero n rest h = h
new_calm pr (suc m) n rest h = pieces_calm pr (letter_of n) (new_lifetimes m (n + 1) rest) (new_calm pr m (n + 1) rest h)

binder_calm : (pr out : Bool) (m n : ℕ) (rest : Tree) → Calm pr rest → Calm pr (binder_at out m n rest)
binder_calm pr false m n rest h = h
binder_calm pr true zero n rest h = h
binder_calm pr true (suc m) n rest h = pieces_calm pr (letter_of n) (new_lifetimes m (n + 1) (piece (codes "> ") rest)) (new_calm pr m (n + 1) (piece (codes "> ") rest) h)

raised_calm : (pr : Bool) (ls : List Level) (f : Level → List Level → Place → Outcome) (i : Place) → AllCalm ls → ((l : Level) (ls : List Level) → LevelCalm l → AllCalm ls → Calm pr (f l ls i).tree) → Calm pr (one_level_deeper ls f i).tree
raised_calm pr [] f i d h = tt
raised_calm pr (l ∷ ls) f i d h = h l ls d.0 d.1

calm : (p : Items) (s : Context) → LevelCalm s.here → AllCalm s.deeper → (i : Place) → Calm s.printed (parse p s i).tree
unfolding parse bound_by
calm done s h d i = tt
calm invalid s h d i = tt
calm (print t p) s h d i = calm p s h d i
calm (print_plain t p) s h d i = calm p s h d i
calm (byte f) s h d i = primitive_calm s.printed s i byte_at (λ v. parse (f v) s) (λ v x. calm (f v) s h d x)
calm (namespace f) s h d i = primitive_calm s.printed s i namespace_at (λ v. parse (f v) s) (λ v x. calm (f v) s h d x)
calm (integer f) s h d i = primitive_calm s.printed s i integer_at (λ v. parse (f v) s) (λ v x. calm (f v) s h d x)
calm (optional tag f) s h d i = primitive_calm s.printed s i (optional_at tag) (λ v. parse (f v) s) (λ v x. calm (f v) s h d x)
calm (identifier f) s h d i = primitive_calm s.printed s i identifier_at (λ v. parse (f v) s) (λ v x. calm (f v) s h d x)
calm (nibbles f) s h d i = primitive_calm s.printed s i nibbles_at (λ v. parse (f v) s) (λ v x. calm (f v) s h d x)
calm (peek f) s h d None = tt
calm (peek f) s h d (Some i) = peek_calm s.printed (λ v. parse (f v) s (Some i)) (slice_get s.symbol i) (λ v. calm (f v) s h d (Some i))
calm (next b p q) s h d None = calm q s h d None
calm (next b p q) s h d (Some i) = choice_calm s.printed (is_byte s.symbol i b) (parse p s) (parse q s) (Some i) (calm p s h d) (calm q s h d)
calm (if_ok p q) s h d None = calm q s h d None
calm (if_ok p q) s h d (Some i) = calm p s h d (Some i)
calm (until_end p q) s h d i = (repetitions_calm s.printed (suc (length s.symbol)) s.symbol (parse p s) (calm p s h d) i, calm q s h d (repetitions (suc (length s.symbol)) s.symbol (parse p s) i).place)
calm (raise p) s h d i = raised_calm s.printed s.deeper (λ level levels. parse p (record s { here = level; deeper = levels })) i d (λ l ls e f. calm p (record s { here = l; deeper = ls }) e f i)
calm (unit p q) s h d i = (calm p s h d i, calm q s h d (parse p s i).place)
calm (child kind value p) s h d i = (unit_calm s kind value h i, calm p s h d (unit_outcome s kind value i).place)
calm (skip p) s h d i = unprinted_calm s.printed s (parse p s) h (calm p s h d) i
calm (folded p q) s h d i =
    folded_calm s.printed (s.printed && s.folds) (parse p (record s { printed = false }) i) (parse p s i) (parse q s) (calm p (record s { printed = false }) h d i) (calm p s h d i) (calm q s h d)
calm (target kind value) s h d i =
    primitive_calm s.printed s i backref_at (λ t j. target_of s.deeper (λ level. target_read s.printed (level true kind value s.lifetimes) t j)) (λ t j. target_calm s.printed s.deeper kind value s.lifetimes t j d)
calm (lifetime k p) s h d i = (lifetime_calm s.printed s.printed s.lifetimes k i, calm p s h d (lifetime_at s.printed s.lifetimes k i).place)
calm (binder m p) s h d i =
    binder_calm s.printed s.printed m s.lifetimes (parse p (record s { lifetimes = s.lifetimes + m }) i).tree (calm p (record s { lifetimes = s.lifetimes + m }) h d i)
calm (leave_open p) s h d i = calm p s h d i
calm (dyn_trait p) s h d i =
    let o : Outcome = unit_outcome s a_trait_path false i in
    (unit_calm s a_trait_path false h i, bound_calm s.printed (suc (length s.symbol)) s (parse p s) (calm p s h d) o.is_bracket_open o.place)
calm (bindings o p) s h d i = bound_calm s.printed (suc (length s.symbol)) s (parse p s) (calm p s h d) o i

pub level_calm : (symbol : List ℕ) (folds : Bool) (ls : List Level) → AllCalm ls → LevelCalm (level_of symbol folds ls)
unfolding level_of parse
level_calm symbol folds ls d pr kind value m i =
    let at : Level → Bool → ℕ → Context = λ here f k. record { symbol = symbol; folds = folds; printed = f; here = here; deeper = ls; lifetimes = k } in
    let inner : Level = λ f k v o j. parse (items k v) (at nowhere f o) (Some j) in
    calm (items kind value) (at inner pr m) (λ f k v o j. calm (items k v) (at nowhere f o) (λ f' k' v' o' j'. tt) d (Some j)) d (Some i)

pub levels_calm : (symbol : List ℕ) (folds : Bool) (n : ℕ) → AllCalm (levels symbol folds n)
unfolding levels
levels_calm symbol folds zero = tt
levels_calm symbol folds (suc n) = let d : AllCalm (levels symbol folds n) = levels_calm symbol folds n in (level_calm symbol folds (levels symbol folds n) d, d)

-- a production that is printed follows references only in what is printed, and any other follows none
pub read_calm : (symbol : List ℕ) (folds printed : Bool) (kind : Kind) (i depth m : ℕ) (value : Bool) → Calm printed (read_at symbol folds printed kind i depth m value).tree
unfolding read_at
read_calm symbol folds printed kind i depth m value =
    let d : AllCalm (levels symbol folds (max_depth - depth)) = levels_calm symbol folds (max_depth - depth) in
    level_calm symbol folds (levels symbol folds (max_depth - depth)) d printed kind value m i
