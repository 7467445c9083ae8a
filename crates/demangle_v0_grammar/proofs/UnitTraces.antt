-- A production parses its items in the context of its own depth.
use Rattle.std.specs.Prelude.{IsTrue, ◌≤◌, ℕ, zero, suc, ◌<◌, ◌&&◌, codes, slice_get}
use Rattle.std.proofs.Common.{◌≡◌, Bool, true, false, List, length, Some, None, refl, ap, ◌∙◌, ◌+◌, ◌-◌, sub-one, arith}
use Rattle.demangle_symbol.specs.Primitives.{byte_at, namespace_at, integer_at, optional_at, backref_at, identifier_at, nibbles_at}
use Rattle.demangle_v0_grammar.specs.Items.{Kind, a_path, a_trait_path, Items, print, print_plain, byte, namespace, integer, optional, identifier, nibbles, peek, next, if_ok, until_end, raise, unit, child, skip, folded, target, lifetime, binder, leave_open, dyn_trait, bindings}
use Rattle.demangle_v0_grammar.specs.Table.{items}
use Rattle.demangle_v0_grammar.specs.Reading.{Form, Tree, unprinted, is_next_byte, binder_at, node, piece, plain_piece, looked, too_deep, after_error, Place, Outcome, Level, failed_with, with_tree, unit_outcome, parse, folded_by, lifetime_at, level_of, levels, nowhere}
use Rattle.demangle_v0_grammar.specs.Traces.{context_at}
use Rattle.demangle_v0_grammar.proofs.ItemBudgets.{rank, is_below, Fits, first}
use Rattle.demangle_v0_grammar.proofs.UnprintedTraces.{at, worded, peeked, forked, turned}
use Rattle.demangle_v0_grammar.proofs.TableCost.{fits}
use Rattle.demangle_v0_grammar.proofs.SpelledIsParsed.{all_below, below_rank, lowest}

-- both levels parse productions of a rank below r to the same result
abbrev Same : ℕ → Level → Level → Type 0
Same r l l' = (pr : Bool) (kind : Kind) (v : Bool) (m i : ℕ) → IsTrue (is_below r kind) → l pr kind v m i ≡ l' pr kind v m i

-- f and g have the same result after n changes the tree
followed_same : (n : Tree → Tree → Tree) (o o' : Outcome) (f g : Place → Outcome) → o ≡ o' → ((x : Place) → f x ≡ g x) → with_tree (n o.tree) (f o.place) ≡ with_tree (n o'.tree) (g o'.place)
followed_same n o o' f g e h = ap (λ (z : Outcome). with_tree (n z.tree) (f z.place)) e ∙ ap (λ (z : Outcome). with_tree (n o'.tree) z) (h o'.place)

folded_same : (c : Bool) (x x' y y' : Outcome) (f g : Place → Outcome) → x ≡ x' → y ≡ y' → ((z : Place) → f z ≡ g z) → folded_by c x y f ≡ folded_by c x' y' g
folded_same true x x' y y' f g d e h = followed_same unprinted x x' (λ z. with_tree (piece (codes "_")) (f z)) (λ z. with_tree (piece (codes "_")) (g z)) d (λ z. ap (λ (o : Outcome). with_tree (piece (codes "_")) o) (h z))
folded_same false x x' y y' f g d e h = followed_same node y y' f g e h

look : (k : ℕ) (o o' : Outcome) → o ≡ o' → with_tree (looked k) o ≡ with_tree (looked k) o'
look k o o' e = ap (λ (z : Outcome). with_tree (looked k) z) e

-- items that start only such productions have the same result in both levels
module _ (b : List ℕ) (folds : Bool) (l l' : Level) (ls : List Level) (r : ℕ) (low : r ≤ 1) (e : Same r l l') where
  abbrev Alike : Bool → Items → Type 0
  Alike pr p = (m : ℕ) (i : Place) → parse p (at b folds pr l ls m) i ≡ parse p (at b folds pr l' ls m) i

  same_here : (pr : Bool) (p : Items) (c : Bool) (x k : ℕ) (g : Bool) → Fits c r x k g p → Alike pr p
  unfolding parse
  same_here pr (print t p) c x k g h m i = ap (λ (z : Outcome). with_tree (piece t) z) (same_here pr p _ _ _ _ h m i)
  same_here pr (print_plain t p) c x k g h m i = ap (λ (z : Outcome). with_tree (plain_piece t) z) (same_here pr p _ _ _ _ h m i)
  same_here pr (byte f) c x k g h m i = worded (λ o. o) look b folds pr l l' ls m m byte_at _ _ (λ v. same_here pr (f v) _ _ _ _ (h v) m) i
  same_here pr (namespace f) c x k g h m i = worded (λ o. o) look b folds pr l l' ls m m namespace_at _ _ (λ v. same_here pr (f v) _ _ _ _ (h v) m) i
  same_here pr (integer f) c x k g h m i = worded (λ o. o) look b folds pr l l' ls m m integer_at _ _ (λ v. same_here pr (f v) _ _ _ _ (h v) m) i
  same_here pr (optional tag f) c x k g h m i = worded (λ o. o) look b folds pr l l' ls m m (optional_at tag) _ _ (λ v. same_here pr (f v) _ _ _ _ (h.1 v) m) i
  same_here pr (identifier f) c x k g h m i = worded (λ o. o) look b folds pr l l' ls m m identifier_at _ _ (λ v. same_here pr (f v) _ _ _ _ (h v) m) i
  same_here pr (nibbles f) c x k g h m i = worded (λ o. o) look b folds pr l l' ls m m nibbles_at _ _ (λ v. same_here pr (f v) _ _ _ _ (h v) m) i
  same_here pr (peek f) c x k g h m (Some i) = peeked (λ o. o) look _ _ (slice_get b i) (λ v. same_here pr (f v) _ _ _ _ (h.1 v) m (Some i))
  same_here pr (next t p q) c x k g h m i = forked (λ o. o) look (is_next_byte (at b folds pr l ls m) t i) _ _ _ _ i (same_here pr p _ _ _ _ h.1 m) (same_here pr q _ _ _ _ h.2 m)
  same_here pr (if_ok p q) c x k g h m None = same_here pr q _ _ _ _ h.3 m None
  same_here pr (if_ok p q) c x k g h m (Some i) = same_here pr p _ _ _ _ h.2 m (Some i)
  same_here pr (until_end p q) c x k g h m i = followed_same node _ _ _ _ (turned (λ o. o) look (followed_same node) (suc (length b)) b _ _ (same_here pr p _ _ _ _ h.3 m) i) (same_here pr q _ _ _ _ h.4 m)
  same_here pr (unit p q) c x k g h m i = followed_same node _ _ _ _ (same_here pr p _ _ _ _ h.1 m i) (same_here pr q _ _ _ _ h.2 m)
  same_here pr (child kind v p) c x k g h m None = ap (λ (z : Outcome). with_tree (node after_error) z) (same_here pr p _ _ _ _ h.2 m None)
  same_here pr (child kind v p) c x k g h m (Some i) = followed_same node _ _ _ _ (e pr kind v m i (first (is_below r kind) g h.1)) (same_here pr p _ _ _ _ h.2 m)
  same_here pr (skip p) c x k g h m None = same_here pr p _ _ _ _ h.1 m None
  same_here pr (skip p) c x k g h m (Some i) = followed_same unprinted _ _ _ _ (e false a_path false m i h.0) (same_here pr p _ _ _ _ h.1 m)
  same_here pr (folded p q) c x k g h m i = folded_same (pr && folds) _ _ _ _ _ _ (same_here false p _ _ _ _ h.1 m i) (same_here pr p _ _ _ _ h.1 m i) (same_here pr q _ _ _ _ h.2 m)
  same_here pr (target kind v) c x k g h m i = worded (λ o. o) look b folds pr l l' ls m m backref_at _ _ (λ t j. refl) i
  same_here pr (lifetime n p) c x k g h m i = let o = lifetime_at pr m n i in ap (λ (z : Outcome). with_tree (node o.tree) z) (same_here pr p _ _ _ _ h m o.place)
  same_here pr (binder n p) c x k g h m i = ap (λ (z : Outcome). with_tree (binder_at pr n m) z) (same_here pr p _ _ _ _ h (m + n) i)
  same_here pr (leave_open p) c x k g h m i = ap (λ (z : Outcome). record z { is_bracket_open = true }) (same_here pr p _ _ _ _ h.1 m i)
  same_here pr (dyn_trait p) c x k g h m i = absurd (omega (arith, low, below_rank r a_trait_path (first (is_below r a_trait_path) g h.1)))
  same_here pr (bindings o p) c x k g h m i = absurd (omega (arith, low, below_rank r a_trait_path h.0))
  same_here pr _ c x k g h m i = refl

-- The levels.

one : (kind : Kind) → rank kind ≤ 1
one kind = let x : rank kind < 2 = below_rank 2 kind (all_below kind) in omega (arith, x)

abbrev inner : List ℕ → Bool → List Level → Level
inner b folds ls pr k v n j = parse (items k v) (at b folds pr nowhere ls n) (Some j)

level_same : (b : List ℕ) (folds : Bool) (ls : List Level) (kind : Kind) → Same (rank kind) (inner b folds ls) (level_of b folds ls)
unfolding level_of
level_same b folds ls kind pr k v m i h = same_here b folds nowhere (inner b folds ls) ls (rank k) (one k) (λ _ l _ _ _ q. absurd (lowest kind k l h q)) pr (items k v) _ _ _ _ (fits k v) m (Some i)

-- a production parses its items
pub begins : (b : List ℕ) (form : Form) (out : Bool) (left n : ℕ) (kind : Kind) (value : Bool) (i : ℕ) → unit_outcome (context_at b form out left n) kind value (Some i) ≡ parse (items kind value) (context_at b form out left n) (Some i)
unfolding level_of
begins b form out left n kind value i = same_here b form.fold_arguments (inner b form.fold_arguments (levels b form.fold_arguments left)) (level_of b form.fold_arguments (levels b form.fold_arguments left)) (levels b form.fold_arguments left) (rank kind) (one kind) (level_same b form.fold_arguments (levels b form.fold_arguments left) kind) out (items kind value) _ _ _ _ (fits kind value) n (Some i)

-- one depth deeper, if there is one
pub raise_deep : (b : List ℕ) (form : Form) (out : Bool) (left n : ℕ) (p : Items) (i : Place) → left ≡ 0 → parse (raise p) (context_at b form out left n) i ≡ failed_with too_deep
unfolding parse levels
raise_deep b form out left n p i e = rw e refl

pub raise_on : (b : List ℕ) (form : Form) (out : Bool) (left n : ℕ) (p : Items) (i : Place) → 0 < left → parse (raise p) (context_at b form out left n) i ≡ parse p (context_at b form out (left - 1) n) i
unfolding parse levels
raise_on b form out zero n p i l = absurd (omega (arith, l))
raise_on b form out (suc left) n p i l = rw sub-one refl
