-- Only a dyn trait path can leave its `<` open. Any other production may end in its last nested one.
use Rattle.std.specs.Prelude.{T, IsTrue, ℕ, zero, suc, ◌&&◌, slice_get}
use Rattle.std.proofs.Common.{◌≡◌, Bool, true, false, List, [], ◌∷◌, length, Option, Some, None, refl, subst, sym, ap, ◌∙◌, ◌+◌}
use Rattle.std.proofs.lemmas.List.{append-nil}
use Prim.Native.Char.{code}
use Rattle.demangle_symbol.specs.Digits.{is_byte}
use Rattle.demangle_symbol.specs.Primitives.{Name, Read, byte_at, namespace_at, integer_at, optional_at, backref_at, identifier_at, nibbles_at}
use Rattle.demangle_v0_grammar.specs.Items.{Kind, a_path, a_trait_path, Items, done, print, print_plain, byte, namespace, integer, optional, identifier, nibbles, peek, next, if_ok, until_end, raise, unit, child, skip, folded, target, lifetime, binder, leave_open, dyn_trait, bindings}
use Rattle.demangle_v0_grammar.specs.Table.{items}
use Rattle.demangle_v0_grammar.specs.Reading.{Form, is_next_byte, Place, Outcome, Level, Context, with_tree, followed_by, binding_separator, name_equals, primitive, parse, repetitions, primitive_outcome, peek_outcome, byte_choice, one_level_deeper, bound_by, unit_outcome, folded_by, target_of, target_read, lifetime_at, angle_if_open, level_of, levels, nowhere}
use Rattle.demangle_v0_grammar.proofs.ItemBudgets.{start, rank, is_closed, Fits, first}
use Rattle.demangle_v0_grammar.proofs.TableCost.{fits}
use Rattle.demangle_v0_grammar.specs.Traces.{of, events, context_at}

-- any production except a dyn trait path
abbrev pub IsClosed : Kind → Type 0
IsClosed kind = T (is_closed kind)

so : (b : Bool) → T b → IsTrue b
so true h = refl
so false h = absurd h

abbrev pub AllClosed : List Level → Type 0
AllClosed [] = Unit {0}
AllClosed (l ∷ ls) = ((pr : Bool) (kind : Kind) (value : Bool) (m i : ℕ) → IsTrue (is_closed kind) → (l pr kind value m i).is_bracket_open ≡ false) × AllClosed ls

primitive_closed : {A : Type 0} (s : Context) (i : Place) (reads : List ℕ → ℕ → Read A) (f : A → Place → Outcome) → ((v : A) (x : Place) → (f v x).is_bracket_open ≡ false) → (primitive s i reads f).is_bracket_open ≡ false
primitive_closed s None reads f h = refl
primitive_closed s (Some i) reads f h = go (reads s.symbol i)
  where
    go : (r : Read _) → (primitive_outcome (length s.symbol) i f r).is_bracket_open ≡ false
    go None = refl
    go (Some r) = h r.0 (Some r.1)

peek_closed : (f : ℕ → Outcome) (r : Option ℕ) → ((v : ℕ) → (f v).is_bracket_open ≡ false) → (peek_outcome f r).is_bracket_open ≡ false
peek_closed f None h = refl
peek_closed f (Some v) h = h v

fork_closed : (c : Bool) (f g : Place → Outcome) (i : Place) → ((x : Place) → (f x).is_bracket_open ≡ false) → ((x : Place) → (g x).is_bracket_open ≡ false) → (byte_choice c f g i).is_bracket_open ≡ false
fork_closed c f g None h k = k None
fork_closed true f g (Some i) h k = h (Some (i + 1))
fork_closed false f g (Some i) h k = k (Some i)

end_closed : (o : Bool) (i : Place) → (angle_if_open o i).is_bracket_open ≡ false
end_closed true i = refl
end_closed false i = refl

bound_closed : (n : ℕ) (s : Context) (f : Place → Outcome) (o : Bool) (i : Place) → (bound_by n s f o i).is_bracket_open ≡ false
unfolding bound_by
bound_closed n s f o None = end_closed o None
bound_closed zero s f o (Some i) = refl
bound_closed (suc n) s f o (Some i) =
    let one : Name → Place → Outcome = λ a x. with_tree (name_equals a) (followed_by (f x) (bound_by n s f true)) in
    fork_closed (is_byte s.symbol i (code "p")) (λ j. with_tree (binding_separator o) (primitive s j identifier_at one)) (angle_if_open o) (Some i)
    (λ j. primitive_closed s j identifier_at one (λ a x. bound_closed n s f true (f x).place)) (end_closed o)

raised_closed : (ls : List Level) (f : Level → List Level → Place → Outcome) (i : Place) → AllClosed ls → ((l : Level) (ls : List Level) → AllClosed ls → (f l ls i).is_bracket_open ≡ false) → (one_level_deeper ls f i).is_bracket_open ≡ false
raised_closed [] f i a h = refl
raised_closed (l ∷ ls) f i a h = h l ls a.1

target_closed : (pr : Bool) (ls : List Level) (kind : Kind) (value : Bool) (m t : ℕ) (end : Place) → IsTrue (is_closed kind) → AllClosed ls → (target_of ls (λ level. target_read pr (level true kind value m) t end)).is_bracket_open ≡ false
target_closed pr [] kind value m t end c a = refl
target_closed true (l ∷ ls) kind value m t end c a = a.0 true kind value m t c
target_closed false (l ∷ ls) kind value m t end c a = refl

folded_closed : (c : Bool) (x y : Outcome) (f : Place → Outcome) → ((i : Place) → (f i).is_bracket_open ≡ false) → (folded_by c x y f).is_bracket_open ≡ false
folded_closed true x y f h = h x.place
folded_closed false x y f h = h y.place

closes : (p : Items) (s : Context) (r e k : ℕ) (g : Bool) → Fits true r e k g p → AllClosed s.deeper → (i : Place) → (parse p s i).is_bracket_open ≡ false
unfolding parse
closes (print t p) s r e k g c a i = closes p s _ _ _ _ c a i
closes (print_plain t p) s r e k g c a i = closes p s _ _ _ _ c a i
closes (byte f) s r e k g c a i = primitive_closed s i byte_at (λ v. parse (f v) s) (λ v. closes (f v) s _ _ _ _ (c v) a)
closes (namespace f) s r e k g c a i = primitive_closed s i namespace_at (λ v. parse (f v) s) (λ v. closes (f v) s _ _ _ _ (c v) a)
closes (integer f) s r e k g c a i = primitive_closed s i integer_at (λ v. parse (f v) s) (λ v. closes (f v) s _ _ _ _ (c v) a)
closes (optional tag f) s r e k g c a i = primitive_closed s i (optional_at tag) (λ v. parse (f v) s) (λ v. closes (f v) s _ _ _ _ (c.1 v) a)
closes (identifier f) s r e k g c a i = primitive_closed s i identifier_at (λ v. parse (f v) s) (λ v. closes (f v) s _ _ _ _ (c v) a)
closes (nibbles f) s r e k g c a i = primitive_closed s i nibbles_at (λ v. parse (f v) s) (λ v. closes (f v) s _ _ _ _ (c v) a)
closes (peek f) s r e k g c a (Some i) = peek_closed (λ v. parse (f v) s (Some i)) (slice_get s.symbol i) (λ v. closes (f v) s _ _ _ _ (c.1 v) a (Some i))
closes (next b p q) s r e k g c a i = fork_closed (is_next_byte s b i) (parse p s) (parse q s) i (closes p s _ _ _ _ c.1 a) (closes q s _ _ _ _ c.2 a)
closes (if_ok p q) s r e k g c a None = closes q s _ _ _ _ c.3 a None
closes (if_ok p q) s r e k g c a (Some i) = closes p s _ _ _ _ c.2 a (Some i)
closes (until_end p q) s r e k g c a i = closes q s _ _ _ _ c.4 a (repetitions (suc (length s.symbol)) s.symbol (parse p s) i).place
closes (raise p) s r e k g c a i = raised_closed s.deeper (λ l ls. parse p (record s { here = l; deeper = ls })) i a (λ l ls b. closes p (record s { here = l; deeper = ls }) _ _ _ _ c b i)
closes (unit p q) s r e k g c a i = closes q s _ _ _ _ c.2 a (parse p s i).place
closes (child kind value p) s r e k g c a i = closes p s _ _ _ _ c.2 a (unit_outcome s kind value i).place
closes (skip p) s r e k g c a None = closes p s _ _ _ _ c.1 a None
closes (skip p) s r e k g c a (Some i) = closes p s _ _ _ _ c.1 a (s.here false a_path false s.lifetimes i).place
closes (folded p q) s r e k g c a i = folded_closed (s.printed && s.folds) (parse p (record s { printed = false }) i) (parse p s i) (parse q s) (λ j. closes q s _ _ _ _ c.2 a j)
closes (target kind value) s r e k g c a i = primitive_closed s i backref_at (λ t j. target_of s.deeper (λ level. target_read s.printed (level true kind value s.lifetimes) t j)) (λ t j. target_closed s.printed s.deeper kind value s.lifetimes t j (first (is_closed kind) g c.0) a)
closes (lifetime n p) s r e k g c a i = closes p s _ _ _ _ c a (lifetime_at s.printed s.lifetimes n i).place
closes (binder n p) s r e k g c a i = closes p (record s { lifetimes = s.lifetimes + n }) _ _ _ _ c a i
closes (leave_open p) s r e k g c a i = cc c.0
closes (dyn_trait p) s r e k g c a i = bound_closed (suc (length s.symbol)) s (parse p s) (unit_outcome s a_trait_path false i).is_bracket_open (unit_outcome s a_trait_path false i).place
closes (bindings o p) s r e k g c a i = bound_closed (suc (length s.symbol)) s (parse p s) o i
closes _ s r e k g c a i = refl

-- The levels.

level_closed : (b : List ℕ) (folds : Bool) (ls : List Level) → AllClosed ls → (pr : Bool) (kind : Kind) (value : Bool) (m i : ℕ) → IsTrue (is_closed kind) → (level_of b folds ls pr kind value m i).is_bracket_open ≡ false
unfolding level_of
level_closed b folds ls a pr kind value m i c =
    let inner : Level = λ pr k v o j. parse (items k v) (record { symbol = b; folds = folds; printed = pr; here = nowhere; deeper = ls; lifetimes = o }) (Some j) in
    closes (items kind value) (record { symbol = b; folds = folds; printed = pr; here = inner; deeper = ls; lifetimes = m }) _ _ _ _ (subst (λ x. Fits x (rank kind) 8 (start kind) true (items kind value)) c (fits kind value)) a (Some i)

levels_closed : (b : List ℕ) (folds : Bool) (left : ℕ) → AllClosed (levels b folds left)
unfolding levels
levels_closed b folds zero = tt
levels_closed b folds (suc left) = (level_closed b folds (levels b folds left) (levels_closed b folds left), levels_closed b folds left)

pub unit_closed : (b : List ℕ) (form : Form) (out : Bool) (left m : ℕ) (kind : Kind) (value : Bool) (i : Place) → IsClosed kind → (unit_outcome (context_at b form out left m) kind value i).is_bracket_open ≡ false
unit_closed b form out left m kind value None c = refl
unit_closed b form out left m kind value (Some i) c = level_closed b form.fold_arguments (levels b form.fold_arguments left) (levels_closed b form.fold_arguments left) out kind value m i (so (is_closed kind) c)

-- the trace of a nested production that is the last item
pub last_child : (form : Form) (out : Bool) (b : List ℕ) (left m : ℕ) (kind : Kind) (value : Bool) (i : Place) → IsClosed kind → of form out (parse (child kind value done) (context_at b form out left m) i) ≡ of form out (unit_outcome (context_at b form out left m) kind value i)
unfolding parse
last_child form out b left m kind value i c =
    let o = unit_outcome (context_at b form out left m) kind value i in
    ap (λ xs. record { events = xs; place = o.place; is_bracket_open = false }) (append-nil (events form.include_hash out o.tree))
    ∙ ap (λ x. record { events = events form.include_hash out o.tree; place = o.place; is_bracket_open = x }) (sym (unit_closed b form out left m kind value i c))
