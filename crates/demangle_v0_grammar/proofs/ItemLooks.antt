-- Each item pays for its looks.
use Rattle.std.specs.Prelude.{ℕ, zero, suc, ◌≤◌, ◌<◌, ◌*◌, ◌||◌, ◌&&◌, ◌==◌, nat_lt, nat_le, IsTrue, codes, slice_get}
use Rattle.std.proofs.Common.{◌≡◌, Bool, true, false, cond, List, [], ◌∷◌, ◌++◌, length, Option, Some, None, refl, sym, ◌+◌, ◌-◌, subst, arith}
use Rattle.std.proofs.Math.Nat.{le-mul_of_pos_right}
use Rattle.std.proofs.lemmas.Bool.{ltb-true}
use Prim.Native.Char.{code}
use Rattle.demangle_symbol.specs.Digits.{is_byte}
use Rattle.demangle_symbol.specs.Primitives.{Read, only_if, then_if_some, byte_at, namespace_at, integer_at, optional_at, backref_at, identifier_at, nibbles_at}
use Rattle.demangle_symbol.specs.Names.{name_pieces}
use Rattle.demangle_v0_grammar.specs.Items.{Text, Kind, a_path, a_trait_path, Items, done, invalid, print, print_plain, byte, namespace, integer, optional, identifier, nibbles, peek, next, if_ok, until_end, raise, unit, child, skip, folded, target, lifetime, binder, leave_open, dyn_trait, bindings}
use Rattle.demangle_v0_grammar.specs.Table.{items}
use Rattle.demangle_v0_grammar.specs.LookBudget.{LookCost, IsWithinBudget}
use Rattle.demangle_v0_grammar.specs.Traces.{context_at}
use Rattle.demangle_v0_grammar.specs.Reading.{Form, Tree, nothing, piece, plain_piece, node, looked, looks_only, Place, Outcome, Level, Context, at_place, with_tree, primitive, followed_by, costs_of, parse, primitive_outcome, peek_outcome, byte_choice, one_level_deeper, max_depth, repetitions, angle_if_open, binding_separator, name_equals, bound_by, unit_outcome, after_unprinted, folded_by, target_of, target_read, lifetime_at, lifetime_named, letter_of, all_pieces, binder_at, level_of, levels, nowhere, read_at}
use Rattle.demangle_v0_grammar.proofs.BudgetRules.{IsWithinBudget-more, IsWithinBudget-append}
use Rattle.demangle_symbol.proofs.Counts.{Placed, byte_placed, namespace_placed, integer_placed, optional_placed, backref_placed, identifier_placed, nibbles_placed}
use Rattle.demangle_v0_grammar.proofs.SpelledIsParsed.{there_placed}
use Rattle.demangle_v0_grammar.proofs.TableCost.{fits}
use Rattle.demangle_v0_grammar.proofs.ItemBudgets.{start, is_below, is_closed, is_some_text, Fits, Ends, LooksWithin, Idle, idle, idle_closed, free_piece, unheard_pays, paid_puts, paid_binder, paid_pieces}

-- The rules for a place and its entries.

-- at a later place, after an entry
spent : (n r i k from mid to c w : ℕ) (xs : List LookCost) (x : Place) → i ≤ k → k ≤ n → c ≤ 17 * (k - i) + from → mid + c ≤ 17 * (k - i) + from + r * w →
    Ends n r k mid to xs x → Ends n r i from to (record { bytes = w; looks = c } ∷ xs) x
spent n r i k from mid to c w xs None l m a e h = (omega (arith, l, m, a), IsWithinBudget-more r (17 * (n + 1 - k) + mid) (17 * (n + 1 - i) + from - c + r * w) 0 0 0 xs (omega (arith, l, m, a, e)) (omega arith) h)
spent n r i k from mid to c w xs (Some j) l m a e h =
    (omega (arith, l, h.0), h.1, (omega (arith, l, h.0, a), IsWithinBudget-more r (17 * (j - k) + mid) (17 * (j - i) + from - c + r * w) to to 0 xs (omega (arith, l, h.0, a, e)) (omega arith) h.2))

-- at a later place, after c looks
step : (plain : Bool) (n r i k from mid to c : ℕ) (t : Tree) (x : Place) → i ≤ k → k ≤ n → c + mid ≤ 17 * (k - i) + from →
    Ends n r k mid to (costs_of plain t) x → Ends n r i from to (costs_of plain (looked c t)) x
step plain n r i k from mid to c t x l m e h = spent n r i k from mid to c 0 (costs_of plain t) x l m (omega (arith, e)) (omega (arith, e)) h

-- a text at the place
print_str : (plain : Bool) (n r i from mid to : ℕ) (text : Text) (t : Tree) (x : Place) → mid ≤ from + r * length text →
    Ends n r i mid to (costs_of plain t) x → Ends n r i from to (costs_of plain (piece text t)) x
print_str plain n r i from mid to text t None e h = (omega arith, IsWithinBudget-more r (17 * (n + 1 - i) + mid) (17 * (n + 1 - i) + from - 0 + r * length text) 0 0 0 (costs_of plain t) (omega (arith, e)) (omega arith) h)
print_str plain n r i from mid to text t (Some j) e h = spent n r i i from mid to 0 (length text) (costs_of plain t) (Some j) (omega arith) (omega (arith, h.0, h.1)) (omega arith) (omega (arith, e)) h

says_plain : (plain : Bool) (n r i from to : ℕ) (text : Text) (t : Tree) (x : Place) →
    Ends n r i from to (costs_of plain t) x → Ends n r i from to (costs_of plain (plain_piece text t)) x
says_plain true n r i from to text t x h = print_str true n r i from from to text t x (omega arith) h
says_plain false n r i from to text t x h = h

-- a larger budget, and less of it at the end
more : (n r i from mid to low : ℕ) (xs : List LookCost) (x : Place) → mid ≤ from → low ≤ to → Ends n r i mid to xs x → Ends n r i from low xs x
more n r i from mid to low xs None e l h = IsWithinBudget-more r (17 * (n + 1 - i) + mid) (17 * (n + 1 - i) + from) 0 0 0 xs (omega (arith, e)) (omega arith) h
more n r i from mid to low xs (Some j) e l h = (h.0, h.1, IsWithinBudget-more r (17 * (j - i) + mid) (17 * (j - i) + from) to low 0 xs (omega (arith, e)) (omega (arith, l)) h.2)

-- if the budget is k more than what reading all the bytes takes, k is left at any end
pub ends_pay : (n r i from to a k : ℕ) (xs : List LookCost) (x : Place) → 17 * (n + 1 - i) + from + k ≤ a → Ends n r i from to xs x → IsWithinBudget r a xs k
ends_pay n r i from to a k xs None l h = IsWithinBudget-more r (17 * (n + 1 - i) + from) a 0 k k xs (omega (arith, l)) (omega arith) h
ends_pay n r i from to a k xs (Some j) l h = IsWithinBudget-more r (17 * (j - i) + from) a to k k xs (omega (arith, l, h.0, h.1)) (omega arith) h.2

-- one list after another
joined : (n r i j from mid to : ℕ) (xs ys : List LookCost) (x : Place) → i ≤ j → j ≤ n →
    IsWithinBudget r (17 * (j - i) + from) xs mid → Ends n r j mid to ys x → Ends n r i from to (xs ++ ys) x
joined n r i j from mid to xs ys None l m h e =
    IsWithinBudget-append r (17 * (n + 1 - i) + from) (17 * (n + 1 - j) + mid) 0 xs ys
    (IsWithinBudget-more r (17 * (j - i) + from) (17 * (n + 1 - i) + from) mid (17 * (n + 1 - j) + mid) (17 * (n + 1 - j)) xs (omega (arith, l, m)) (omega arith) h) e
joined n r i j from mid to xs ys (Some k) l m h e = (
  omega (arith, l, e.0),
  e.1,
  IsWithinBudget-append r (17 * (k - i) + from) (17 * (k - j) + mid) to xs ys
      (IsWithinBudget-more r (17 * (j - i) + from) (17 * (k - i) + from) mid (17 * (k - j) + mid) (17 * (k - j)) xs (omega (arith, l, e.0)) (omega arith) h) e.2,
)

joined_idle : (n r i from to : ℕ) (xs ys : List LookCost) (x : Place) → x ≡ None →
    IsWithinBudget r (17 * (n + 1 - i) + from) xs 0 → IsWithinBudget r 0 ys 0 → Ends n r i from to (xs ++ ys) x
joined_idle n r i from to xs ys (Some j) e h f = cc e
joined_idle n r i from to xs ys None e h f = IsWithinBudget-append r (17 * (n + 1 - i) + from) 0 0 xs ys h f

then_paid : (plain : Bool) (n r i from mid to : ℕ) (o : Outcome) (f : Place → Outcome) → LooksWithin plain n r i from mid o →
    ((j : ℕ) → i ≤ j → j ≤ n → LooksWithin plain n r j mid to (f (Some j))) → Idle plain r (f None) → LooksWithin plain n r i from to (followed_by o f)
then_paid plain n r i from mid to o f h k d = go o.tree o.place h
  where
    go : (t : Tree) (x : Place) → Ends n r i from mid (costs_of plain t) x → LooksWithin plain n r i from to (followed_by (record { tree = t; place = x; is_bracket_open = false }) f)
    go t None h = joined_idle n r i from to (costs_of plain t) (costs_of plain (f None).tree) (f None).place d.0 h d.1
    go t (Some j) h = joined n r i j from mid to (costs_of plain t) (costs_of plain (f (Some j)).tree) (f (Some j)).place h.0 h.1 h.2 (k j h.0 h.1)

-- The budget for a reference. It is there before the reference if a nested production may come now.
abbrev pub purse : Bool → ℕ → ℕ
purse g R = cond g R 0

-- the productions of a level
abbrev pub LevelIsWithinBudget : Bool → (n r R : ℕ) → Bool → Level → Type 0
LevelIsWithinBudget plain n r R fl l = (kind : Kind) (value : Bool) (m i : ℕ) → i ≤ n → LooksWithin plain n r i (start kind + R) 8 (l fl kind value m i)

-- Each depth has a budget. A reference takes from it what reading all the bytes takes, and the budget of its target.
abbrev pub Deeper : Bool → (n r : ℕ) → Bool → ℕ → List Level → Type 0
Deeper plain n r fl R [] = Unit {0}
Deeper plain n r fl R (l ∷ ls) =
    (S : ℕ) × (S ≤ R) × (fl ≡ true → 17 * (n + 1) + 2 + S ≤ R) × LevelIsWithinBudget plain n r S fl l × LevelIsWithinBudget plain n 0 0 false l × Deeper plain n r fl S ls

-- Primitives.

primitive_paid : {A : Type 0} (plain : Bool) (n r i from mid to low : ℕ) (bs : List ℕ) (q : Read A) (f : A → Place → Outcome) → length bs ≡ n → i ≤ n → Placed (i + low) bs q →
    4 * low + 4 + mid ≤ 17 * low + from →
    ((v : A) (j : ℕ) → q ≡ Some (v, j) → i ≤ j → j ≤ n → LooksWithin plain n r j mid to (f v (Some j))) → LooksWithin plain n r i from to (primitive_outcome n i f q)
primitive_paid plain n r i from mid to low bs None f b l c e h = (omega (arith, l), (omega arith, omega arith))
primitive_paid plain n r i from mid to low bs (Some (v, j)) f b l c e h =
    let w : (i + low ≤ j) × (j ≤ length bs) = c in
    let u : j ≤ n = subst (λ z. j ≤ z) b w.1 in
    step plain n r i j from mid to (4 * (j - i + 1)) (f v (Some j)).tree (f v (Some j)).place (omega (arith, w.0)) u (omega (arith, e, w.0)) (h v j refl (omega (arith, w.0)) u)

peek_paid : (plain : Bool) (n r i from mid to : ℕ) (q : Option ℕ) (f : ℕ → Outcome) → i ≤ n → 1 + mid ≤ from →
    ((v : ℕ) → LooksWithin plain n r i mid to (f v)) → LooksWithin plain n r i from to (peek_outcome f q)
peek_paid plain n r i from mid to None f l e h = (omega (arith, l), (omega arith, omega arith))
peek_paid plain n r i from mid to (Some q) f l e h = step plain n r i i from mid to 1 (f q).tree (f q).place (omega arith) l (omega (arith, e)) (h q)

fork_paid : (plain : Bool) (n r i from there other to : ℕ) (c : Bool) (f g : Place → Outcome) → i ≤ n → (c ≡ true → i + 1 ≤ n) →
    1 + there ≤ 17 + from → 1 + other ≤ from →
    (i + 1 ≤ n → LooksWithin plain n r (i + 1) there to (f (Some (i + 1)))) → LooksWithin plain n r i other to (g (Some i)) → LooksWithin plain n r i from to (byte_choice c f g (Some i))
fork_paid plain n r i from there other to true f g l m a b h k = step plain n r i (i + 1) from there to 1 (f (Some (i + 1))).tree (f (Some (i + 1))).place (omega arith) (m refl) (omega (arith, a)) (h (m refl))
fork_paid plain n r i from there other to false f g l m a b h k = step plain n r i i from other to 1 (g (Some i)).tree (g (Some i)).place (omega arith) l (omega (arith, b)) k

-- with the text, the budget is there again
refilled : (r R k : ℕ) (g : Bool) (t : Text) → R ≤ r → k + purse (g || is_some_text t) R ≤ k + purse g R + r * length t
refilled r R k true t l = omega arith
refilled r R k false [] l = omega arith
refilled r R k false (b ∷ bs) l = let h : r ≤ r * length (b ∷ bs) = le-mul_of_pos_right r (omega arith) in omega (arith, h, l)

-- the text before a binding adds to the budget
opened_paid : (plain : Bool) (n r R i from to : ℕ) (o : Bool) (t : Tree) (x : Place) → R ≤ r →
    Ends n r i (from + R) to (costs_of plain t) x → Ends n r i from to (costs_of plain (binding_separator o t)) x
opened_paid plain n r R i from to true t x l h = print_str plain n r i from (from + R) to (codes ", ") t x (omega (arith, l)) h
opened_paid plain n r R i from to false t x l h = print_str plain n r i from (from + R) to (codes "<") t x (omega (arith, l)) h

pieces_paid : (plain : Bool) (n r i from to : ℕ) (ts : List Text) (t : Tree) (x : Place) →
    Ends n r i from to (costs_of plain t) x → Ends n r i from to (costs_of plain (all_pieces ts t)) x
pieces_paid plain n r i from to ts t None h = paid_pieces plain r (17 * (n + 1 - i) + from) 0 ts t h
pieces_paid plain n r i from to ts t (Some j) h = (h.0, h.1, paid_pieces plain r (17 * (j - i) + from) to ts t h.2)

closed_paid : (plain : Bool) (n r i from to : ℕ) (o : Bool) → i ≤ n → to ≤ from → LooksWithin plain n r i from to (angle_if_open o (Some i))
closed_paid plain n r i from to true l e = print_str plain n r i from from to (codes ">") nothing (Some i) (omega arith) (omega arith, l, omega (arith, e))
closed_paid plain n r i from to false l e = (omega arith, l, omega (arith, e))

binder_paid : (plain : Bool) (n r i from to : ℕ) (c : Bool) (m k : ℕ) (t : Tree) (x : Place) →
    Ends n r i from to (costs_of plain t) x → Ends n r i from to (costs_of plain (binder_at c m k t)) x
binder_paid plain n r i from to false m k t x h = h
binder_paid plain n r i from to true m k t None h = paid_binder plain r (17 * (n + 1 - i) + from) 0 m k t h
binder_paid plain n r i from to true m k t (Some j) h = (h.0, h.1, paid_binder plain r (17 * (j - i) + from) to m k t h.2)

choice_paid : (plain : Bool) (n r i from to : ℕ) (b : Bool) (x y : Outcome) → LooksWithin plain n r i from to x → LooksWithin plain n r i from to y → LooksWithin plain n r i from to (cond b x y)
choice_paid plain n r i from to true x y h k = h
choice_paid plain n r i from to false x y h k = k

lifetime_paid : (plain : Bool) (n r i from : ℕ) (b : Bool) (m k : ℕ) → i ≤ n → LooksWithin plain n r i from from (lifetime_at b m k (Some i))
lifetime_paid plain n r i from false m k l = (omega arith, l, omega arith)
lifetime_paid plain n r i from true m k l =
    let o : Outcome = lifetime_named m k (Some i) in
    let inner : LooksWithin plain n r i from from o =
    choice_paid plain n r i from from (k == 0) _ _ (omega arith, l, paid_puts r (17 * (i - i) + from) from (codes "_") [] (omega arith))
    (choice_paid plain n r i from from (nat_le k m) _ _ (omega arith, l, paid_pieces plain r (17 * (i - i) + from) from (letter_of (m - k)) nothing (omega arith)) (omega arith, omega arith)) in
    print_str plain n r i from from from (codes "'") o.tree o.place (omega arith) inner

-- a part that is read and not printed
hushed_paid : (plain : Bool) (n r i from a b mid to : ℕ) (o : Outcome) (f : Place → Outcome) → LooksWithin plain n 0 i a b o →
    ((j : ℕ) → i ≤ j → j ≤ n → LooksWithin plain n r j (b + mid) to (f (Some j))) → Idle plain r (f None) → a + mid ≤ from → LooksWithin plain n r i from to (after_unprinted o f)
hushed_paid plain n r i from a b mid to o f h k d l = go o.tree o.place h
  where
    go : (t : Tree) (x : Place) → Ends n 0 i a b (costs_of plain t) x → LooksWithin plain n r i from to (after_unprinted (record { tree = t; place = x; is_bracket_open = false }) f)
    go t None h = joined_idle n r i from to (looks_only (costs_of plain t)) (costs_of plain (f None).tree) (f None).place d.0
        (IsWithinBudget-more r (17 * (n + 1 - i) + a) (17 * (n + 1 - i) + from) 0 0 0 (looks_only (costs_of plain t)) (omega (arith, l)) (omega arith) (unheard_pays r (17 * (n + 1 - i) + a) 0 (costs_of plain t) h)) d.1
    go t (Some j) h = joined n r i j from (b + mid) to (looks_only (costs_of plain t)) (costs_of plain (f (Some j)).tree) (f (Some j)).place h.0 h.1
        (IsWithinBudget-more r (17 * (j - i) + a) (17 * (j - i) + from) b (b + mid) mid (looks_only (costs_of plain t)) (omega (arith, l)) (omega arith) (unheard_pays r (17 * (j - i) + a) b (costs_of plain t) h.2)) (k j h.0 h.1)

-- generic arguments, folded or not
folded_paid : (plain : Bool) (n r i from k l to : ℕ) (c : Bool) (x y : Outcome) (f : Place → Outcome) → k ≤ from → LooksWithin plain n 0 i k l x → LooksWithin plain n r i from l y →
    ((j : ℕ) → i ≤ j → j ≤ n → LooksWithin plain n r j l to (f (Some j))) → Idle plain r (f None) → LooksWithin plain n r i from to (folded_by c x y f)
folded_paid plain n r i from k l to true x y f b h e g d =
    hushed_paid plain n r i from k l 0 to x (λ z. with_tree (piece (codes "_")) (f z)) h
    (λ j p q. print_str plain n r j (l + 0) l to (codes "_") (f (Some j)).tree (f (Some j)).place (omega arith) (g j p q))
    (d.0, free_piece plain r (codes "_") (f None).tree d.1) (omega (arith, b))
folded_paid plain n r i from k l to false x y f b h e g d = then_paid plain n r i from l to y f e g d

purse_none : (g : Bool) (k R : ℕ) → k + purse g 0 ≤ k + purse g R
purse_none true k R = omega arith
purse_none false k R = omega arith

-- the deeper levels, if nothing is printed
deeper_hidden : (plain : Bool) (n r : ℕ) (fl : Bool) (R : ℕ) (ls : List Level) → Deeper plain n r fl R ls → Deeper plain n 0 false 0 ls
deeper_hidden plain n r fl R [] d = tt
deeper_hidden plain n r fl R (l ∷ ls) d = (0, omega arith, (λ f. cc f), d.4, d.4, deeper_hidden plain n r fl d.0 ls d.5)

pub small : (kind : Kind) → start kind ≤ 2
small a_path = omega arith
small _ = omega arith

-- the tree of a target, with its budget
target_paid : (plain : Bool) (n r S m t a k : ℕ) (kind : Kind) (value : Bool) (l : Level) → LevelIsWithinBudget plain n r S true l → t ≤ n → 17 * (n + 1) + 2 + S + k ≤ a →
    IsWithinBudget r a (costs_of plain (node (l true kind value m t).tree nothing)) k
target_paid plain n r S m t a k kind value l h b c =
    let o : Outcome = l true kind value m t in
    IsWithinBudget-append r a k k (costs_of plain o.tree) [] (ends_pay n r t (start kind + S) 8 a k (costs_of plain o.tree) o.place (omega (arith, small kind, c)) (h kind value m t b)) (omega arith)

target_of_paid : (plain : Bool) (n r R i m t k e : ℕ) (kind : Kind) (value fl : Bool) (ls : List Level) → Deeper plain n r fl R ls → t ≤ n → i ≤ n → e ≤ k →
    LooksWithin plain n r i (k + R) e (target_of ls (λ level. target_read fl (level true kind value m) t (Some i)))
target_of_paid plain n r R i m t k e kind value fl [] d b l a = (omega arith, omega arith)
target_of_paid plain n r R i m t k e kind value true (x ∷ xs) d b l a =
    let y : 17 * (n + 1) + 2 + d.0 ≤ R = d.2 refl in
    (omega arith, l, target_paid plain n r d.0 m t (17 * (i - i) + (k + R)) e kind value x d.3 b (omega (arith, y, a)))
target_of_paid plain n r R i m t k e kind value false (x ∷ xs) d b l a = (omega arith, l, omega (arith, a))

-- a target begins before its reference
pub target_within : (symbol : List ℕ) (i t j n : ℕ) → i ≤ n → backref_at symbol i ≡ Some (t, j) → t ≤ n
unfolding backref_at
target_within symbol i t j n l e = go (integer_at symbol i) e
  where
    inner : (c : Bool) (r : ℕ × ℕ) → nat_lt (r.0 + 1) i ≡ c → only_if c r ≡ Some (t, j) → t ≤ n
    inner true r p q = let w : r.0 + 1 < i = ltb-true (r.0 + 1) i p in subst (λ z. z ≤ n) (firsts q) (omega (arith, w, l))
      where
        firsts : {x y : ℕ × ℕ} → Some x ≡ Some y → x.0 ≡ y.0
        firsts q = cc q
    inner false r p q = cc q

    go : (o : Read ℕ) → then_if_some o (λ r. only_if (nat_lt (r.0 + 1) i) r) ≡ Some (t, j) → t ≤ n
    go None q = cc q
    go (Some r) q = inner (nat_lt (r.0 + 1) i) r refl q

-- c looks are left at the start of the repetitions; after the `E`, 16 more
repetitions_paid : (plain : Bool) (n r c m : ℕ) (symbol : List ℕ) (f : Place → Outcome) → length symbol ≡ n → 1 ≤ c →
    ((i : ℕ) → i ≤ n → LooksWithin plain n r i (c - 1) c (f (Some i))) → (i : ℕ) → i ≤ n → LooksWithin plain n r i c (c + 16) (repetitions m symbol f (Some i))
unfolding repetitions
repetitions_paid plain n r c zero symbol f e o h i l = (omega arith, omega arith)
repetitions_paid plain n r c (suc m) symbol f e o h i l =
    fork_paid plain n r i c (c + 16) (c - 1) (c + 16) (is_byte symbol i (code "E")) at_place (λ j. followed_by (f j) (repetitions m symbol f)) l (λ y. subst (λ z. i + 1 ≤ z) e (there_placed symbol (code "E") i y)) (omega arith) (omega (arith, o))
    (λ y. (omega arith, y, omega arith))
    (then_paid plain n r i (c - 1) c (c + 16) (f (Some i)) (repetitions m symbol f) (h i l) (λ j _ b. repetitions_paid plain n r c m symbol f e o h j b) (refl, omega arith))

-- c looks are left at the start of bindings; a binding ends with `e`
bound_paid : (plain : Bool) (n r R c e m : ℕ) (s : Context) (f : Place → Outcome) → length s.symbol ≡ n → R ≤ r → 1 ≤ c → e ≤ c - 1 →
    ((i : ℕ) → i ≤ n → LooksWithin plain n r i (c + 25 + R) c (f (Some i))) → (o : Bool) (i : ℕ) → i ≤ n → LooksWithin plain n r i c e (bound_by m s f o (Some i))
unfolding bound_by
bound_paid plain n r R c e zero s f q w b a h o i l = (omega arith, omega arith)
bound_paid plain n r R c e (suc m) s f q w b low h o i l =
    fork_paid plain n r i c (c + 16) (c - 1) e (is_byte s.symbol i (code "p"))
    (λ j. with_tree (binding_separator o) (primitive s j identifier_at (λ a k. with_tree (name_equals a) (followed_by (f k) (bound_by m s f true))))) (angle_if_open o) l (λ y. subst (λ z. i + 1 ≤ z) q (there_placed s.symbol (code "p") i y)) (omega arith) (omega (arith, b))
    (λ y. let inner : Outcome = primitive s (Some (i + 1)) identifier_at (λ a k. with_tree (name_equals a) (followed_by (f k) (bound_by m s f true))) in
    opened_paid plain n r R (i + 1) (c + 16) e o inner.tree inner.place w
    (subst (λ z. LooksWithin plain n r (i + 1) (c + 16 + R) e (primitive_outcome z (i + 1) (λ a k. with_tree (name_equals a) (followed_by (f k) (bound_by m s f true))) (identifier_at s.symbol (i + 1)))) (sym q)
    (primitive_paid plain n r (i + 1) (c + 16 + R) (c + 25 + R) e 1 s.symbol (identifier_at s.symbol (i + 1)) (λ a k. with_tree (name_equals a) (followed_by (f k) (bound_by m s f true))) q y (identifier_placed s.symbol (i + 1)) (omega arith)
    (λ a j _ _ z. let all : Outcome = followed_by (f (Some j)) (bound_by m s f true) in
    pieces_paid plain n r j (c + 25 + R) e (name_pieces a) (piece (codes " = ") all.tree) all.place (print_str plain n r j (c + 25 + R) (c + 25 + R) e (codes " = ") all.tree all.place (omega arith)
    (then_paid plain n r j (c + 25 + R) c e (f (Some j)) (bound_by m s f true) (h j z) (λ k _ x. bound_paid plain n r R c e m s f q w b low h true k x) (idle_closed plain r true)))))))
    (closed_paid plain n r i (c - 1) e o l low)

raised_paid : (plain : Bool) (n r R k e i : ℕ) (fl g : Bool) (ls : List Level) (f : Level → List Level → Place → Outcome) → Deeper plain n r fl R ls →
    ((S : ℕ) (l : Level) (ls : List Level) → S ≤ R → LevelIsWithinBudget plain n r S fl l → LevelIsWithinBudget plain n 0 0 false l → Deeper plain n r fl S ls → LooksWithin plain n r i (k + purse g S) e (f l ls (Some i))) →
    LooksWithin plain n r i (k + purse g R) e (one_level_deeper ls f (Some i))
raised_paid plain n r R k e i fl g [] f d h = (omega arith, omega arith)
raised_paid plain n r R k e i fl g (x ∷ xs) f d h = more n r i (k + purse g R) (k + purse g d.0) e e (costs_of plain (f x xs (Some i)).tree) (f x xs (Some i)).place (less g) (omega arith) (h d.0 x xs d.1 d.3 d.4 d.5)
  where
    less : (g : Bool) → k + purse g d.0 ≤ k + purse g R
    less true = omega (arith, d.1)
    less false = omega arith

purse_true : (x g : Bool) (R : ℕ) → IsTrue (x && g) → R ≤ purse g R
purse_true x true R h = omega arith
purse_true true false R h = absurd (cc h)
purse_true false false R h = absurd (cc h)

pub record Holds (plain : Bool) (r R : ℕ) (s : Context) : Type 0 where
  pub enough : R ≤ r
  pub here : LevelIsWithinBudget plain (length s.symbol) r R s.printed s.here
  pub unprinted : LevelIsWithinBudget plain (length s.symbol) 0 0 false s.here
  pub deeper : Deeper plain (length s.symbol) r s.printed R s.deeper

pub paid : (plain : Bool) (r R : ℕ) (p : Items) (s : Context) (c : Bool) (b e k : ℕ) (g : Bool) → Fits c b e k g p → Holds plain r R s →
    (i : ℕ) → i ≤ length s.symbol → LooksWithin plain (length s.symbol) r i (k + purse g R) e (parse p s (Some i))
unfolding parse bound_by
paid plain r R done s c z e k g a m i l = (omega arith, l, omega (arith, a))
paid plain r R invalid s c z e k g a m i l = (omega arith, omega arith)
paid plain r R (print t p) s c z e k g a m i l = print_str plain (length s.symbol) r i (k + purse g R) (k + purse (g || is_some_text t) R) e t (parse p s (Some i)).tree (parse p s (Some i)).place
    (refilled r R k g t m.enough) (paid plain r R p s c z e k (g || is_some_text t) a m i l)
paid plain r R (print_plain t p) s c z e k g a m i l = says_plain plain (length s.symbol) r i (k + purse g R) e t (parse p s (Some i)).tree (parse p s (Some i)).place (paid plain r R p s c z e k g a m i l)
paid plain r R (byte f) s c z e k g a m i l = primitive_paid plain (length s.symbol) r i (k + purse g R) (k + 9 + purse g R) e 1 s.symbol (byte_at s.symbol i) (λ v. parse (f v) s) refl l (byte_placed s.symbol i) (omega arith)
    (λ v j _ _ b. paid plain r R (f v) s c z e (k + 9) g (a v) m j b)
paid plain r R (namespace f) s c z e k g a m i l = primitive_paid plain (length s.symbol) r i (k + purse g R) (k + 9 + purse g R) e 1 s.symbol (namespace_at s.symbol i) (λ v. parse (f v) s) refl l (namespace_placed s.symbol i) (omega arith)
    (λ v j _ _ b. paid plain r R (f v) s c z e (k + 9) g (a v) m j b)
paid plain r R (integer f) s c z e k g a m i l = primitive_paid plain (length s.symbol) r i (k + purse g R) (k + 9 + purse g R) e 1 s.symbol (integer_at s.symbol i) (λ v. parse (f v) s) refl l (integer_placed s.symbol i) (omega arith)
    (λ v j _ _ b. paid plain r R (f v) s c z e (k + 9) g (a v) m j b)
paid plain r R (optional tag f) s c z e k g a m i l = primitive_paid plain (length s.symbol) r i (k + purse g R) (k - 4 + purse g R) e 0 s.symbol (optional_at tag s.symbol i) (λ v. parse (f v) s) refl l (subst (λ z. Placed z s.symbol (optional_at tag s.symbol i)) plus (optional_placed tag s.symbol i l)) (omega (arith, a.0))
    (λ v j _ _ b. paid plain r R (f v) s c z e (k - 4) g (a.1 v) m j b)
  where
    plus : i ≡ i + 0
    plus = omega arith
paid plain r R (identifier f) s c z e k g a m i l = primitive_paid plain (length s.symbol) r i (k + purse g R) (k + 9 + purse g R) e 1 s.symbol (identifier_at s.symbol i) (λ v. parse (f v) s) refl l (identifier_placed s.symbol i) (omega arith)
    (λ v j _ _ b. paid plain r R (f v) s c z e (k + 9) g (a v) m j b)
paid plain r R (nibbles f) s c z e k g a m i l = primitive_paid plain (length s.symbol) r i (k + purse g R) (k + 9 + purse g R) e 1 s.symbol (nibbles_at s.symbol i) (λ v. parse (f v) s) refl l (nibbles_placed s.symbol i) (omega arith)
    (λ v j _ _ b. paid plain r R (f v) s c z e (k + 9) g (a v) m j b)
paid plain r R (peek f) s c z e k g a m i l = peek_paid plain (length s.symbol) r i (k + purse g R) (k - 1 + purse g R) e (slice_get s.symbol i) (λ v. parse (f v) s (Some i)) l (omega (arith, a.0))
    (λ v. paid plain r R (f v) s c z e (k - 1) g (a.1 v) m i l)
paid plain r R (next b p q) s c z e k g a m i l = fork_paid plain (length s.symbol) r i (k + purse g R) (k + 16 + purse g R) (k - 1 + purse g R) e (is_byte s.symbol i b) (parse p s) (parse q s) l
    (there_placed s.symbol b i) (omega arith) (omega (arith, a.0))
    (λ y. paid plain r R p s c z e (k + 16) g a.1 m (i + 1) y) (paid plain r R q s c z e (k - 1) g a.2 m i l)
paid plain r R (if_ok p q) s c z e k g a m i l = paid plain r R p s c z e k g a.2 m i l
paid plain r R (until_end p q) s c z e k g a m i l = then_paid plain (length s.symbol) r i (k + purse g R) (a.0 + 16) e (repetitions (suc (length s.symbol)) s.symbol (parse p s) (Some i)) (parse q s)
    (more (length s.symbol) r i (k + purse g R) a.0 (a.0 + 16) (a.0 + 16) (costs_of plain (repetitions (suc (length s.symbol)) s.symbol (parse p s) (Some i)).tree) (repetitions (suc (length s.symbol)) s.symbol (parse p s) (Some i)).place (omega (arith, a.1)) (omega arith)
    (repetitions_paid plain (length s.symbol) r a.0 (suc (length s.symbol)) s.symbol (parse p s) refl a.2
    (λ j b. more (length s.symbol) r j (a.0 - 1) (a.0 - 1 + 0) a.0 a.0 (costs_of plain (parse p s (Some j)).tree) (parse p s (Some j)).place (omega arith) (omega arith) (paid plain r R p s c z a.0 (a.0 - 1) false a.3 m j b)) i l))
    (λ j _ b. more (length s.symbol) r j (a.0 + 16) (a.0 + 16 + 0) e e (costs_of plain (parse q s (Some j)).tree) (parse q s (Some j)).place (omega arith) (omega arith) (paid plain r R q s c z e (a.0 + 16) false a.4 m j b)) (idle plain r q s)
paid plain r R (raise p) s c z e k g a m i l = raised_paid plain (length s.symbol) r R k e i s.printed g s.deeper (λ x xs. parse p (record s { here = x; deeper = xs })) m.deeper
    (λ S x xs b y z w. paid plain r S p (record s { here = x; deeper = xs }) c 2 e k g a
    (record { enough = omega (arith, m.enough, b); here = y; unprinted = z; deeper = w }) i l)
paid plain r R (unit p q) s c z e k g a m i l = then_paid plain (length s.symbol) r i (k + purse g R) a.0 e (parse p s (Some i)) (parse q s)
    (paid plain r R p s c z a.0 k g a.1 m i l)
    (λ j _ b. more (length s.symbol) r j a.0 (a.0 + 0) e e (costs_of plain (parse q s (Some j)).tree) (parse q s (Some j)).place (omega arith) (omega arith) (paid plain r R q s c z e a.0 false a.2 m j b)) (idle plain r q s)
paid plain r R (child kind value p) s c z e k g a m i l = then_paid plain (length s.symbol) r i (k + purse g R) 8 e (unit_outcome s kind value (Some i)) (parse p s)
    (more (length s.symbol) r i (k + purse g R) (start kind + R) 8 8 (costs_of plain (unit_outcome s kind value (Some i)).tree) (unit_outcome s kind value (Some i)).place (let y : R ≤ purse g R = purse_true (is_below z kind) g R a.1 in omega (arith, a.0, y)) (omega arith) (m.here kind value s.lifetimes i l))
    (λ j _ b. paid plain r R p s c z e 8 false a.2 m j b) (idle plain r p s)
paid plain r R (skip p) s c z e k g a m i l = hushed_paid plain (length s.symbol) r i (k + purse g R) 0 8 (purse g R) e (s.here false a_path false s.lifetimes i) (parse p s) (m.unprinted a_path false s.lifetimes i l)
    (λ j _ b. paid plain r R p s c z e 8 g a.1 m j b) (idle plain r p s) (omega arith)
paid plain r R (folded p q) s c z e k g a m i l =
    let still = record s { printed = false } in
    folded_paid plain (length s.symbol) r i (k + purse g R) (k + purse g 0) a.0 e (s.printed && s.folds) (parse p still (Some i)) (parse p s (Some i)) (parse q s) (purse_none g k R)
    (paid plain 0 0 p still c z a.0 k g a.1 (record { enough = omega arith; here = m.unprinted; unprinted = m.unprinted; deeper = deeper_hidden plain (length s.symbol) r s.printed R s.deeper m.deeper }) i l)
    (paid plain r R p s c z a.0 k g a.1 m i l)
    (λ j _ b. more (length s.symbol) r j a.0 (a.0 + 0) e e (costs_of plain (parse q s (Some j)).tree) (parse q s (Some j)).place (omega arith) (omega arith) (paid plain r R q s c z e a.0 false a.2 m j b)) (idle plain r q s)
paid plain r R (target kind value) s c z e k g a m i l =
    primitive_paid plain (length s.symbol) r i (k + purse g R) (k + 9 + R) e 1 s.symbol (backref_at s.symbol i)
    (λ t j. target_of s.deeper (λ level. target_read s.printed (level true kind value s.lifetimes) t j)) refl l (backref_placed s.symbol i)
    (let y : R ≤ purse g R = purse_true (cond c (is_closed kind) true) g R a.0 in omega (arith, y))
    (λ t j w _ b. target_of_paid plain (length s.symbol) r R j s.lifetimes t (k + 9) e kind value s.printed s.deeper m.deeper (target_within s.symbol i t j (length s.symbol) l w) b a.1)
paid plain r R (lifetime x p) s c z e k g a m i l = then_paid plain (length s.symbol) r i (k + purse g R) (k + purse g R) e (lifetime_at s.printed s.lifetimes x (Some i)) (parse p s)
    (lifetime_paid plain (length s.symbol) r i (k + purse g R) s.printed s.lifetimes x l) (λ j _ b. paid plain r R p s c z e k g a m j b) (idle plain r p s)
paid plain r R (binder x p) s c z e k g a m i l = let y = record s { lifetimes = s.lifetimes + x } in
    binder_paid plain (length s.symbol) r i (k + purse g R) e s.printed x s.lifetimes (parse p y (Some i)).tree (parse p y (Some i)).place (paid plain r R p y c z e k g a (record { enough = m.enough; here = m.here; unprinted = m.unprinted; deeper = m.deeper }) i l)
paid plain r R (leave_open p) s c z e k g a m i l = paid plain r R p s c z e k g a.1 m i l
paid plain r R (dyn_trait p) s c z e k g a m i l =
    let path : Outcome = unit_outcome s a_trait_path false (Some i) in
    then_paid plain (length s.symbol) r i (k + purse g R) 8 e path (bound_by (suc (length s.symbol)) s (parse p s) path.is_bracket_open)
    (more (length s.symbol) r i (k + purse g R) (start a_trait_path + R) 8 8 (costs_of plain path.tree) path.place (let y : R ≤ purse g R = purse_true (is_below z a_trait_path) g R a.1 in omega (arith, a.0, y)) (omega arith) (m.here a_trait_path false s.lifetimes i l))
    (λ j _ b. let all : Outcome = bound_by (suc (length s.symbol)) s (parse p s) path.is_bracket_open (Some j) in
    more (length s.symbol) r j 8 a.2.0 e e (costs_of plain all.tree) all.place (omega (arith, a.2.1)) (omega arith)
    (bound_paid plain (length s.symbol) r R a.2.0 e (suc (length s.symbol)) s (parse p s) refl m.enough a.2.2 a.2.4 (λ v x. paid plain r R p s c z a.2.0 (a.2.0 + 25) true a.2.3 m v x) path.is_bracket_open j b)) (idle_closed plain r path.is_bracket_open)
paid plain r R (bindings o p) s c z e k g a m i l =
    let all : Outcome = bound_by (suc (length s.symbol)) s (parse p s) o (Some i) in
    more (length s.symbol) r i (k + purse g R) a.1 e e (costs_of plain all.tree) all.place (omega (arith, a.2)) (omega arith)
    (bound_paid plain (length s.symbol) r R a.1 e (suc (length s.symbol)) s (parse p s) refl m.enough a.3 a.5 (λ v x. paid plain r R p s c z a.1 (a.1 + 25) true a.4 m v x) o i l)

-- The levels.

level_paid : (plain : Bool) (r R : ℕ) (symbol : List ℕ) (folds : Bool) (ls : List Level) (fl : Bool) → R ≤ r →
    Deeper plain (length symbol) r fl R ls → Deeper plain (length symbol) 0 false 0 ls → LevelIsWithinBudget plain (length symbol) r R fl (level_of symbol folds ls)
unfolding parse level_of
level_paid plain r R symbol folds ls fl b d e kind value m i l =
    let at : Level → Bool → ℕ → Context = λ here f k. record { symbol = symbol; folds = folds; printed = f; here = here; deeper = ls; lifetimes = k } in
    let inner : Level = λ f k v o j. parse (items k v) (at nowhere f o) (Some j) in
    paid plain r R (items kind value) (at inner fl m) _ _ 8 (start kind) true (fits kind value)
    (record {
      enough = b;
      here = λ k v o j q. paid plain r R (items k v) (at nowhere fl o) _ _ 8 (start k) true (fits k v)
          (record { enough = b; here = λ k' v' o' j' q'. (omega arith, omega arith); unprinted = λ k' v' o' j' q'. (omega arith, omega arith); deeper = d }) j q;
      unprinted = λ k v o j q. paid plain 0 0 (items k v) (at nowhere false o) _ _ 8 (start k) true (fits k v)
          (record { enough = omega arith; here = λ k' v' o' j' q'. (omega arith, omega arith); unprinted = λ k' v' o' j' q'. (omega arith, omega arith); deeper = e }) j q;
      deeper = d;
    }) i l

-- the budget of m depths
abbrev pub money : ℕ → ℕ → ℕ
money n m = (17 * (n + 1) + 2) * m

levels_hidden : (plain : Bool) (symbol : List ℕ) (folds : Bool) (m : ℕ) → Deeper plain (length symbol) 0 false 0 (levels symbol folds m)
unfolding levels
levels_hidden plain symbol folds zero = tt
levels_hidden plain symbol folds (suc m) =
    let q : Deeper plain (length symbol) 0 false 0 (levels symbol folds m) = levels_hidden plain symbol folds m in
    let w : LevelIsWithinBudget plain (length symbol) 0 0 false (level_of symbol folds (levels symbol folds m)) = level_paid plain 0 0 symbol folds (levels symbol folds m) false (omega arith) q q in
    (0, omega arith, (λ f. cc f), w, w, q)

levels_paid : (plain : Bool) (r : ℕ) (symbol : List ℕ) (folds : Bool) (m : ℕ) → money (length symbol) m ≤ r → Deeper plain (length symbol) r true (money (length symbol) m) (levels symbol folds m)
unfolding levels
levels_paid plain r symbol folds zero b = tt
levels_paid plain r symbol folds (suc m) b =
    let c : money (length symbol) m ≤ r = omega (arith, b) in
    let q : Deeper plain (length symbol) r true (money (length symbol) m) (levels symbol folds m) = levels_paid plain r symbol folds m c in
    let z : Deeper plain (length symbol) 0 false 0 (levels symbol folds m) = levels_hidden plain symbol folds m in (
      money (length symbol) m,
      omega arith,
      (λ _. omega arith),
      level_paid plain r (money (length symbol) m) symbol folds (levels symbol folds m) true c q z,
      level_paid plain 0 0 symbol folds (levels symbol folds m) false (omega arith) z z,
      q,
    )

-- if the target is printed
pub read_paid : (plain : Bool) (r : ℕ) (symbol : List ℕ) (folds : Bool) (kind : Kind) (i d m : ℕ) (value : Bool) → money (length symbol) (max_depth - d) ≤ r → i ≤ length symbol →
    LooksWithin plain (length symbol) r i (start kind + money (length symbol) (max_depth - d)) 8 (read_at symbol folds true kind i d m value)
unfolding read_at
read_paid plain r symbol folds kind i d m value b l =
    level_paid plain r (money (length symbol) (max_depth - d)) symbol folds (levels symbol folds (max_depth - d)) true b (levels_paid plain r symbol folds (max_depth - d) b) (levels_hidden plain symbol folds (max_depth - d)) kind value m i l

-- if it is not printed
pub spelling_paid : (plain : Bool) (symbol : List ℕ) (folds : Bool) (kind : Kind) (i d m : ℕ) (value : Bool) → i ≤ length symbol →
    LooksWithin plain (length symbol) 0 i (start kind + 0) 8 (read_at symbol folds false kind i d m value)
unfolding read_at
spelling_paid plain symbol folds kind i d m value l = let q : Deeper plain (length symbol) 0 false 0 (levels symbol folds (max_depth - d)) = levels_hidden plain symbol folds (max_depth - d) in
    level_paid plain 0 0 symbol folds (levels symbol folds (max_depth - d)) false (omega arith) q q kind value m i l

-- a part that is not printed, where any number of depths is left

pub hidden_paid : (plain : Bool) (p : Items) (c : Bool) (b e k : ℕ) → Fits c b e k true p → (symbol : List ℕ) (form : Form) (left m i : ℕ) → i ≤ length symbol →
    LooksWithin plain (length symbol) 0 i (k + 0) e (parse p (context_at symbol form false left m) (Some i))
hidden_paid plain p c b e k a symbol form left m i l =
    let q : Deeper plain (length symbol) 0 false 0 (levels symbol form.fold_arguments left) = levels_hidden plain symbol form.fold_arguments left in
    let w : LevelIsWithinBudget plain (length symbol) 0 0 false (level_of symbol form.fold_arguments (levels symbol form.fold_arguments left)) = level_paid plain 0 0 symbol form.fold_arguments (levels symbol form.fold_arguments left) false (omega arith) q q in
    paid plain 0 0 p (context_at symbol form false left m) c b e k true a (record { enough = omega arith; here = w; unprinted = w; deeper = q }) i l

pub hidden_unit_paid : (plain : Bool) (kind : Kind) (value : Bool) (symbol : List ℕ) (form : Form) (left m i : ℕ) → i ≤ length symbol →
    LooksWithin plain (length symbol) 0 i (start kind + 0) 8 (unit_outcome (context_at symbol form false left m) kind value (Some i))
hidden_unit_paid plain kind value symbol form left m i l =
    let q : Deeper plain (length symbol) 0 false 0 (levels symbol form.fold_arguments left) = levels_hidden plain symbol form.fold_arguments left in
    level_paid plain 0 0 symbol form.fold_arguments (levels symbol form.fold_arguments left) false (omega arith) q q kind value m i l
