-- What pays for the looks of a parse: the budget of each item.
use Rattle.std.specs.Prelude.{ℕ, zero, suc, ◌≤◌, ◌*◌, ◌||◌, ◌&&◌, if◌then◌else◌, ◌==◌, nat_le, nat_lt, IsTrue, codes}
use Rattle.std.proofs.Common.{◌≡◌, Bool, true, false, cond, List, [], ◌∷◌, length, Some, None, refl, sym, ◌+◌, ◌-◌, subst, arith}
use Rattle.demangle_symbol.specs.Primitives.{Name}
use Rattle.demangle_v0_grammar.specs.Items.{Text, Kind, a_path, a_type, a_pattern, a_trait_path, Items, done, invalid, print, print_plain, byte, namespace, integer, optional, identifier, nibbles, peek, next, if_ok, until_end, raise, unit, child, skip, folded, target, lifetime, binder, leave_open, dyn_trait, bindings}
use Rattle.demangle_v0_grammar.specs.LookBudget.{LookCost, IsWithinBudget}
use Rattle.demangle_v0_grammar.specs.Reading.{Tree, nothing, piece, plain_piece, Place, Outcome, Level, Context, followed_by, folded_by, looks_only, costs_of, text_cost, parse, one_level_deeper, repetitions, angle_if_open, bound_by, unit_outcome, lifetime_at, lifetime_named, letter_of, all_pieces, new_lifetimes, binder_of, binder_at}
use Rattle.demangle_v0_grammar.proofs.BudgetRules.{IsWithinBudget-more, IsWithinBudget-append}

-- the budget with which a production starts, and the budget that it leaves
abbrev pub start : Kind → ℕ
start a_type = 2
start a_trait_path = 2
start _ = 0

abbrev pub is_some_text : Text → Bool
is_some_text [] = false
is_some_text (b ∷ bs) = true

-- 1 for a production that may start another one at its own depth
abbrev pub rank : Kind → ℕ
rank a_pattern = 1
rank a_trait_path = 1
rank _ = 0

-- productions of a rank below r
abbrev pub is_below : ℕ → Kind → Bool
is_below zero kind = false
is_below (suc r) a_pattern = nat_lt 0 r
is_below (suc r) a_trait_path = nat_lt 0 r
is_below (suc r) kind = true

-- any production except a dyn trait path
abbrev pub is_closed : Kind → Bool
is_closed a_trait_path = false
is_closed kind = true

-- Whether the items fit a budget of k looks at the start and e at the end. Each byte that is read adds 17 looks. A
-- primitive costs 4 for each byte and 4 more. `g` says that a nested production may come now, because at least one byte
-- was printed since the previous one. The productions that start before the depth is raised are of a rank below r. If c
-- is true, none leaves a `<` open at the end.
abbrev pub Fits : (c : Bool) (r e k : ℕ) (g : Bool) → Items → Type 0
Fits c r e k g done = e ≤ k
Fits c r e k g invalid = Unit {0}
Fits c r e k g (print t p) = Fits c r e k (g || is_some_text t) p
Fits c r e k g (print_plain t p) = Fits c r e k g p
Fits c r e k g (byte f) = (v : ℕ) → Fits c r e (k + 9) g (f v)
Fits c r e k g (namespace f) = (v : ℕ) → Fits c r e (k + 9) g (f v)
Fits c r e k g (integer f) = (v : ℕ) → Fits c r e (k + 9) g (f v)
Fits c r e k g (optional tag f) = (4 ≤ k) × ((v : ℕ) → Fits c r e (k - 4) g (f v))
Fits c r e k g (identifier f) = (v : Name) → Fits c r e (k + 9) g (f v)
Fits c r e k g (nibbles f) = (v : List ℕ) → Fits c r e (k + 9) g (f v)
Fits c r e k g (peek f) = (1 ≤ k) × ((v : ℕ) → Fits c r e (k - 1) g (f v))
Fits c r e k g (next b p q) = (1 ≤ k) × Fits c r e (k + 16) g p × Fits c r e (k - 1) g q
Fits c r e k g (if_ok p q) = (l : ℕ) × (h : Bool) × Fits c r e k g p × Fits c r e l h q
Fits c r e k g (until_end p q) = (l : ℕ) × (l ≤ k) × (1 ≤ l) × Fits c r l (l - 1) false p × Fits c r e (l + 16) false q
Fits c r e k g (raise p) = Fits c 2 e k g p
Fits c r e k g (unit p q) = (l : ℕ) × Fits c r l k g p × Fits c r e l false q
Fits c r e k g (child kind value p) = (start kind ≤ k) × IsTrue (is_below r kind && g) × Fits c r e 8 false p
Fits c r e k g (skip p) = IsTrue (is_below r a_path) × Fits c r e 8 g p
Fits c r e k g (folded p q) = (l : ℕ) × Fits c r l k g p × Fits c r e l false q
Fits c r e k g (target kind value) = IsTrue ((if c then is_closed kind else true) && g) × (e ≤ k + 9)
Fits c r e k g (lifetime n p) = Fits c r e k g p
Fits c r e k g (binder n p) = Fits c r e k g p
Fits c r e k g (leave_open p) = (c ≡ false) × Fits c r e k g p
Fits c r e k g (dyn_trait p) = (start a_trait_path ≤ k) × IsTrue (is_below r a_trait_path && g) × ((l : ℕ) × (l ≤ 8) × (1 ≤ l) × Fits c r l (l + 25) true p × (e ≤ l - 1))
Fits c r e k g (bindings o p) = IsTrue (is_below r a_trait_path) × (l : ℕ) × (l ≤ k) × (1 ≤ l) × Fits c r l (l + 25) true p × (e ≤ l - 1)

pub first : (a b : Bool) → IsTrue (a && b) → IsTrue a
first true b h = refl
first false b h = h

-- From place i on, of n bytes, `from` and the bytes that are read pay for the entries, and `to` is left.
abbrev pub Ends : (n r i from to : ℕ) → List LookCost → Place → Type 0
Ends n r i from to xs None = IsWithinBudget r (17 * (n + 1 - i) + from) xs 0
Ends n r i from to xs (Some j) = (i ≤ j) × (j ≤ n) × IsWithinBudget r (17 * (j - i) + from) xs to

abbrev pub LooksWithin : Bool → (n r i from to : ℕ) → Outcome → Type 0
LooksWithin plain n r i from to o = Ends n r i from to (costs_of plain o.tree) o.place

-- what is printed after an error costs nothing
abbrev pub Free : Bool → ℕ → Tree → Type 0
Free plain r t = IsWithinBudget r 0 (costs_of plain t) 0

abbrev pub Idle : Bool → ℕ → Outcome → Type 0
Idle plain r o = (o.place ≡ None) × Free plain r o.tree

-- Free trees.

pub free_piece : (plain : Bool) (r : ℕ) (t : Text) (rest : Tree) → Free plain r rest → Free plain r (piece t rest)
free_piece plain r t rest h = (omega arith, IsWithinBudget-more r 0 (0 - 0 + r * length t) 0 0 0 (costs_of plain rest) (omega arith) (omega arith) h)

free_plain : (plain : Bool) (r : ℕ) (t : Text) (rest : Tree) → Free plain r rest → Free plain r (plain_piece t rest)
free_plain true r t rest h = free_piece true r t rest h
free_plain false r t rest h = h

pub free_pieces : (plain : Bool) (r : ℕ) (ts : List Text) (rest : Tree) → Free plain r rest → Free plain r (all_pieces ts rest)
free_pieces plain r [] rest h = h
free_pieces plain r (t ∷ ts) rest h = free_piece plain r t (all_pieces ts rest) (free_pieces plain r ts rest h)

-- a text before the entries
pub paid_puts : (r a b : ℕ) (t : Text) (xs : List LookCost) → IsWithinBudget r a xs b → IsWithinBudget r a (text_cost t ∷ xs) b
paid_puts r a b t xs h = (omega arith, IsWithinBudget-more r a (a - 0 + r * length t) b b 0 xs (omega arith) (omega arith) h)

pub paid_pieces : (plain : Bool) (r a b : ℕ) (ts : List Text) (rest : Tree) → IsWithinBudget r a (costs_of plain rest) b → IsWithinBudget r a (costs_of plain (all_pieces ts rest)) b
paid_pieces plain r a b [] rest h = h
paid_pieces plain r a b (t ∷ ts) rest h = paid_puts r a b t (costs_of plain (all_pieces ts rest)) (paid_pieces plain r a b ts rest h)

paid_new : (plain : Bool) (r a b m n : ℕ) (rest : Tree) → IsWithinBudget r a (costs_of plain rest) b → IsWithinBudget r a (costs_of plain (new_lifetimes m n rest)) b
paid_new plain r a b zero n rest h = h
paid_new plain r a b (suc m) n rest h =
    let after = all_pieces (letter_of n) (new_lifetimes m (n + 1) rest) in
    paid_puts r a b (codes ", ") (costs_of plain (piece (codes "'") after)) (paid_puts r a b (codes "'") (costs_of plain after)
    (paid_pieces plain r a b (letter_of n) (new_lifetimes m (n + 1) rest) (paid_new plain r a b m (n + 1) rest h)))

pub paid_binder : (plain : Bool) (r a b m n : ℕ) (rest : Tree) → IsWithinBudget r a (costs_of plain rest) b → IsWithinBudget r a (costs_of plain (binder_of m n rest)) b
paid_binder plain r a b zero n rest h = h
paid_binder plain r a b (suc m) n rest h =
    let last = new_lifetimes m (n + 1) (piece (codes "> ") rest) in
    let after = all_pieces (letter_of n) last in
    paid_puts r a b (codes "for<") (costs_of plain (piece (codes "'") after)) (paid_puts r a b (codes "'") (costs_of plain after)
    (paid_pieces plain r a b (letter_of n) last (paid_new plain r a b m (n + 1) (piece (codes "> ") rest) (paid_puts r a b (codes "> ") (costs_of plain rest) h))))

-- After an error.

idle_followed : (plain : Bool) (r : ℕ) (o : Outcome) (f : Place → Outcome) → Idle plain r o → Idle plain r (f None) → Idle plain r (followed_by o f)
idle_followed plain r o f h k = let q : Idle plain r (f o.place) = subst (λ z. Idle plain r (f z)) (sym h.0) k in (q.0, IsWithinBudget-append r 0 0 0 (costs_of plain o.tree) (costs_of plain (f o.place).tree) h.1 q.1)

idle_choice : (plain : Bool) (r : ℕ) (b : Bool) (x y : Outcome) → Idle plain r x → Idle plain r y → Idle plain r (cond b x y)
idle_choice plain r true x y p q = p
idle_choice plain r false x y p q = q

idle_lifetime : (plain : Bool) (r : ℕ) (b : Bool) (m k : ℕ) → Idle plain r (lifetime_at b m k None)
idle_lifetime plain r false m k = (refl, omega arith)
idle_lifetime plain r true m k =
    let inner : Idle plain r (lifetime_named m k None) =
    idle_choice plain r (k == 0) _ _ (refl, free_piece plain r (codes "_") nothing (omega arith)) (idle_choice plain r (nat_le k m) _ _ (refl, free_pieces plain r (letter_of (m - k)) nothing (omega arith)) (refl, (omega arith, omega arith))) in
    (inner.0, free_piece plain r (codes "'") (lifetime_named m k None).tree inner.1)

idle_raised : (plain : Bool) (r : ℕ) (ls : List Level) (f : Level → List Level → Place → Outcome) → ((l : Level) (ls : List Level) → Idle plain r (f l ls None)) → Idle plain r (one_level_deeper ls f None)
idle_raised plain r [] f h = (refl, (omega arith, omega arith))
idle_raised plain r (l ∷ ls) f h = h l ls

free_binder : (plain : Bool) (r : ℕ) (c : Bool) (m n : ℕ) (t : Tree) → Free plain r t → Free plain r (binder_at c m n t)
free_binder plain r true m n t h = paid_binder plain r 0 0 m n t h
free_binder plain r false m n t h = h

pub idle_closed : (plain : Bool) (r : ℕ) (o : Bool) → Idle plain r (angle_if_open o None)
idle_closed plain r true = (refl, free_piece plain r (codes ">") nothing (omega arith))
idle_closed plain r false = (refl, omega arith)

-- a part that is read and not printed
pub unheard_pays : (r a b : ℕ) (xs : List LookCost) → IsWithinBudget 0 a xs b → IsWithinBudget r a (looks_only xs) b
unheard_pays r a b [] h = h
unheard_pays r a b (x ∷ xs) h = (h.0, IsWithinBudget-more r (a - x.looks + 0 * x.bytes) (a - x.looks + r * 0) b b 0 (looks_only xs) (omega arith) (omega arith) (unheard_pays r (a - x.looks + 0 * x.bytes) b xs h.1))

idle_folded : (plain : Bool) (r : ℕ) (c : Bool) (x y : Outcome) (f : Place → Outcome) → Idle plain 0 x → Idle plain r y → Idle plain r (f None) → Idle plain r (folded_by c x y f)
idle_folded plain r true x y f h k d =
    let q : Idle plain r (f x.place) = subst (λ z. Idle plain r (f z)) (sym h.0) d in
    (q.0, IsWithinBudget-append r 0 0 0 (looks_only (costs_of plain x.tree)) (costs_of plain (piece (codes "_") (f x.place).tree)) (unheard_pays r 0 0 (costs_of plain x.tree) h.1) (free_piece plain r (codes "_") (f x.place).tree q.1))
idle_folded plain r false x y f h k d = idle_followed plain r y f k d

pub idle : (plain : Bool) (r : ℕ) (p : Items) (s : Context) → Idle plain r (parse p s None)
unfolding parse repetitions bound_by
idle plain r done s = (refl, omega arith)
idle plain r (print t p) s = let q : Idle plain r (parse p s None) = idle plain r p s in (q.0, free_piece plain r t (parse p s None).tree q.1)
idle plain r (print_plain t p) s = let q : Idle plain r (parse p s None) = idle plain r p s in (q.0, free_plain plain r t (parse p s None).tree q.1)
idle plain r (next b p q) s = idle plain r q s
idle plain r (if_ok p q) s = idle plain r q s
idle plain r (until_end p q) s = idle_followed plain r (repetitions (suc (length s.symbol)) s.symbol (parse p s) None) (parse q s) (refl, omega arith) (idle plain r q s)
idle plain r (raise p) s = idle_raised plain r s.deeper (λ l ls. parse p (record s { here = l; deeper = ls })) (λ l ls. idle plain r p (record s { here = l; deeper = ls }))
idle plain r (unit p q) s = idle_followed plain r (parse p s None) (parse q s) (idle plain r p s) (idle plain r q s)
idle plain r (child kind value p) s = idle_followed plain r (unit_outcome s kind value None) (parse p s) (refl, (omega arith, omega arith)) (idle plain r p s)
idle plain r (skip p) s = idle plain r p s
idle plain r (folded p q) s = idle_folded plain r (s.printed && s.folds) (parse p (record s { printed = false }) None) (parse p s None) (parse q s) (idle plain 0 p (record s { printed = false })) (idle plain r p s) (idle plain r q s)
idle plain r (lifetime k p) s = idle_followed plain r (lifetime_at s.printed s.lifetimes k None) (parse p s) (idle_lifetime plain r s.printed s.lifetimes k) (idle plain r p s)
idle plain r (binder m p) s = let q : Idle plain r (parse p (record s { lifetimes = s.lifetimes + m }) None) = idle plain r p (record s { lifetimes = s.lifetimes + m }) in (q.0, free_binder plain r s.printed m s.lifetimes (parse p (record s { lifetimes = s.lifetimes + m }) None).tree q.1)
idle plain r (leave_open p) s = let q : Idle plain r (parse p s None) = idle plain r p s in (q.0, q.1)
idle plain r (dyn_trait p) s = idle_followed plain r (unit_outcome s a_trait_path false None) (bound_by (suc (length s.symbol)) s (parse p s) false) (refl, (omega arith, omega arith)) (idle_closed plain r false)
idle plain r (bindings o p) s = idle_closed plain r o
idle _ _ _ _ = (refl, (omega arith, omega arith))
