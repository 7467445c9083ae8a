-- The bound on repetitions has no effect if each one reads a byte.
use Rattle.std.specs.Prelude.{ℕ, zero, suc, ◌<◌, ◌≤◌}
use Rattle.std.proofs.Common.{◌≡◌, Bool, true, false, List, length, Some, None, refl, ap, ◌+◌, ◌-◌, ◌*◌, sym, subst, arith}
use Prim.Native.Char.{code}
use Rattle.demangle_symbol.specs.Digits.{is_byte}
use Rattle.demangle_symbol.specs.Primitives.{Name, Read, identifier_at}
use Rattle.demangle_v0_grammar.specs.Items.{Items}
use Rattle.demangle_v0_grammar.specs.Reading.{looked, node, Place, Outcome, Context, parse, repetitions, at_place, with_tree, primitive, primitive_outcome, byte_choice, followed_by, angle_if_open, binding_separator, name_equals, bound_by}
use Rattle.demangle_v0_grammar.proofs.ParsedIsSpelled.{SpeltAt, SpeltBelow, spelt}
use Rattle.demangle_symbol.proofs.Counts.{Placed, placed, identifier_placed}
use Rattle.demangle_v0_grammar.proofs.ItemBudgets.{Fits}
use Rattle.demangle_v0_grammar.proofs.SpelledIsParsed.{grows}

abbrev pub Within : List ℕ → ℕ → Place → Type 0
Within symbol low None = Unit {0}
Within symbol low (Some j) = (low ≤ j) × (j ≤ length symbol)

abbrev pub Advances : List ℕ → (Place → Outcome) → Type 0
Advances symbol f = (i : ℕ) → i ≤ length symbol → Within symbol (i + 1) (f (Some i)).place

fork_same : (c : Bool) (f g f' g' : Place → Outcome) (i : ℕ) → (c ≡ true → f (Some (i + 1)) ≡ g (Some (i + 1))) → (c ≡ false → f' (Some i) ≡ g' (Some i)) → byte_choice c f f' (Some i) ≡ byte_choice c g g' (Some i)
fork_same true f g f' g' i h k = ap (λ o. with_tree (looked 1) o) (h refl)
fork_same false f g f' g' i h k = ap (λ o. with_tree (looked 1) o) (k refl)

abbrev pub Covers : List ℕ → Place → ℕ → Type 0
Covers symbol None n = Unit {0}
Covers symbol (Some i) n = (i ≤ length symbol) × (suc (length symbol) ≤ n + i)

covers_next : (symbol : List ℕ) (n i : ℕ) (x : Place) → Within symbol (i + 1) x → suc (length symbol) ≤ suc n + i → Covers symbol x n
covers_next symbol n i None w h = tt
covers_next symbol n i (Some j) w h = (w.1, omega (arith, w.0, h))

pub more_repetitions : (j k : ℕ) (symbol : List ℕ) (f : Place → Outcome) → Advances symbol f → (x : Place) → Covers symbol x j → Covers symbol x k → repetitions j symbol f x ≡ repetitions k symbol f x
unfolding repetitions
more_repetitions j k symbol f a None h g = refl
more_repetitions zero k symbol f a (Some i) h g = absurd (omega (arith, h.0, h.1))
more_repetitions (suc j) zero symbol f a (Some i) h g = absurd (omega (arith, g.0, g.1))
more_repetitions (suc j) (suc k) symbol f a (Some i) h g =
    let w : Within symbol (i + 1) (f (Some i)).place = a i h.0 in
    let more : repetitions j symbol f (f (Some i)).place ≡ repetitions k symbol f (f (Some i)).place =
    more_repetitions j k symbol f a (f (Some i)).place (covers_next symbol j i (f (Some i)).place w h.1) (covers_next symbol k i (f (Some i)).place w g.1) in
    fork_same (is_byte symbol i (code "E")) at_place at_place (λ m. followed_by (f m) (repetitions j symbol f)) (λ m. followed_by (f m) (repetitions k symbol f)) i (λ _. refl) (λ _. ap (λ o. with_tree (node (f (Some i)).tree) o) more)

-- all repetitions
abbrev pub all_repetitions : List ℕ → (Place → Outcome) → Place → Outcome
all_repetitions symbol f = repetitions (suc (length symbol)) symbol f

-- one repetition, and all further ones
pub repetitions_on : (symbol : List ℕ) (f : Place → Outcome) (i : ℕ) → Advances symbol f → i ≤ length symbol → is_byte symbol i (code "E") ≡ false →
    all_repetitions symbol f (Some i) ≡ with_tree (looked 1) (followed_by (f (Some i)) (all_repetitions symbol f))
unfolding repetitions
repetitions_on symbol f i a l e =
    let w : Within symbol (i + 1) (f (Some i)).place = a i l in
    subst (λ c. byte_choice c at_place (λ m. followed_by (f m) (repetitions (length symbol) symbol f)) (Some i) ≡ with_tree (looked 1) (followed_by (f (Some i)) (all_repetitions symbol f))) (sym e)
    (ap (λ o. with_tree (looked 1) (with_tree (node (f (Some i)).tree) o)) (more_repetitions (length symbol) (suc (length symbol)) symbol f a (f (Some i)).place
    (covers_next symbol (length symbol) i (f (Some i)).place w (omega arith)) (covers_next symbol (suc (length symbol)) i (f (Some i)).place w (omega arith))))

-- items that end with a larger budget than they started with end at a later place
pub advances : (p : Items) (s : Context) (d : ℕ) (c : Bool) (r e k : ℕ) (g : Bool) → Fits c r e k g p → k < e → SpeltAt s.symbol s.folds d s.here → SpeltBelow s.symbol s.folds d s.deeper → Advances s.symbol (parse p s)
advances p s d c r e k g f m h b i l = go (parse p s (Some i)).place refl
  where
    go : (x : Place) → (parse p s (Some i)).place ≡ x → Within s.symbol (i + 1) x
    go None q = tt
    go (Some j) q = let y = grows c r e k g f (spelt p s d h b i j q) l in (omega (arith, m, y.0, y.2), y.1)

-- the value of a binding ends no earlier than it starts
abbrev pub Keeps : List ℕ → (Place → Outcome) → Type 0
Keeps symbol f = (i : ℕ) → i ≤ length symbol → Within symbol i (f (Some i)).place

pub within_later : (symbol : List ℕ) (low high : ℕ) (x : Place) → low ≤ high → Within symbol high x → Within symbol low x
within_later symbol low high None l h = tt
within_later symbol low high (Some j) l h = (omega (arith, l, h.0), h.1)

named_same : (s : Context) (i : ℕ) (f g : Name → Place → Outcome) (r : Read Name) → Placed (i + 1) s.symbol r → ((a : Name) (j : ℕ) → i + 1 ≤ j → j ≤ length s.symbol → f a (Some j) ≡ g a (Some j)) → primitive_outcome (length s.symbol) i f r ≡ primitive_outcome (length s.symbol) i g r
named_same s i f g None p h = refl
named_same s i f g (Some r) p h = ap (λ o. with_tree (looked (4 * (r.1 - i + 1))) o) (h r.0 r.1 p.0 p.1)

pub more_bindings : (j k : ℕ) (s : Context) (f : Place → Outcome) → Keeps s.symbol f → (o : Bool) (x : Place) → Covers s.symbol x j → Covers s.symbol x k → bound_by j s f o x ≡ bound_by k s f o x
unfolding bound_by
more_bindings j k s f a o None h l = refl
more_bindings zero k s f a o (Some i) h l = absurd (omega (arith, h.0, h.1))
more_bindings (suc j) zero s f a o (Some i) h l = absurd (omega (arith, l.0, l.1))
more_bindings (suc j) (suc k) s f a o (Some i) h l =
    fork_same (is_byte s.symbol i (code "p"))
    (λ z. with_tree (binding_separator o) (primitive s z identifier_at (λ b m. with_tree (name_equals b) (followed_by (f m) (bound_by j s f true)))))
    (λ z. with_tree (binding_separator o) (primitive s z identifier_at (λ b m. with_tree (name_equals b) (followed_by (f m) (bound_by k s f true))))) (angle_if_open o) (angle_if_open o) i
    (λ _. ap (λ z. with_tree (binding_separator o) z) (named_same s (i + 1) (λ b m. with_tree (name_equals b) (followed_by (f m) (bound_by j s f true))) (λ b m. with_tree (name_equals b) (followed_by (f m) (bound_by k s f true))) (identifier_at s.symbol (i + 1)) (identifier_placed s.symbol (i + 1))
    (λ b m p q. ap (λ z. with_tree (name_equals b) (with_tree (node (f (Some m)).tree) z))
    (more_bindings j k s f a true (f (Some m)).place (covers_next s.symbol j i (f (Some m)).place (within_later s.symbol (i + 1) m (f (Some m)).place (omega (arith, p)) (a m q)) h.1) (covers_next s.symbol k i (f (Some m)).place (within_later s.symbol (i + 1) m (f (Some m)).place (omega (arith, p)) (a m q)) l.1)))))
    (λ _. refl)

-- all bindings
abbrev pub all_bindings : Context → (Place → Outcome) → Bool → Place → Outcome
all_bindings s f = bound_by (suc (length s.symbol)) s f

-- one binding, and all further ones
pub bindings_on : (s : Context) (f : Place → Outcome) (o : Bool) (i k : ℕ) (a : Name) → Keeps s.symbol f → is_byte s.symbol i (code "p") ≡ true → identifier_at s.symbol (i + 1) ≡ Some (a, k) →
    all_bindings s f o (Some i) ≡ with_tree (looked 1) (with_tree (binding_separator o) (with_tree (looked (4 * (k - (i + 1) + 1))) (with_tree (name_equals a) (followed_by (f (Some k)) (all_bindings s f true)))))
unfolding bound_by
bindings_on s f o i k a keeps e w =
    let p : (i + 1 + 1 ≤ k) × (k ≤ length s.symbol) = placed (i + 1 + 1) s.symbol (identifier_at s.symbol (i + 1)) (identifier_placed s.symbol (i + 1)) a k w in
    let h : Within s.symbol k (f (Some k)).place = keeps k p.1 in
    let same : bound_by (length s.symbol) s f true (f (Some k)).place ≡ all_bindings s f true (f (Some k)).place =
    more_bindings (length s.symbol) (suc (length s.symbol)) s f keeps true (f (Some k)).place
    (covers_next s.symbol (length s.symbol) i (f (Some k)).place (within_later s.symbol (i + 1) k (f (Some k)).place (omega (arith, p.0)) h) (omega arith))
    (covers_next s.symbol (suc (length s.symbol)) i (f (Some k)).place (within_later s.symbol (i + 1) k (f (Some k)).place (omega (arith, p.0)) h) (omega arith)) in
    subst (λ c. byte_choice c (λ z. with_tree (binding_separator o) (primitive s z identifier_at (λ b m. with_tree (name_equals b) (followed_by (f m) (bound_by (length s.symbol) s f true))))) (angle_if_open o) (Some i)
    ≡ with_tree (looked 1) (with_tree (binding_separator o) (with_tree (looked (4 * (k - (i + 1) + 1))) (with_tree (name_equals a) (followed_by (f (Some k)) (all_bindings s f true)))))) (sym e)
    (subst (λ r. with_tree (looked 1) (with_tree (binding_separator o) (primitive_outcome (length s.symbol) (i + 1) (λ b m. with_tree (name_equals b) (followed_by (f m) (bound_by (length s.symbol) s f true))) r))
    ≡ with_tree (looked 1) (with_tree (binding_separator o) (with_tree (looked (4 * (k - (i + 1) + 1))) (with_tree (name_equals a) (followed_by (f (Some k)) (all_bindings s f true)))))) (sym w)
    (ap (λ z. with_tree (looked 1) (with_tree (binding_separator o) (with_tree (looked (4 * (k - (i + 1) + 1))) (with_tree (name_equals a) (with_tree (node (f (Some k)).tree) z))))) same))
