-- A production ends no earlier than it starts, and within the symbol.
use Rattle.std.specs.Prelude.{ℕ, zero, suc, ◌&&◌, ◌≤◌, codes, slice_get, ◌==◌, nat_le}
use Rattle.std.proofs.Common.{◌≡◌, Bool, true, false, cond, List, [], ◌∷◌, length, Option, Some, None, refl, subst, sym, ◌+◌, ◌-◌, arith}
use Prim.Native.Char.{code}
use Rattle.demangle_symbol.specs.Digits.{is_byte}
use Rattle.demangle_symbol.specs.Primitives.{Name, Read, byte_at, namespace_at, integer_at, optional_at, backref_at, identifier_at, nibbles_at}
use Rattle.demangle_symbol.proofs.Counts.{Placed, byte_placed, namespace_placed, integer_placed, optional_placed, backref_placed, identifier_placed, nibbles_placed}
use Rattle.demangle_v0_grammar.specs.Items.{Text, Kind, a_path, a_trait_path, Items, done, invalid, print, print_plain, byte, namespace, integer, optional, identifier, nibbles, peek, next, if_ok, until_end, raise, unit, child, skip, folded, target, lifetime, binder, leave_open, dyn_trait, bindings}
use Rattle.demangle_v0_grammar.specs.Table.{items}
use Rattle.demangle_v0_grammar.specs.Reading.{piece, Place, Outcome, Level, Context, at_place, with_tree, primitive, followed_by, parse, primitive_outcome, peek_outcome, byte_choice, one_level_deeper, repetitions, angle_if_open, binding_separator, name_equals, bound_by, unit_outcome, folded_by, target_of, target_read, lifetime_at, lifetime_named, letter_of, all_pieces, nothing, level_of, levels, nowhere}
use Rattle.demangle_v0_grammar.proofs.Failed.{failed, bound_failed}
use Rattle.demangle_v0_grammar.proofs.Repetitions.{Within, within_later}
use Rattle.demangle_v0_grammar.proofs.SpelledIsParsed.{there_placed}

abbrev pub LevelOn : List ℕ → Level → Type 0
LevelOn b l = (printed : Bool) (kind : Kind) (value : Bool) (m i : ℕ) → i ≤ length b → Within b i (l printed kind value m i).place

abbrev pub AllOn : List ℕ → List Level → Type 0
AllOn b [] = Unit {0}
AllOn b (l ∷ ls) = LevelOn b l × AllOn b ls

abbrev pub Stays : List ℕ → (Place → Outcome) → Type 0
Stays b f = (i : ℕ) → i ≤ length b → Within b i (f (Some i)).place

pub primitive_on : {A : Type 0} (b : List ℕ) (n i low : ℕ) (q : Read A) (f : A → Place → Outcome) → i ≤ low → Placed low b q → ((v : A) (j : ℕ) → low ≤ j → j ≤ length b → Within b j (f v (Some j)).place) → Within b i (primitive_outcome n i f q).place
primitive_on b n i low None f l p h = tt
primitive_on b n i low (Some r) f l p h = within_later b i r.1 (f r.0 (Some r.1)).place (omega (arith, l, p.0)) (h r.0 r.1 p.0 p.1)

pub rest_on : (b : List ℕ) (i : ℕ) (x : Place) (f : Place → Outcome) → Within b i x → Stays b f → (f None).place ≡ None → Within b i (f x).place
rest_on b i None f w h e = subst (λ y. Within b i y) (sym e) tt
rest_on b i (Some j) f w h e = within_later b i j (f (Some j)).place w.0 (h j w.1)

fork_on : (b : List ℕ) (c : Bool) (f g : Place → Outcome) (i : ℕ) → (c ≡ true → i + 1 ≤ length b) → i ≤ length b → Stays b f → Within b i (g (Some i)).place → Within b i (byte_choice c f g (Some i)).place
fork_on b true f g i t l h k = within_later b i (i + 1) (f (Some (i + 1))).place (omega arith) (h (i + 1) (t refl))
fork_on b false f g i t l h k = k

pub here_on : (b : List ℕ) → Stays b at_place
here_on b i l = (omega arith, l)

peek_on : (b : List ℕ) (i : ℕ) (f : ℕ → Outcome) (r : Option ℕ) → ((v : ℕ) → Within b i (f v).place) → Within b i (peek_outcome f r).place
peek_on b i f None h = tt
peek_on b i f (Some v) h = h v

pub turns_on : (n : ℕ) (b : List ℕ) (f : Place → Outcome) → Stays b f → Stays b (repetitions n b f)
unfolding repetitions
turns_on zero b f h i l = tt
turns_on (suc n) b f h i l =
    fork_on b (is_byte b i (code "E")) at_place (λ j. followed_by (f j) (repetitions n b f)) i (there_placed b (code "E") i) l (here_on b)
    (rest_on b i (f (Some i)).place (repetitions n b f) (h i l) (turns_on n b f h) refl)

angle_on : (b : List ℕ) (o : Bool) → Stays b (angle_if_open o)
angle_on b true i l = (omega arith, l)
angle_on b false i l = (omega arith, l)

pub bound_on : (n : ℕ) (s : Context) (f : Place → Outcome) → Stays s.symbol f → (o : Bool) → Stays s.symbol (bound_by n s f o)
unfolding bound_by
bound_on zero s f h o i l = tt
bound_on (suc n) s f h o i l =
    let one : Name → Place → Outcome = λ a x. with_tree (name_equals a) (followed_by (f x) (bound_by n s f true)) in
    fork_on s.symbol (is_byte s.symbol i (code "p")) (λ j. with_tree (binding_separator o) (primitive s j identifier_at one)) (angle_if_open o) i (there_placed s.symbol (code "p") i) l
    (λ j m. primitive_on s.symbol (length s.symbol) j (j + 1) (identifier_at s.symbol j) one (omega arith) (identifier_placed s.symbol j)
    (λ a k p q. rest_on s.symbol k (f (Some k)).place (bound_by n s f true) (h k q) (bound_on n s f h true) (bound_failed n s f true)))
    (angle_on s.symbol o i l)

pub folded_on : (b : List ℕ) (i : ℕ) (c : Bool) (x y : Outcome) (f : Place → Outcome) → Within b i x.place → Within b i y.place → Stays b f → (f None).place ≡ None → Within b i (folded_by c x y f).place
folded_on b i true x y f w v h e = rest_on b i x.place f w h e
folded_on b i false x y f w v h e = rest_on b i y.place f v h e

pub target_on : (b : List ℕ) (pr : Bool) (ls : List Level) (kind : Kind) (value : Bool) (m t j : ℕ) → j ≤ length b → Within b j (target_of ls (λ level. target_read pr (level true kind value m) t (Some j))).place
target_on b pr [] kind value m t j l = tt
target_on b true (x ∷ ls) kind value m t j l = (omega arith, l)
target_on b false (x ∷ ls) kind value m t j l = (omega arith, l)

named_on : (b : List ℕ) (c d : Bool) (n k i : ℕ) → i ≤ length b → Within b i (cond c (with_tree (piece (codes "_")) (at_place (Some i))) (cond d (with_tree (all_pieces (letter_of (n - k))) (at_place (Some i))) (record { tree = Rattle.demangle_v0_grammar.specs.Reading.invalid_syntax; place = None; is_bracket_open = false }))).place
named_on b true d n k i l = (omega arith, l)
named_on b false true n k i l = (omega arith, l)
named_on b false false n k i l = tt

pub lifetime_on : (b : List ℕ) (out : Bool) (n k i : ℕ) → i ≤ length b → Within b i (lifetime_at out n k (Some i)).place
lifetime_on b false n k i l = (omega arith, l)
lifetime_on b true n k i l = named_on b (k == 0) (nat_le k n) n k i l

raised_on : (b : List ℕ) (ls : List Level) (f : Level → List Level → Place → Outcome) (i : ℕ) → AllOn b ls → ((l : Level) (ls : List Level) → LevelOn b l → AllOn b ls → Within b i (f l ls (Some i)).place) → Within b i (one_level_deeper ls f (Some i)).place
raised_on b [] f i d h = tt
raised_on b (l ∷ ls) f i d h = h l ls d.0 d.1

pub unit_on : (s : Context) (kind : Kind) (value : Bool) → LevelOn s.symbol s.here → Stays s.symbol (unit_outcome s kind value)
unit_on s kind value h i l = h s.printed kind value s.lifetimes i l

pub forward : (p : Items) (s : Context) → LevelOn s.symbol s.here → AllOn s.symbol s.deeper → Stays s.symbol (parse p s)
unfolding parse
forward done s h d i l = (omega arith, l)
forward invalid s h d i l = tt
forward (print t p) s h d i l = forward p s h d i l
forward (print_plain t p) s h d i l = forward p s h d i l
forward (byte f) s h d i l = primitive_on s.symbol (length s.symbol) i (i + 1) (byte_at s.symbol i) (λ v. parse (f v) s) (omega arith) (byte_placed s.symbol i) (λ v j p q. forward (f v) s h d j q)
forward (namespace f) s h d i l = primitive_on s.symbol (length s.symbol) i (i + 1) (namespace_at s.symbol i) (λ v. parse (f v) s) (omega arith) (namespace_placed s.symbol i) (λ v j p q. forward (f v) s h d j q)
forward (integer f) s h d i l = primitive_on s.symbol (length s.symbol) i (i + 1) (integer_at s.symbol i) (λ v. parse (f v) s) (omega arith) (integer_placed s.symbol i) (λ v j p q. forward (f v) s h d j q)
forward (optional tag f) s h d i l = primitive_on s.symbol (length s.symbol) i i (optional_at tag s.symbol i) (λ v. parse (f v) s) (omega arith) (optional_placed tag s.symbol i l) (λ v j p q. forward (f v) s h d j q)
forward (identifier f) s h d i l = primitive_on s.symbol (length s.symbol) i (i + 1) (identifier_at s.symbol i) (λ v. parse (f v) s) (omega arith) (identifier_placed s.symbol i) (λ v j p q. forward (f v) s h d j q)
forward (nibbles f) s h d i l = primitive_on s.symbol (length s.symbol) i (i + 1) (nibbles_at s.symbol i) (λ v. parse (f v) s) (omega arith) (nibbles_placed s.symbol i) (λ v j p q. forward (f v) s h d j q)
forward (peek f) s h d i l = peek_on s.symbol i (λ v. parse (f v) s (Some i)) (slice_get s.symbol i) (λ v. forward (f v) s h d i l)
forward (next b p q) s h d i l = fork_on s.symbol (is_byte s.symbol i b) (parse p s) (parse q s) i (there_placed s.symbol b i) l (forward p s h d) (forward q s h d i l)
forward (if_ok p q) s h d i l = forward p s h d i l
forward (until_end p q) s h d i l =
    rest_on s.symbol i (repetitions (suc (length s.symbol)) s.symbol (parse p s) (Some i)).place (parse q s) (turns_on (suc (length s.symbol)) s.symbol (parse p s) (forward p s h d) i l) (forward q s h d) (failed q s)
forward (raise p) s h d i l = raised_on s.symbol s.deeper (λ level levels. parse p (record s { here = level; deeper = levels })) i d (λ x xs e f. forward p (record s { here = x; deeper = xs }) e f i l)
forward (unit p q) s h d i l = rest_on s.symbol i (parse p s (Some i)).place (parse q s) (forward p s h d i l) (forward q s h d) (failed q s)
forward (child kind value p) s h d i l = rest_on s.symbol i (unit_outcome s kind value (Some i)).place (parse p s) (unit_on s kind value h i l) (forward p s h d) (failed p s)
forward (skip p) s h d i l = rest_on s.symbol i (s.here false a_path false s.lifetimes i).place (parse p s) (h false a_path false s.lifetimes i l) (forward p s h d) (failed p s)
forward (folded p q) s h d i l =
    folded_on s.symbol i (s.printed && s.folds) (parse p (record s { printed = false }) (Some i)) (parse p s (Some i)) (parse q s) (forward p (record s { printed = false }) h d i l) (forward p s h d i l) (forward q s h d) (failed q s)
forward (target kind value) s h d i l =
    primitive_on s.symbol (length s.symbol) i (i + 1) (backref_at s.symbol i) (λ t j. target_of s.deeper (λ level. target_read s.printed (level true kind value s.lifetimes) t j)) (omega arith) (backref_placed s.symbol i) (λ t j p q. target_on s.symbol s.printed s.deeper kind value s.lifetimes t j q)
forward (lifetime k p) s h d i l = rest_on s.symbol i (lifetime_at s.printed s.lifetimes k (Some i)).place (parse p s) (lifetime_on s.symbol s.printed s.lifetimes k i l) (forward p s h d) (failed p s)
forward (binder m p) s h d i l = forward p (record s { lifetimes = s.lifetimes + m }) h d i l
forward (leave_open p) s h d i l = forward p s h d i l
forward (dyn_trait p) s h d i l =
    let o : Outcome = unit_outcome s a_trait_path false (Some i) in
    rest_on s.symbol i o.place (bound_by (suc (length s.symbol)) s (parse p s) o.is_bracket_open) (unit_on s a_trait_path false h i l) (bound_on (suc (length s.symbol)) s (parse p s) (forward p s h d) o.is_bracket_open) (bound_failed (suc (length s.symbol)) s (parse p s) o.is_bracket_open)
forward (bindings o p) s h d i l = bound_on (suc (length s.symbol)) s (parse p s) (forward p s h d) o i l

pub nowhere_on : (b : List ℕ) → LevelOn b nowhere
nowhere_on b printed kind value m i l = tt

pub inner_on : (b : List ℕ) (folds : Bool) (ls : List Level) → AllOn b ls → LevelOn b (λ printed kind value m i. parse (items kind value) (record { symbol = b; folds = folds; printed = printed; here = nowhere; deeper = ls; lifetimes = m }) (Some i))
inner_on b folds ls d printed kind value m i l = forward (items kind value) (record { symbol = b; folds = folds; printed = printed; here = nowhere; deeper = ls; lifetimes = m }) (nowhere_on b) d i l

level_on : (b : List ℕ) (folds : Bool) (ls : List Level) → AllOn b ls → LevelOn b (level_of b folds ls)
unfolding level_of
level_on b folds ls d printed kind value m i l =
    let inner : Level = λ pr k v n j. parse (items k v) (record { symbol = b; folds = folds; printed = pr; here = nowhere; deeper = ls; lifetimes = n }) (Some j) in
    forward (items kind value) (record { symbol = b; folds = folds; printed = printed; here = inner; deeper = ls; lifetimes = m }) (inner_on b folds ls d) d i l

pub levels_on : (b : List ℕ) (folds : Bool) (n : ℕ) → AllOn b (levels b folds n)
unfolding levels
levels_on b folds zero = tt
levels_on b folds (suc n) = (level_on b folds (levels b folds n) (levels_on b folds n), levels_on b folds n)
