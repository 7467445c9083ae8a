-- If a parse ends, the grammar spells its bytes. If it prints, they are spelled by the rule that requires named
-- lifetimes.
use Rattle.std.specs.Prelude.{ℕ, zero, suc, ◌<◌, ◌≤◌, ◌==◌, ◌&&◌, nat_le, codes, slice_get}
use Rattle.std.proofs.Common.{◌≡◌, Bool, true, false, cond, List, [], ◌∷◌, length, Option, Some, None, refl, sym, ◌∙◌, ◌+◌, ◌-◌, subst, arith}
use Rattle.std.proofs.lemmas.Bool.{leb-true, eqb-true}
use Prim.Native.Char.{code}
use Rattle.demangle_symbol.specs.Digits.{is_byte}
use Rattle.demangle_symbol.specs.Primitives.{Read, byte_at, namespace_at, integer_at, optional_at, backref_at, identifier_at, nibbles_at}
use Rattle.demangle_v0_grammar.specs.Items.{Kind, a_path, a_trait_path, Items, done, invalid, print, print_plain, byte, namespace, integer, optional, identifier, nibbles, peek, next, if_ok, until_end, raise, unit, child, skip, folded, target, lifetime, binder, leave_open, dyn_trait, bindings}
use Rattle.demangle_v0_grammar.specs.Table.{items}
use Rattle.demangle_v0_grammar.specs.Reading.{invalid_syntax, piece, Place, failed_with, all_pieces, letter_of, lifetime_at, Outcome, Level, Context, parse, repetitions, at_place, with_tree, primitive, followed_by, followed_open, unit_outcome, folded_by, angle_if_open, binding_separator, name_equals, bound_by, target_of, target_read, primitive_outcome, peek_outcome, byte_choice, one_level_deeper, max_depth, level_of, levels, nowhere, read_at}
use Rattle.demangle_v0_grammar.specs.Spelling.{Rule, freely, named as by_name, named_outside, MayName, MayRefer, Spells, end_, say_, plain_, byte_, namespace_, integer_, optional_, identifier_, nibbles_, peek_, there, other, sound_, over_, repetition_, raise_, unit_, child_, skip_, folded_, target_, lifetime_, binder_, opens_, dyn_, past_, bound_}
use Rattle.demangle_v0_grammar.proofs.Failed.{failed, closed_place, bound_failed}

-- the rule for a production, printed or not, with folded arguments or not
abbrev pub rule : (printed folds : Bool) → Rule
rule false folds = freely
rule true false = by_name
rule true true = named_outside

pub rule_names : (folds : Bool) (m k : ℕ) → MayName (rule true folds) m k → k ≤ m
rule_names true m k h = h
rule_names false m k h = h

names_rule : (folds : Bool) (m k : ℕ) → k ≤ m → MayName (rule true folds) m k
names_rule true m k h = h
names_rule false m k h = h

abbrev pub Spelt : List ℕ → Bool → Bool → ℕ → ℕ → Items → (ℕ → Outcome) → Type 0
Spelt symbol folds c d m p f = (i j : ℕ) → (f i).place ≡ Some j → Spells symbol (rule c folds) d m p i j

abbrev pub SpeltAt : List ℕ → Bool → ℕ → Level → Type 0
SpeltAt symbol folds d l = (c : Bool) (kind : Kind) (value : Bool) (n : ℕ) → Spelt symbol folds c d n (items kind value) (l c kind value n)

abbrev pub SpeltBelow : List ℕ → Bool → ℕ → List Level → Type 0
SpeltBelow symbol folds d [] = Unit {0}
SpeltBelow symbol folds d (l ∷ ls) = (d < max_depth) × SpeltAt symbol folds (d + 1) l × SpeltBelow symbol folds (d + 1) ls

some_same : {x y : ℕ} → Some x ≡ Some y → x ≡ y
some_same e = cc e

-- the rest, after a place that was reached
onward : {X : Type 0} (f : Place → Outcome) (x : Place) (j : ℕ) → (f None).place ≡ None → (f x).place ≡ Some j → ((k : ℕ) → x ≡ Some k → (f (Some k)).place ≡ Some j → X) → X
onward f None j h e g = absurd (cc (sym h ∙ e))
onward f (Some k) j h e g = g k refl e

resumed_spelt : {A X : Type 0} (m i j : ℕ) (f : A → Place → Outcome) (r : Read A) → (primitive_outcome m i f r).place ≡ Some j → ((v : A) (k : ℕ) → r ≡ Some (v, k) → (f v (Some k)).place ≡ Some j → X) → X
resumed_spelt m i j f None e g = absurd (cc e)
resumed_spelt m i j f (Some r) e g = g r.0 r.1 refl e

peeked_spelt : {X : Type 0} (j : ℕ) (f : ℕ → Outcome) (r : Option ℕ) → (peek_outcome f r).place ≡ Some j → ((v : ℕ) → r ≡ Some v → (f v).place ≡ Some j → X) → X
peeked_spelt j f None e g = absurd (cc e)
peeked_spelt j f (Some r) e g = g r refl e

forked_spelt : {X : Type 0} (c : Bool) (f g : Place → Outcome) (i j : ℕ) → (byte_choice c f g (Some i)).place ≡ Some j → (c ≡ true → (f (Some (i + 1))).place ≡ Some j → X) → (c ≡ false → (g (Some i)).place ≡ Some j → X) → X
forked_spelt true f g i j e h k = h refl e
forked_spelt false f g i j e h k = k refl e

-- if the repetitions end and the rest ends, they are spelled
repetitions_spelt : (n : ℕ) (symbol : List ℕ) (folds c : Bool) (d m : ℕ) (p q : Items) (f : Place → Outcome) → Spelt symbol folds c d m p (λ i. f (Some i)) → (i k j : ℕ) → (repetitions n symbol f (Some i)).place ≡ Some k → Spells symbol (rule c folds) d m q k j → Spells symbol (rule c folds) d m (until_end p q) i j
unfolding repetitions
repetitions_spelt zero symbol folds c d m p q f h i k j e a = absurd (cc e)
repetitions_spelt (suc n) symbol folds c d m p q f h i k j e a =
    forked_spelt (is_byte symbol i (code "E")) at_place (λ x. followed_by (f x) (repetitions n symbol f)) i k e
    (λ u r. over_ u (subst (λ x. Spells symbol (rule c folds) d m q x j) (sym (some_same r)) a))
    (λ u r. onward (repetitions n symbol f) (f (Some i)).place k refl r (λ x y z. repetition_ u (h i x y) (repetitions_spelt n symbol folds c d m p q f h x k j z a)))

-- if bindings end, they are spelled
bound_spelt : (n : ℕ) (s : Context) (c : Bool) (d m : ℕ) (p : Items) (f : Place → Outcome) → Spelt s.symbol s.folds c d m p (λ i. f (Some i)) → (o x : Bool) (i j : ℕ) → (bound_by n s f o (Some i)).place ≡ Some j → Spells s.symbol (rule c s.folds) d m (bindings x p) i j
unfolding bound_by
bound_spelt zero s c d m p f h o x i j e = absurd (cc e)
bound_spelt (suc n) s c d m p f h o x i j e =
    forked_spelt (is_byte s.symbol i (code "p")) (λ k. with_tree (binding_separator o) (primitive s k identifier_at (λ a k. with_tree (name_equals a) (followed_by (f k) (bound_by n s f true))))) (angle_if_open o) i j e
    (λ u r. resumed_spelt (length s.symbol) (i + 1) j (λ a k. with_tree (name_equals a) (followed_by (f k) (bound_by n s f true))) (identifier_at s.symbol (i + 1)) r
    (λ a k w y. onward (bound_by n s f true) (f (Some k)).place j (bound_failed n s f true) y (λ l z v. bound_ a u w (h k l z) (bound_spelt n s c d m p f h true true l j v))))
    (λ u r. subst (λ k. Spells s.symbol (rule c s.folds) d m (bindings x p) i k) (some_same (sym (closed_place o (Some i)) ∙ r)) (past_ u))

raised_spelt : {X : Type 0} (symbol : List ℕ) (folds : Bool) (d : ℕ) (ls : List Level) (f : Level → List Level → Place → Outcome) (i j : ℕ) → SpeltBelow symbol folds d ls → (one_level_deeper ls f (Some i)).place ≡ Some j → ((l : Level) (ls : List Level) → d < max_depth → SpeltAt symbol folds (d + 1) l → SpeltBelow symbol folds (d + 1) ls → (f l ls (Some i)).place ≡ Some j → X) → X
raised_spelt symbol folds d [] f i j m e g = absurd (cc e)
raised_spelt symbol folds d (l ∷ ls) f i j m e g = g l ls m.0 m.1 m.2 e

target_spelt : {X : Type 0} (symbol : List ℕ) (folds : Bool) (d : ℕ) (c : Bool) (ls : List Level) (f : Level → ℕ → Outcome) (t k j : ℕ) → SpeltBelow symbol folds d ls → (target_of ls (λ l. target_read c (f l) t (Some k))).place ≡ Some j → (d < max_depth → k ≡ j → X) → X
target_spelt symbol folds d c [] f t k j m e g = absurd (cc e)
target_spelt symbol folds d true (l ∷ ls) f t k j m e g = g m.0 (some_same e)
target_spelt symbol folds d false (l ∷ ls) f t k j m e g = g m.0 (some_same e)

may_refer : (c folds : Bool) → MayRefer (rule c folds)
may_refer true true = tt
may_refer true false = tt
may_refer false folds = tt

-- if a lifetime ends, it may be named
lifetime_spelt : {X : Type 0} (folds c : Bool) (m k i : ℕ) (x : Place) → (lifetime_at c m k (Some i)).place ≡ x → (MayName (rule c folds) m k → x ≡ Some i → X) → (x ≡ None → X) → X
lifetime_spelt folds false m k i x e g h = g tt (sym e)
lifetime_spelt {X} folds true m k i x e g h = go (k == 0) (nat_le k m) (λ z. let w : k ≡ 0 = eqb-true k 0 z in omega (arith, w)) (λ z. leb-true k m z) e
  where
    go : (a b : Bool) → (a ≡ true → k ≤ m) → (b ≡ true → k ≤ m) → (cond a (with_tree (piece (codes "_")) (at_place (Some i))) (cond b (with_tree (all_pieces (letter_of (m - k))) (at_place (Some i))) (failed_with invalid_syntax))).place ≡ x → X
    go true b p q e = g (names_rule folds m k (p refl)) (sym e)
    go false true p q e = g (names_rule folds m k (q refl)) (sym e)
    go false false p q e = h (sym e)

-- the bindings after a dyn trait path
dyn_spelt : {X : Type 0} (n : ℕ) (s : Context) (f : Place → Outcome) (a : Outcome) (j : ℕ) → (followed_open a (bound_by n s f)).place ≡ Some j → ((k : ℕ) → a.place ≡ Some k → (bound_by n s f a.is_bracket_open (Some k)).place ≡ Some j → X) → X
dyn_spelt n s f a j e g = onward (bound_by n s f a.is_bracket_open) a.place j (bound_failed n s f a.is_bracket_open) e g

-- generic arguments, folded or not
folded_spelt : (symbol : List ℕ) (printed folds : Bool) (d m : ℕ) (p q : Items) (x y : Outcome) (f : Place → Outcome) (i j : ℕ) → (f None).place ≡ None
    → ((k : ℕ) → x.place ≡ Some k → Spells symbol freely d m p i k) → ((k : ℕ) → y.place ≡ Some k → Spells symbol (rule printed folds) d m p i k) → ((k : ℕ) → (f (Some k)).place ≡ Some j → Spells symbol (rule printed folds) d m q k j)
    → (folded_by (printed && folds) x y f).place ≡ Some j → Spells symbol (rule printed folds) d m (folded p q) i j
folded_spelt symbol true true d m p q x y f i j n h g r e = onward f x.place j n e (λ k u v. folded_ (h k u) (r k v))
folded_spelt symbol true false d m p q x y f i j n h g r e = onward f y.place j n e (λ k u v. folded_ (g k u) (r k v))
folded_spelt symbol false folds d m p q x y f i j n h g r e = onward f y.place j n e (λ k u v. folded_ (g k u) (r k v))

pub spelt : (p : Items) (s : Context) (d : ℕ) → SpeltAt s.symbol s.folds d s.here → SpeltBelow s.symbol s.folds d s.deeper → Spelt s.symbol s.folds s.printed d s.lifetimes p (λ i. parse p s (Some i))
unfolding parse level_of levels read_at
spelt done s d l m i j e = subst (λ x. Spells s.symbol (rule s.printed s.folds) d s.lifetimes done i x) (some_same e) end_
spelt invalid s d l m i j e = absurd (cc e)
spelt (print t p) s d l m i j e = say_ (spelt p s d l m i j e)
spelt (print_plain t p) s d l m i j e = plain_ (spelt p s d l m i j e)
spelt (byte f) s d l m i j e = resumed_spelt (length s.symbol) i j (λ v. parse (f v) s) (byte_at s.symbol i) e (λ v k r x. byte_ v k r (spelt (f v) s d l m k j x))
spelt (namespace f) s d l m i j e = resumed_spelt (length s.symbol) i j (λ v. parse (f v) s) (namespace_at s.symbol i) e (λ v k r x. namespace_ v k r (spelt (f v) s d l m k j x))
spelt (integer f) s d l m i j e = resumed_spelt (length s.symbol) i j (λ v. parse (f v) s) (integer_at s.symbol i) e (λ v k r x. integer_ v k r (spelt (f v) s d l m k j x))
spelt (optional tag f) s d l m i j e = resumed_spelt (length s.symbol) i j (λ v. parse (f v) s) (optional_at tag s.symbol i) e (λ v k r x. optional_ v k r (spelt (f v) s d l m k j x))
spelt (identifier f) s d l m i j e = resumed_spelt (length s.symbol) i j (λ v. parse (f v) s) (identifier_at s.symbol i) e (λ v k r x. identifier_ v k r (spelt (f v) s d l m k j x))
spelt (nibbles f) s d l m i j e = resumed_spelt (length s.symbol) i j (λ v. parse (f v) s) (nibbles_at s.symbol i) e (λ v k r x. nibbles_ v k r (spelt (f v) s d l m k j x))
spelt (peek f) s d l m i j e = peeked_spelt j (λ v. parse (f v) s (Some i)) (slice_get s.symbol i) e (λ v r k. peek_ v r (spelt (f v) s d l m i j k))
spelt (next c p q) s d l m i j e = forked_spelt (is_byte s.symbol i c) (parse p s) (parse q s) i j e
    (λ r k. there r (spelt p s d l m (i + 1) j k)) (λ r k. other r (spelt q s d l m i j k))
spelt (if_ok p q) s d l m i j e = sound_ (spelt p s d l m i j e)
spelt (until_end p q) s d l m i j e = onward (parse q s) (repetitions (suc (length s.symbol)) s.symbol (parse p s) (Some i)).place j (failed q s) e
    (λ k x y. repetitions_spelt (suc (length s.symbol)) s.symbol s.folds s.printed d s.lifetimes p q (parse p s) (spelt p s d l m) i k j x (spelt q s d l m k j y))
spelt (raise p) s d l m i j e = raised_spelt s.symbol s.folds d s.deeper (λ l ls. parse p (record s { here = l; deeper = ls })) i j m e
    (λ l' ls r l'' m' k. raise_ r (spelt p (record s { here = l'; deeper = ls }) (d + 1) l'' m' i j k))
spelt (unit p q) s d l m i j e = onward (parse q s) (parse p s (Some i)).place j (failed q s) e
    (λ k x y. unit_ (spelt p s d l m i k x) (spelt q s d l m k j y))
spelt (child kind value p) s d l m i j e = onward (parse p s) (s.here s.printed kind value s.lifetimes i).place j (failed p s) e
    (λ k x y. child_ (l s.printed kind value s.lifetimes i k x) (spelt p s d l m k j y))
spelt (skip p) s d l m i j e = onward (parse p s) (s.here false a_path false s.lifetimes i).place j (failed p s) e
    (λ k x y. skip_ (l false a_path false s.lifetimes i k x) (spelt p s d l m k j y))
spelt (folded p q) s d l m i j e =
    let still = record s { printed = false } in
    folded_spelt s.symbol s.printed s.folds d s.lifetimes p q (parse p still (Some i)) (parse p s (Some i)) (parse q s) i j (failed q s) (λ k x. spelt p still d l m i k x) (λ k x. spelt p s d l m i k x) (λ k x. spelt q s d l m k j x) e
spelt (target kind value) s d l m i j e = resumed_spelt (length s.symbol) i j (λ t k. target_of s.deeper (λ level. target_read s.printed (level true kind value s.lifetimes) t k)) (backref_at s.symbol i) e
    (λ v k r x. target_spelt s.symbol s.folds d s.printed s.deeper (λ level. level true kind value s.lifetimes) v k j m x
    (λ y z. subst (λ w. Spells s.symbol (rule s.printed s.folds) d s.lifetimes (target kind value) i w) z (target_ v (may_refer s.printed s.folds) r y)))
spelt (lifetime k p) s d l m i j e = lifetime_spelt s.folds s.printed s.lifetimes k i (lifetime_at s.printed s.lifetimes k (Some i)).place refl
    (λ y z. lifetime_ y (spelt p s d l m i j (subst (λ w. (parse p s w).place ≡ Some j) z e)))
    (λ z. absurd (cc (sym (subst (λ w. (parse p s w).place ≡ None) (sym z) (failed p s)) ∙ e)))
spelt (binder n p) s d l m i j e = binder_ (spelt p (record s { lifetimes = s.lifetimes + n }) d l m i j e)
spelt (leave_open p) s d l m i j e = opens_ (spelt p s d l m i j e)
spelt (dyn_trait p) s d l m i j e = dyn_spelt (suc (length s.symbol)) s (parse p s) (unit_outcome s a_trait_path false (Some i)) j e
    (λ k x y. dyn_ (l s.printed a_trait_path false s.lifetimes i k x) (bound_spelt (suc (length s.symbol)) s s.printed d s.lifetimes p (parse p s) (spelt p s d l m) _ false k j y))
spelt (bindings o p) s d l m i j e = bound_spelt (suc (length s.symbol)) s s.printed d s.lifetimes p (parse p s) (spelt p s d l m) o o i j e

pub level_spelt : (symbol : List ℕ) (folds : Bool) (d : ℕ) (ls : List Level) → SpeltBelow symbol folds d ls → SpeltAt symbol folds d (level_of symbol folds ls)
unfolding parse level_of levels read_at
level_spelt symbol folds d ls m c kind value n =
    let at : Level → Bool → ℕ → Context = λ here pr k. record { symbol = symbol; folds = folds; printed = pr; here = here; deeper = ls; lifetimes = k } in
    let inner : Level = λ pr k v o j. parse (items k v) (at nowhere pr o) (Some j) in
    spelt (items kind value) (at inner c n) d
    (λ b k v o. spelt (items k v) (at nowhere b o) d (λ _ _ _ _ i j e. absurd (cc e)) m) m

pub levels_spelt : (symbol : List ℕ) (folds : Bool) (n d : ℕ) → n + d ≡ max_depth → SpeltBelow symbol folds d (levels symbol folds n)
unfolding parse level_of levels read_at
levels_spelt symbol folds zero d e = tt
levels_spelt symbol folds (suc n) d e = (omega arith, level_spelt symbol folds (d + 1) (levels symbol folds n) (levels_spelt symbol folds n (d + 1) (omega arith)), levels_spelt symbol folds n (d + 1) (omega arith))

pub read_spelt : (symbol : List ℕ) (folds c : Bool) (kind : Kind) (value : Bool) (i j d n : ℕ) → d ≤ max_depth → (read_at symbol folds c kind i d n value).place ≡ Some j → Spells symbol (rule c folds) d n (items kind value) i j
unfolding parse level_of levels read_at
read_spelt symbol folds c kind value i j d n h e = level_spelt symbol folds d (levels symbol folds (max_depth - d)) (levels_spelt symbol folds (max_depth - d) d (omega arith)) c kind value n i j e
