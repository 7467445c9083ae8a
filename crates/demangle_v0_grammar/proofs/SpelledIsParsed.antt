-- Bytes that are spelled are parsed. If they are spelled without a reference, they print no error, with output and
-- without.
use Rattle.std.specs.Prelude.{ℕ, IsTrue, ◌*◌, ◌&&◌, zero, suc, ◌<◌, ◌≤◌, ◌==◌, nat_le, codes}
use Prim.Native.Char.{code}
use Rattle.std.proofs.Common.{◌≡◌, Bool, true, false, cond, List, [], ◌∷◌, length, Option, Some, refl, sym, ◌+◌, ◌-◌, subst, arith}
use Rattle.std.proofs.lemmas.Bool.{le-leb, ltb-true}
use Rattle.demangle_symbol.specs.Digits.{is_byte}
use Rattle.demangle_symbol.specs.Primitives.{Name, Read, optional_at, identifier_at}
use Rattle.demangle_symbol.specs.Names.{name_pieces}
use Rattle.demangle_v0_grammar.specs.Items.{Text, Kind, a_path, a_pattern, a_trait_path, Items, done, invalid, print, print_plain, byte, namespace, integer, optional, identifier, nibbles, peek, next, if_ok, until_end, raise, unit, child, skip, folded, target, lifetime, binder, leave_open, dyn_trait, bindings}
use Rattle.demangle_v0_grammar.specs.Table.{items}
use Rattle.demangle_v0_grammar.specs.Reading.{Tree, nothing, HasNoError, binder_at, new_lifetimes, invalid_syntax, piece, Place, failed_with, all_pieces, letter_of, lifetime_at, Outcome, Level, Context, parse, repetitions, at_place, with_tree, primitive, followed_by, unit_outcome, folded_by, angle_if_open, binding_separator, name_equals, bound_by, target_of, target_read, primitive_outcome, peek_outcome, byte_choice, one_level_deeper, max_depth, level_of, levels, nowhere, read_at}
use Rattle.demangle_v0_grammar.specs.Spelling.{Rule, freely, of_arguments, MayName, MayRefer, Spells, end_, say_, plain_, byte_, namespace_, integer_, optional_, identifier_, nibbles_, peek_, there, other, sound_, over_, repetition_, raise_, unit_, child_, skip_, folded_, target_, lifetime_, binder_, opens_, dyn_, past_, bound_}
use Rattle.demangle_v0_grammar.proofs.ParsedIsSpelled.{rule, rule_names}
use Rattle.demangle_v0_grammar.proofs.Rules.{IsLaxer, itself, freely_laxest, inside_laxer, refers_outside}
use Rattle.demangle_v0_grammar.proofs.ItemBudgets.{rank, is_below, Fits, first}
use Rattle.demangle_v0_grammar.proofs.TableCost.{fits}
use Rattle.demangle_symbol.proofs.Digits.{is_byte_within}
use Rattle.demangle_symbol.proofs.Counts.{Placed, placed, byte_placed, namespace_placed, integer_placed, optional_placed, backref_placed, identifier_placed, nibbles_placed}

pub there_placed : (symbol : List ℕ) (b i : ℕ) → is_byte symbol i b ≡ true → i + 1 ≤ length symbol
there_placed symbol b i e = let w : i < length symbol = is_byte_within symbol i b e in omega (arith, w)

-- after a primitive
after_word : {A : Type 0} (symbol : List ℕ) (i j l e k : ℕ) (q : Read A) → Placed (i + 1) symbol q → (v : A) → q ≡ Some (v, l) → (l ≤ length symbol → (l ≤ j) × (j ≤ length symbol) × (e ≤ k + 9 + 17 * (j - l))) → (i ≤ j) × (j ≤ length symbol) × (e ≤ k + 17 * (j - i))
after_word symbol i j l e k q p v u h =
    let w : (i + 1 ≤ l) × (l ≤ length symbol) = placed (i + 1) symbol q p v l u in
    let y : (l ≤ j) × (j ≤ length symbol) × (e ≤ k + 9 + 17 * (j - l)) = h w.1 in (omega (arith, w.0, y.0), y.1, omega (arith, w.0, y.0, y.2))

-- items that end with a larger budget than they started with read bytes
pub grows : {symbol : List ℕ} {w : Rule} {p : Items} {d m i j : ℕ} (c : Bool) (r e k : ℕ) (g : Bool) → Fits c r e k g p → Spells symbol w d m p i j → i ≤ length symbol → (i ≤ j) × (j ≤ length symbol) × (e ≤ k + 17 * (j - i))
grows c r e k g f end_ b = (omega arith, b, omega (arith, f))
grows c r e k g f (say_ a) b = grows _ _ _ _ _ f a b
grows c r e k g f (plain_ a) b = grows _ _ _ _ _ f a b
grows {symbol} {i = i} c r e k g f (byte_ v l u a) b = after_word symbol i _ l e k _ (byte_placed symbol i) v u (λ y. grows _ _ _ _ _ (f v) a y)
grows {symbol} {i = i} c r e k g f (namespace_ v l u a) b = after_word symbol i _ l e k _ (namespace_placed symbol i) v u (λ y. grows _ _ _ _ _ (f v) a y)
grows {symbol} {i = i} c r e k g f (integer_ v l u a) b = after_word symbol i _ l e k _ (integer_placed symbol i) v u (λ y. grows _ _ _ _ _ (f v) a y)
grows {symbol} {i = i} c r e k g f (optional_ {tag = tag} v l u a) b = let q : (i ≤ l) × (l ≤ length symbol) = placed i symbol (optional_at tag symbol i) (optional_placed tag symbol i b) v l u in
    let y = grows _ _ _ _ _ (f.1 v) a q.1 in (omega (arith, q.0, y.0), y.1, omega (arith, f.0, q.0, y.0, y.2))
grows {symbol} {i = i} c r e k g f (identifier_ v l u a) b = after_word symbol i _ l e k _ (identifier_placed symbol i) v u (λ y. grows _ _ _ _ _ (f v) a y)
grows {symbol} {i = i} c r e k g f (nibbles_ v l u a) b = after_word symbol i _ l e k _ (nibbles_placed symbol i) v u (λ y. grows _ _ _ _ _ (f v) a y)
grows c r e k g f (peek_ v u a) b = let y = grows _ _ _ _ _ (f.1 v) a b in (y.0, y.1, omega (arith, y.2))
grows {symbol} {i = i} c r e k g f (there {b = t} u a) b = let y = grows _ _ _ _ _ f.1 a (there_placed symbol t i u) in (omega (arith, y.0), y.1, omega (arith, y.0, y.2))
grows c r e k g f (other u a) b = let y = grows _ _ _ _ _ f.2 a b in (y.0, y.1, omega (arith, y.2))
grows c r e k g f (sound_ a) b = grows _ _ _ _ _ f.2 a b
grows {symbol} {i = i} c r e k g f (over_ u a) b = let y = grows _ _ _ _ _ f.4 a (there_placed symbol (code "E") i u) in (omega (arith, y.0), y.1, omega (arith, f.1, y.0, y.2))
grows c r e k g f (repetition_ u a n) b = let x = grows _ _ _ _ _ f.3 a b in let y = grows c r e k g f n x.1 in (omega (arith, x.0, y.0), y.1, omega (arith, x.0, y.0, y.2))
grows c r e k g f (raise_ l a) b = grows _ _ _ _ _ f a b
grows c r e k g f (unit_ a n) b = let x = grows _ _ _ _ _ f.1 a b in let y = grows _ _ _ _ _ f.2 n x.1 in (omega (arith, x.0, y.0), y.1, omega (arith, x.0, x.2, y.0, y.2))
grows c r e k g f (child_ {kind = kind} {value = value} a n) b = let x = grows _ _ _ _ _ (fits kind value) a b in let y = grows _ _ _ _ _ f.2 n x.1 in (omega (arith, x.0, y.0), y.1, omega (arith, f.0, x.0, x.2, y.0, y.2))
grows c r e k g f (skip_ a n) b = let x = grows true 0 8 0 true (fits a_path false) a b in let y = grows _ _ _ _ _ f.1 n x.1 in (omega (arith, x.0, y.0), y.1, omega (arith, x.0, x.2, y.0, y.2))
grows c r e k g f (folded_ a n) b = let x = grows _ _ _ _ _ f.1 a b in let y = grows _ _ _ _ _ f.2 n x.1 in (omega (arith, x.0, y.0), y.1, omega (arith, x.0, x.2, y.0, y.2))
grows {symbol} {i = i} c r e k g f (target_ v u w l) b = after_word symbol i _ _ e k _ (backref_placed symbol i) v w (λ y. (omega arith, y, omega (arith, f.1)))
grows c r e k g f (lifetime_ u a) b = grows _ _ _ _ _ f a b
grows c r e k g f (binder_ a) b = grows _ _ _ _ _ f a b
grows c r e k g f (opens_ a) b = grows _ _ _ _ _ f.1 a b
grows c r e k g f (dyn_ a n) b = let x = grows false 1 8 2 true (fits a_trait_path false) a b in let y = grows c r e 8 g (first (is_below r a_trait_path) g f.1, f.2.0, f.2.1, f.2.2, f.2.3, f.2.4) n x.1 in (omega (arith, x.0, y.0), y.1, omega (arith, f.0, x.0, x.2, y.0, y.2))
grows c r e k g f (past_ u) b = (omega arith, b, omega (arith, f.2, f.5))
grows {symbol} {i = i} c r e k g f (bound_ {k = n} x u w a o) b = let q : (i + 1 + 1 ≤ n) × (n ≤ length symbol) = placed (i + 1 + 1) symbol (identifier_at symbol (i + 1)) (identifier_placed symbol (i + 1)) x n w in
    let y = grows _ _ _ _ _ f.4 a q.1 in let z = grows c r e k g f o y.1 in (omega (arith, q.0, y.0, z.0), z.1, omega (arith, q.0, y.0, z.0, z.2))

-- The parse ends at j. It prints no error if no reference is followed.
abbrev pub Reads : Rule → Bool → ℕ → Outcome → Type 0
Reads w x j o = (o.place ≡ Some j) × ((MayRefer w → x ≡ false) → HasNoError o.tree)

-- bytes that are spelled by the rule w are parsed, with output or without
abbrev pub IsRead : List ℕ → Rule → Bool → ℕ → ℕ → Items → (ℕ → Outcome) → Type 0
IsRead symbol w x d m p f = (i j : ℕ) → i ≤ length symbol → Spells symbol w d m p i j → Reads w x j (f i)

-- productions of a rank below r are parsed
abbrev pub ReadAt : ℕ → List ℕ → Bool → ℕ → Level → Type 0
ReadAt r symbol folds d l = (w : Rule) (x : Bool) → IsLaxer w (rule x folds) → (kind : Kind) (value : Bool) (n : ℕ) → IsTrue (is_below r kind) → IsRead symbol w x d n (items kind value) (l x kind value n)

abbrev pub ReadBelow : List ℕ → Bool → ℕ → List Level → Type 0
ReadBelow symbol folds d [] = max_depth ≤ d
ReadBelow symbol folds d (l ∷ ls) = ReadAt 2 symbol folds (d + 1) l × ReadBelow symbol folds (d + 1) ls

-- the facts about the context
pub record Knows (w : Rule) (r : ℕ) (s : Context) (d : ℕ) : Type 0 where
  pub laxer : IsLaxer w (rule s.printed s.folds)
  pub here : ReadAt r s.symbol s.folds d s.here
  pub below : ReadBelow s.symbol s.folds d s.deeper

pieces_whole : (ts : List Text) (t : Tree) → HasNoError t → HasNoError (all_pieces ts t)
pieces_whole [] t h = h
pieces_whole (x ∷ ts) t h = pieces_whole ts t h

new_whole : (m n : ℕ) (t : Tree) → HasNoError t → HasNoError (new_lifetimes m n t)
new_whole zero n t h = h
new_whole (suc m) n t h = pieces_whole (letter_of n) (new_lifetimes m (n + 1) t) (new_whole m (n + 1) t h)

binder_whole : (x : Bool) (m n : ℕ) (t : Tree) → HasNoError t → HasNoError (binder_at x m n t)
binder_whole false m n t h = h
binder_whole true zero n t h = h
binder_whole true (suc m) n t h = pieces_whole (letter_of n) (new_lifetimes m (n + 1) (piece (codes "> ") t)) (new_whole m (n + 1) (piece (codes "> ") t) h)

module _ (w : Rule) (x : Bool) where
  primitive_reads : {A : Type 0} (symbol : List ℕ) (low i j : ℕ) (f : A → Place → Outcome) (q : Read A) → Placed low symbol q → (v : A) (k : ℕ) → q ≡ Some (v, k) → ((low ≤ k) × (k ≤ length symbol) → Reads w x j (f v (Some k))) → Reads w x j (primitive_outcome (length symbol) i f q)
  primitive_reads symbol low i j f q p v k e h = subst (λ q. Reads w x j (primitive_outcome (length symbol) i f q)) (sym e) (h (placed low symbol q p v k e))

  peeked_reads : (j : ℕ) (f : ℕ → Outcome) (q : Option ℕ) (v : ℕ) → q ≡ Some v → Reads w x j (f v) → Reads w x j (peek_outcome f q)
  peeked_reads j f q v e h = subst (λ q. Reads w x j (peek_outcome f q)) (sym e) h

  there_reads : (c : Bool) (f g : Place → Outcome) (i j : ℕ) → c ≡ true → Reads w x j (f (Some (i + 1))) → Reads w x j (byte_choice c f g (Some i))
  there_reads c f g i j e h = subst (λ c. Reads w x j (byte_choice c f g (Some i))) (sym e) h

  other_reads : (c : Bool) (f g : Place → Outcome) (i j : ℕ) → c ≡ false → Reads w x j (g (Some i)) → Reads w x j (byte_choice c f g (Some i))
  other_reads c f g i j e h = subst (λ c. Reads w x j (byte_choice c f g (Some i))) (sym e) h

  continues_on : (f : Place → Outcome) (o : Outcome) (k j : ℕ) → Reads w x k o → Reads w x j (f (Some k)) → Reads w x j (followed_by o f)
  continues_on f o k j e h = let y : Reads w x j (f o.place) = subst (λ z. Reads w x j (f z)) (sym e.0) h in (y.0, λ q. (e.1 q, y.1 q))

  closed_reads : (o : Bool) (i : ℕ) → Reads w x i (angle_if_open o (Some i))
  closed_reads true i = (refl, λ _. tt)
  closed_reads false i = (refl, λ _. tt)

  opened_reads : (o : Bool) (j : ℕ) (y : Outcome) → Reads w x j y → Reads w x j (with_tree (binding_separator o) y)
  opened_reads true j y h = h
  opened_reads false j y h = h

  raised_reads : (symbol : List ℕ) (folds : Bool) (d : ℕ) (ls : List Level) (f : Level → List Level → Place → Outcome) (i j : ℕ) → ReadBelow symbol folds d ls → d < max_depth → ((l : Level) (ls : List Level) → ReadAt 2 symbol folds (d + 1) l → ReadBelow symbol folds (d + 1) ls → Reads w x j (f l ls (Some i))) → Reads w x j (one_level_deeper ls f (Some i))
  raised_reads symbol folds d [] f i j m l h = absurd (omega (arith, m, l))
  raised_reads symbol folds d (y ∷ ls) f i j m l h = h y ls m.0 m.1

  -- the repetitions end, and the rest starts at that place
  repetitions_read : (n : ℕ) (symbol : List ℕ) (d m : ℕ) (p q : Items) (f : Place → Outcome) (c : Bool) (r l : ℕ) → 1 ≤ l → Fits c r l (l - 1) false p → IsRead symbol w x d m p (λ i. f (Some i)) → (i j : ℕ) → suc (length symbol) ≤ n + i → i ≤ length symbol
      → Spells symbol w d m (until_end p q) i j → (k : ℕ) × Reads w x k (repetitions n symbol f (Some i)) × (k ≤ length symbol) × Spells symbol w d m q k j
  unfolding repetitions
  repetitions_read zero symbol d m p q f c r l o u h i j z b a = absurd (omega (arith, z, b))
  repetitions_read (suc n) symbol d m p q f c r l o u h i j z b (over_ e a) = (i + 1, there_reads (is_byte symbol i (code "E")) at_place (λ k. followed_by (f k) (repetitions n symbol f)) i (i + 1) e (refl, λ _. tt), there_placed symbol (code "E") i e, a)
  repetitions_read (suc n) symbol d m p q f c r l o u h i j z b (repetition_ {k = k} e a y) =
      let further = grows c r l (l - 1) false u a b in
      let after = repetitions_read n symbol d m p q f c r l o u h k j (omega (arith, o, z, further.0, further.2)) further.1 y in
      (after.0, other_reads (is_byte symbol i (code "E")) at_place (λ k. followed_by (f k) (repetitions n symbol f)) i after.0 e (continues_on (repetitions n symbol f) (f (Some i)) k after.0 (h i k b a) after.1), after.2, after.3)

  -- bindings are read
  bound_read : (n : ℕ) (s : Context) (d m : ℕ) (p : Items) (f : Place → Outcome) (c : Bool) (r e k : ℕ) (g : Bool) → Fits c r e k g p → IsRead s.symbol w x d m p (λ i. f (Some i)) → (o t : Bool) (i j : ℕ) → suc (length s.symbol) ≤ n + i → i ≤ length s.symbol → Spells s.symbol w d m (bindings t p) i j → Reads w x j (bound_by n s f o (Some i))
  unfolding bound_by
  bound_read zero s d m p f c r e k g u h o t i j l b a = absurd (omega (arith, l, b))
  bound_read (suc n) s d m p f c r e k g u h o t i j l b (past_ v) =
      other_reads (is_byte s.symbol i (code "p")) (λ k. with_tree (binding_separator o) (primitive s k identifier_at (λ a x. with_tree (name_equals a) (followed_by (f x) (bound_by n s f true))))) (angle_if_open o) i j v (closed_reads o i)
  bound_read (suc n) s d m p f c r e k g u h o t i j l b (bound_ {k = y} {l = z} a v q b' a') =
      let all : Outcome = followed_by (f (Some y)) (bound_by n s f true) in
      let one : Name → Place → Outcome = λ a x. with_tree (name_equals a) (followed_by (f x) (bound_by n s f true)) in
      there_reads (is_byte s.symbol i (code "p")) (λ k. with_tree (binding_separator o) (primitive s k identifier_at one)) (angle_if_open o) i j v
      (opened_reads o j (primitive s (Some (i + 1)) identifier_at one) (primitive_reads s.symbol (i + 1 + 1) (i + 1) j one _ (identifier_placed s.symbol (i + 1)) a y q
      (λ w'. let further = grows c r e k g u b' w'.1 in
      let after : Reads w x j all = continues_on (bound_by n s f true) (f (Some y)) z j (h y z w'.1 b') (bound_read n s d m p f c r e k g u h true true z j (omega (arith, l, w'.0, further.0)) further.1 a') in
      (after.0, λ q. pieces_whole (name_pieces a) (piece (codes " = ") all.tree) (after.1 q)))))

target_reads : (w : Rule) (symbol : List ℕ) (folds : Bool) (d : ℕ) (x : Bool) (ls : List Level) (f : Level → ℕ → Outcome) (t k : ℕ) → MayRefer w → ReadBelow symbol folds d ls → d < max_depth → Reads w x k (target_of ls (λ l. target_read x (f l) t (Some k)))
target_reads w symbol folds d x [] f t k u m l = absurd (omega (arith, m, l))
target_reads w symbol folds d true (y ∷ ls) f t k u m l = (refl, λ q. absurd (cc (q u)))
target_reads w symbol folds d false (y ∷ ls) f t k u m l = (refl, λ _. tt)

lifetime_reads : (w : Rule) (folds x : Bool) (m k i : ℕ) → MayName (rule x folds) m k → Reads w x i (lifetime_at x m k (Some i))
lifetime_reads w folds false m k i h = (refl, λ _. tt)
lifetime_reads w folds true m k i h = go (k == 0) (nat_le k m) (le-leb k m (rule_names folds m k h))
  where
    go : (a b : Bool) → b ≡ true → Reads w true i (cond a (with_tree (piece (codes "_")) (at_place (Some i))) (cond b (with_tree (all_pieces (letter_of (m - k))) (at_place (Some i))) (failed_with invalid_syntax)))
    go true b p = (refl, λ _. tt)
    go false true p = (refl, λ _. pieces_whole (letter_of (m - k)) nothing tt)
    go false false p = cc p

-- generic arguments, by the rule of the list; if they are folded, no rule applies
inside : (w : Rule) (x folds : Bool) → x && folds ≡ false → IsLaxer w (rule x folds) → IsLaxer (of_arguments w) (rule x folds)
inside w true true e h = absurd (cc e)
inside w true false e h = inside_laxer w (rule true false) h
inside w false folds e h = inside_laxer w freely h

-- generic arguments, folded or not
folded_reads : (w : Rule) (x folds : Bool) (o p : Outcome) (f : Place → Outcome) (k j : ℕ) → o.place ≡ Some k → (x && folds ≡ false → Reads (of_arguments w) x k p) → Reads w x j (f (Some k)) → Reads w x j (folded_by (x && folds) o p f)
folded_reads w true true o p f k j e g h = subst (λ z. Reads w true j (f z)) (sym e) h
folded_reads w true false o p f k j e g h = let y = g refl in continues_on w true f p k j (y.0, λ q. y.1 (λ m. q (refers_outside w m))) h
folded_reads w false folds o p f k j e g h = let y = g refl in continues_on w false f p k j (y.0, λ q. y.1 (λ m. refl)) h

pub reads : {w : Rule} (p : Items) {r : ℕ} (s : Context) (d : ℕ) (c : Bool) (e k : ℕ) (g : Bool) → Fits c r e k g p → Knows w r s d → (i j : ℕ) → i ≤ length s.symbol → Spells s.symbol w d s.lifetimes p i j → Reads w s.printed j (parse p s (Some i))
unfolding parse
reads done s d c e k g a n i j z end_ = (refl, λ _. tt)
reads invalid s d c e k g a n i j z x = elim x [ ]
reads (print t p) s d c e k g a n i j z (say_ x) = reads p s d _ _ _ _ a n i j z x
reads (print_plain t p) s d c e k g a n i j z (plain_ x) = reads p s d _ _ _ _ a n i j z x
reads {w} (byte f) s d c e k g a n i j z (byte_ v l u x) = primitive_reads w s.printed s.symbol (i + 1) i j (λ v. parse (f v) s) _ (byte_placed s.symbol i) v l u (λ y. reads (f v) s d _ _ _ _ (a v) n l j y.1 x)
reads {w} (namespace f) s d c e k g a n i j z (namespace_ v l u x) = primitive_reads w s.printed s.symbol (i + 1) i j (λ v. parse (f v) s) _ (namespace_placed s.symbol i) v l u (λ y. reads (f v) s d _ _ _ _ (a v) n l j y.1 x)
reads {w} (integer f) s d c e k g a n i j z (integer_ v l u x) = primitive_reads w s.printed s.symbol (i + 1) i j (λ v. parse (f v) s) _ (integer_placed s.symbol i) v l u (λ y. reads (f v) s d _ _ _ _ (a v) n l j y.1 x)
reads {w} (optional tag f) s d c e k g a n i j z (optional_ v l u x) = primitive_reads w s.printed s.symbol i i j (λ v. parse (f v) s) _ (optional_placed tag s.symbol i z) v l u (λ y. reads (f v) s d _ _ _ _ (a.1 v) n l j y.1 x)
reads {w} (identifier f) s d c e k g a n i j z (identifier_ v l u x) = primitive_reads w s.printed s.symbol (i + 1) i j (λ v. parse (f v) s) _ (identifier_placed s.symbol i) v l u (λ y. reads (f v) s d _ _ _ _ (a v) n l j y.1 x)
reads {w} (nibbles f) s d c e k g a n i j z (nibbles_ v l u x) = primitive_reads w s.printed s.symbol (i + 1) i j (λ v. parse (f v) s) _ (nibbles_placed s.symbol i) v l u (λ y. reads (f v) s d _ _ _ _ (a v) n l j y.1 x)
reads {w} (peek f) s d c e k g a n i j z (peek_ v u x) = peeked_reads w s.printed j (λ v. parse (f v) s (Some i)) _ v u (reads (f v) s d _ _ _ _ (a.1 v) n i j z x)
reads {w} (next b p q) s d c e k g a n i j z (there u x) = there_reads w s.printed _ (parse p s) (parse q s) i j u (reads p s d _ _ _ _ a.1 n (i + 1) j (there_placed s.symbol b i u) x)
reads {w} (next b p q) s d c e k g a n i j z (other u x) = other_reads w s.printed _ (parse p s) (parse q s) i j u (reads q s d _ _ _ _ a.2 n i j z x)
reads (if_ok p q) s d c e k g a n i j z (sound_ x) = reads p s d _ _ _ _ a.2 n i j z x
reads {w} (until_end p q) {r} s d c e k g a n i j z x =
    let end = repetitions_read w s.printed (suc (length s.symbol)) s.symbol d s.lifetimes p q (parse p s) c r a.0 a.2 a.3 (reads p s d _ _ _ _ a.3 n) i j (omega arith) z x in
    continues_on w s.printed (parse q s) (repetitions (suc (length s.symbol)) s.symbol (parse p s) (Some i)) end.0 j end.1 (reads q s d _ _ _ _ a.4 n end.0 j end.2 end.3)
reads {w} (raise p) s d c e k g a n i j z (raise_ u x) = raised_reads w s.printed s.symbol s.folds d s.deeper (λ l ls. parse p (record s { here = l; deeper = ls })) i j n.below u
    (λ l ls h m. reads p (record s { here = l; deeper = ls }) (d + 1) _ _ _ _ a (record { laxer = n.laxer; here = h; below = m }) i j z x)
reads {w} (unit p q) s d c e k g a n i j z (unit_ {k = l} y x) =
    continues_on w s.printed (parse q s) (parse p s (Some i)) l j (reads p s d _ _ _ _ a.1 n i l z y) (reads q s d _ _ _ _ a.2 n l j (grows _ _ _ _ _ a.1 y z).1 x)
reads {w} (child kind value p) {r} s d c e k g a n i j z (child_ {k = l} y x) =
    continues_on w s.printed (parse p s) (unit_outcome s kind value (Some i)) l j (n.here w s.printed n.laxer kind value s.lifetimes (first (is_below r kind) g a.1) i l z y) (reads p s d _ _ _ _ a.2 n l j (grows _ _ _ _ _ (fits kind value) y z).1 x)
reads {w} (skip p) s d c e k g a n i j z (skip_ {k = l} y x) =
    subst (λ v. Reads w s.printed j (parse p s v)) (sym (n.here freely false (itself freely) a_path false s.lifetimes a.0 i l z y).0) (reads p s d _ _ _ _ a.1 n l j (grows true 0 8 0 true (fits a_path false) y z).1 x)
reads {w} (folded p q) s d c e k g a n i j z (folded_ {k = l} y x) =
    let still = record s { printed = false } in
    let no_output_env = reads p still d _ _ _ _ a.1 (record { laxer = freely_laxest (of_arguments w); here = n.here; below = n.below }) i l z y in
    folded_reads w s.printed s.folds (parse p still (Some i)) (parse p s (Some i)) (parse q s) l j no_output_env.0
    (λ u. reads p s d _ _ _ _ a.1 (record { laxer = inside w s.printed s.folds u n.laxer; here = n.here; below = n.below }) i l z y) (reads q s d _ _ _ _ a.2 n l j (grows _ _ _ _ _ a.1 y z).1 x)
reads {w} (target kind value) s d c e k g a n i j z (target_ v u y l) = primitive_reads w s.printed s.symbol (i + 1) i _ (λ t k. target_of s.deeper (λ level. target_read s.printed (level true kind value s.lifetimes) t k)) _ (backref_placed s.symbol i) v _ y
    (λ _. target_reads w s.symbol s.folds d s.printed s.deeper (λ level. level true kind value s.lifetimes) v _ u n.below l)
reads {w} (lifetime t p) s d c e k g a n i j z (lifetime_ u x) = continues_on w s.printed (parse p s) (lifetime_at s.printed s.lifetimes t (Some i)) i j (lifetime_reads w s.folds s.printed s.lifetimes t i (n.laxer.names s.lifetimes t u)) (reads p s d _ _ _ _ a n i j z x)
reads (binder t p) s d c e k g a n i j z (binder_ x) =
    let y = reads p (record s { lifetimes = s.lifetimes + t }) d _ _ _ _ a (record { laxer = n.laxer; here = n.here; below = n.below }) i j z x in (y.0, λ q. binder_whole s.printed t s.lifetimes _ (y.1 q))
reads (leave_open p) s d c e k g a n i j z (opens_ x) = reads p s d _ _ _ _ a.1 n i j z x
reads {w} (dyn_trait p) {r} s d c e k g a n i j z (dyn_ {k = l} y x) =
    let path : Outcome = unit_outcome s a_trait_path false (Some i) in
    continues_on w s.printed (bound_by (suc (length s.symbol)) s (parse p s) path.is_bracket_open) path l j (n.here w s.printed n.laxer a_trait_path false s.lifetimes (first (is_below r a_trait_path) g a.1) i l z y)
    (bound_read w s.printed (suc (length s.symbol)) s d s.lifetimes p (parse p s) _ _ _ _ _ a.2.3 (reads p s d _ _ _ _ a.2.3 n) path.is_bracket_open false l j (omega arith) (grows false 1 8 2 true (fits a_trait_path false) y z).1 x)
reads {w} (bindings o p) s d c e k g a n i j z x = bound_read w s.printed (suc (length s.symbol)) s d s.lifetimes p (parse p s) _ _ _ _ _ a.4 (reads p s d _ _ _ _ a.4 n) o o i j (omega arith) z x

-- Only a pattern and a dyn trait path start productions before the depth is raised. Neither starts a pattern or a dyn
-- trait path.

pub all_below : (kind : Kind) → IsTrue (is_below 2 kind)
all_below a_path = refl
all_below _ = refl

pub below_rank : (r : ℕ) (kind : Kind) → IsTrue (is_below r kind) → rank kind < r
below_rank zero kind h = absurd (cc h)
below_rank (suc r) a_pattern h = let l : 0 < r = ltb-true 0 r h in omega (arith, l)
below_rank (suc r) a_trait_path h = let l : 0 < r = ltb-true 0 r h in omega (arith, l)
below_rank (suc r) _ h = omega arith

pub lowest : (kind k l : Kind) → IsTrue (is_below (rank kind) k) → IsTrue (is_below (rank k) l) → ⊥
lowest kind k l h e = let x = below_rank (rank kind) k h in let y = below_rank (rank k) l e in let z = below_rank 2 kind (all_below kind) in omega (arith, x, y, z)

level_reads : (symbol : List ℕ) (folds : Bool) (d : ℕ) (ls : List Level) → ReadBelow symbol folds d ls → ReadAt 2 symbol folds d (level_of symbol folds ls)
unfolding parse level_of
level_reads symbol folds d ls m w x h kind value n r i j b e =
    let at : Level → Bool → ℕ → Context = λ here pr k. record { symbol = symbol; folds = folds; printed = pr; here = here; deeper = ls; lifetimes = k } in
    let inner : Level = λ pr k v o j. parse (items k v) (at nowhere pr o) (Some j) in
    let low : ReadAt (rank kind) symbol folds d inner = λ w y h k v o r. reads (items k v) (at nowhere y o) d _ _ _ _ (fits k v) (record { laxer = h; here = λ _ _ _ l _ _ q. absurd (lowest kind k l r q); below = m }) in
    reads (items kind value) (at inner x n) d _ _ _ _ (fits kind value) (record { laxer = h; here = low; below = m }) i j b e

levels_read : (symbol : List ℕ) (folds : Bool) (n d : ℕ) → n + d ≡ max_depth → ReadBelow symbol folds d (levels symbol folds n)
unfolding levels
levels_read symbol folds zero d e = omega arith
levels_read symbol folds (suc n) d e = (level_reads symbol folds (d + 1) (levels symbol folds n) (levels_read symbol folds n (d + 1) (omega arith)), levels_read symbol folds n (d + 1) (omega arith))

-- by a rule no stricter than the one that the parse requires
pub unit_reads : (symbol : List ℕ) (folds : Bool) (w : Rule) (x : Bool) (kind : Kind) (value : Bool) (i j d n : ℕ) → IsLaxer w (rule x folds) → d ≤ max_depth → i ≤ length symbol → Spells symbol w d n (items kind value) i j → Reads w x j (read_at symbol folds x kind i d n value)
unfolding read_at
unit_reads symbol folds w x kind value i j d n l h b e = level_reads symbol folds d (levels symbol folds (max_depth - d)) (levels_read symbol folds (max_depth - d) d (omega arith)) w x l kind value n (all_below kind) i j b e

pub spells_read : (symbol : List ℕ) (folds c : Bool) (kind : Kind) (value : Bool) (i j d n : ℕ) → d ≤ max_depth → i ≤ length symbol → Spells symbol (rule c folds) d n (items kind value) i j → (read_at symbol folds c kind i d n value).place ≡ Some j
spells_read symbol folds c kind value i j d n h b e = (unit_reads symbol folds (rule c folds) c kind value i j d n (itself (rule c folds)) h b e).0
