-- The trace of a parse that is not printed. It does not depend on the lifetimes in scope or on the value position.
use Rattle.std.specs.Prelude.{ℕ, zero, suc, ◌&&◌, codes, slice_get}
use Rattle.std.proofs.Common.{◌≡◌, Bool, true, false, cond, List, [], ◌∷◌, length, Option, Some, None, refl, sym, ap, ◌∙◌, ◌+◌, ◌-◌, ◌*◌}
use Prim.Native.Char.{code}
use Prim.Native.String.{String}
use Rattle.demangle_symbol.specs.Digits.{is_byte}
use Rattle.demangle_symbol.specs.Primitives.{Name, Read, byte_at, namespace_at, integer_at, optional_at, identifier_at, nibbles_at}
use Rattle.demangle_symbol.specs.Names.{name_pieces}
use Rattle.demangle_v0_grammar.specs.Items.{Text, Kind, a_path, a_constant, a_trait_path, Items, done, invalid, print, print_plain, byte, namespace, integer, optional, identifier, nibbles, peek, next, if_ok, until_end, raise, unit, child, skip, folded, target, lifetime, binder, leave_open, dyn_trait, bindings}
use Rattle.demangle_v0_grammar.specs.Table.{items, is_among, row_of, path, path_rows, constant, constant_rows, variant, variant_rows, print_str}
use Rattle.demangle_v0_grammar.specs.Reading.{Form, looked}
use Rattle.demangle_v0_grammar.specs.Reading.{Tree, piece, Place, Outcome, Level, Context, at_place, failed_with, after_error, parse, repetitions, primitive_outcome, bound_by, followed_by, followed_open, with_tree, binding_separator, name_equals, angle_if_open, all_pieces, primitive, byte_choice, peek_outcome, level_of, levels, nowhere}
use Rattle.demangle_v0_grammar.specs.Traces.{Event, text_if, Trace, of, events, and_then, with_looks}

abbrev pub at : List ℕ → Bool → Bool → Level → List Level → ℕ → Context
at b folds pr here deeper m = record { symbol = b; folds = folds; printed = pr; here = here; deeper = deeper; lifetimes = m }

-- a context in which nothing is printed
abbrev silent : List ℕ → Bool → Level → List Level → ℕ → Context
silent b folds here deeper m = at b folds false here deeper m

-- A fact on results that holds after a look holds of the primitives, choices and repetitions too.
module _ {X : Type 0} (tell : Outcome → X) (look : (k : ℕ) (o o' : Outcome) → tell o ≡ tell o' → tell (with_tree (looked k) o) ≡ tell (with_tree (looked k) o')) where
  pub worded : {A : Type 0} (b : List ℕ) (folds pr : Bool) (l l' : Level) (ls : List Level) (m n : ℕ) (reads : List ℕ → ℕ → Read A) (f g : A → Place → Outcome) → ((v : A) (x : Place) → tell (f v x) ≡ tell (g v x)) → (j : Place)
      → tell (primitive (at b folds pr l ls m) j reads f) ≡ tell (primitive (at b folds pr l' ls n) j reads g)
  worded b folds pr l l' ls m n reads f g h None = refl
  worded b folds pr l l' ls m n reads f g h (Some j) = go (reads b j)
    where
      go : (r : Read _) → tell (primitive_outcome (length b) j f r) ≡ tell (primitive_outcome (length b) j g r)
      go None = refl
      go (Some r) = look (4 * (r.1 - j + 1)) _ _ (h r.0 (Some r.1))

  pub peeked : (f g : ℕ → Outcome) (r : Option ℕ) → ((v : ℕ) → tell (f v) ≡ tell (g v)) → tell (peek_outcome f r) ≡ tell (peek_outcome g r)
  peeked f g None h = refl
  peeked f g (Some v) h = look 1 (f v) (g v) (h v)

  pub forked : (c : Bool) (f g f' g' : Place → Outcome) (i : Place) → ((x : Place) → tell (f x) ≡ tell (g x)) → ((x : Place) → tell (f' x) ≡ tell (g' x)) → tell (byte_choice c f f' i) ≡ tell (byte_choice c g g' i)
  forked c f g f' g' None h k = k None
  forked true f g f' g' (Some i) h k = look 1 (f (Some (i + 1))) (g (Some (i + 1))) (h (Some (i + 1)))
  forked false f g f' g' (Some i) h k = look 1 (f' (Some i)) (g' (Some i)) (k (Some i))

  pub turned : ((o o' : Outcome) (f g : Place → Outcome) → tell o ≡ tell o' → ((x : Place) → tell (f x) ≡ tell (g x)) → tell (followed_by o f) ≡ tell (followed_by o' g))
      → (k : ℕ) (b : List ℕ) (f g : Place → Outcome) → ((x : Place) → tell (f x) ≡ tell (g x)) → (i : Place) → tell (repetitions k b f i) ≡ tell (repetitions k b g i)
  unfolding repetitions
  turned on k b f g h None = refl
  turned on zero b f g h (Some i) = refl
  turned on (suc k) b f g h (Some i) =
      forked (is_byte b i (code "E")) at_place at_place (λ j. followed_by (f j) (repetitions k b f)) (λ j. followed_by (g j) (repetitions k b g)) (Some i) (λ x. refl)
      (λ j. on (f j) (g j) (repetitions k b f) (repetitions k b g) (h j) (turned on k b f g h))

-- items without their texts, the lifetimes that they name, and the value position
abbrev mute : Items → Items
mute done = done
mute invalid = invalid
mute (print t p) = mute p
mute (print_plain t p) = mute p
mute (byte f) = byte (λ v. mute (f v))
mute (namespace f) = namespace (λ v. mute (f v))
mute (integer f) = integer (λ v. mute (f v))
mute (optional tag f) = optional tag (λ v. mute (f v))
mute (identifier f) = identifier (λ v. mute (f v))
mute (nibbles f) = nibbles (λ v. mute (f v))
mute (peek f) = peek (λ v. mute (f v))
mute (next b p q) = next b (mute p) (mute q)
mute (if_ok p q) = if_ok (mute p) (mute q)
mute (until_end p q) = until_end (mute p) (mute q)
mute (raise p) = raise (mute p)
mute (unit p q) = unit (mute p) (mute q)
mute (child kind value p) = child kind false (mute p)
mute (skip p) = skip (mute p)
mute (folded p q) = folded (mute p) (mute q)
mute (target kind value) = target kind false
mute (lifetime k p) = mute p
mute (binder k p) = mute p
mute (leave_open p) = leave_open (mute p)
mute (dyn_trait p) = dyn_trait (mute p)
mute (bindings o p) = bindings o (mute p)

-- both have the same trace if they are not printed
abbrev Alike : Form → Outcome → Outcome → Type 0
Alike form o o' = of form false o ≡ of form false o'

-- a level whose parses have the same trace if they are not printed
abbrev pub Uniform : Form → Level → Type 0
Uniform form l = (kind : Kind) (v w : Bool) (m n i : ℕ) → of form false (l false kind v m i) ≡ of form false (l false kind w n i)

abbrev pub AllUniform : Form → List Level → Type 0
AllUniform form [] = Unit {0}
AllUniform form (l ∷ ls) = Uniform form l × AllUniform form ls

said_plain : (plain : Bool) (t : Text) (xs : List Event) → text_if (plain && false) t xs ≡ xs
said_plain true t xs = refl
said_plain false t xs = refl

module _ (form : Form) where
  alike_followed : (o o' : Outcome) (f g : Place → Outcome) → Alike form o o' → ((x : Place) → Alike form (f x) (g x)) → Alike form (followed_by o f) (followed_by o' g)
  alike_followed o o' f g e h =
      ap (λ (z : Trace). and_then z (λ x _. of form false (f x))) e
      ∙ ap (λ (z : Trace). and_then (of form false o') (λ _ _. z)) (h o'.place)

  look : (k : ℕ) (o o' : Outcome) → Alike form o o' → Alike form (with_tree (looked k) o) (with_tree (looked k) o')
  look k o o' e = ap (with_looks (k ∷ [])) e

  pieces_quiet : (ts : List Text) (t : Tree) → events form.include_hash false (all_pieces ts t) ≡ events form.include_hash false t
  pieces_quiet [] t = refl
  pieces_quiet (x ∷ ts) t = pieces_quiet ts t

  alike_named : (a : Name) (o : Outcome) → Alike form (with_tree (name_equals a) o) o
  alike_named a o = ap (λ xs. record { events = xs; place = o.place; is_bracket_open = o.is_bracket_open }) (pieces_quiet (name_pieces a) (piece (codes " = ") o.tree))

  alike_opened : (o : Bool) (x : Outcome) → Alike form (with_tree (binding_separator o) x) x
  alike_opened true x = refl
  alike_opened false x = refl

  alike_bound : (k : ℕ) (b : List ℕ) (folds : Bool) (here : Level) (deeper : List Level) (m n : ℕ) (f g : Place → Outcome) → ((x : Place) → Alike form (f x) (g x)) → (o : Bool) (i : Place) → Alike form (bound_by k (silent b folds here deeper m) f o i) (bound_by k (silent b folds here deeper n) g o i)
  unfolding bound_by
  alike_bound k b folds here deeper m n f g h o None = refl
  alike_bound zero b folds here deeper m n f g h o (Some i) = refl
  alike_bound (suc k) b folds here deeper m n f g h o (Some i) =
      let s = silent b folds here deeper m in
      let t = silent b folds here deeper n in
      let one : Name → Place → Outcome = λ a x. with_tree (name_equals a) (followed_by (f x) (bound_by k s f true)) in
      let other : Name → Place → Outcome = λ a x. with_tree (name_equals a) (followed_by (g x) (bound_by k t g true)) in
      forked (of form false) look (is_byte b i (code "p"))
      (λ j. with_tree (binding_separator o) (primitive s j identifier_at one)) (λ j. with_tree (binding_separator o) (primitive t j identifier_at other)) (angle_if_open o) (angle_if_open o) (Some i)
      (λ j. alike_opened o (primitive s j identifier_at one)
      ∙ (worded (of form false) look b folds false here here deeper m n identifier_at one other
      (λ a x. alike_named a (followed_by (f x) (bound_by k s f true))
      ∙ (alike_followed (f x) (g x) (bound_by k s f true) (bound_by k t g true) (h x) (alike_bound k b folds here deeper m n f g h true)
      ∙ sym (alike_named a (followed_by (g x) (bound_by k t g true))))) j
      ∙ sym (alike_opened o (primitive t j identifier_at other)))) (λ x. refl)

  alike_open : (k : ℕ) (b : List ℕ) (folds : Bool) (here : Level) (deeper : List Level) (m n : ℕ) (f g : Place → Outcome) → ((x : Place) → Alike form (f x) (g x)) → (o o' : Outcome) → Alike form o o'
      → Alike form (followed_open o (bound_by k (silent b folds here deeper m) f)) (followed_open o' (bound_by k (silent b folds here deeper n) g))
  alike_open k b folds here deeper m n f g h o o' e =
      ap (λ (z : Trace). and_then z (λ x p. of form false (bound_by k (silent b folds here deeper m) f p x))) e
      ∙ ap (λ (z : Trace). and_then (of form false o') (λ _ _. z)) (alike_bound k b folds here deeper m n f g h o'.is_bracket_open o'.place)

  muted : (p : Items) (b : List ℕ) (folds : Bool) (here : Level) (deeper : List Level) (m n : ℕ) → Uniform form here → AllUniform form deeper → (i : Place) → Alike form (parse p (silent b folds here deeper m) i) (parse (mute p) (silent b folds here deeper n) i)
  unfolding parse
  muted (print t p) b folds here deeper m n h a i = muted p b folds here deeper m n h a i
  muted (print_plain t p) b folds here deeper m n h a i = let o = parse p (silent b folds here deeper m) i in ap (λ xs. record { events = xs; place = o.place; is_bracket_open = o.is_bracket_open }) (said_plain form.include_hash t (events form.include_hash false o.tree)) ∙ muted p b folds here deeper m n h a i
  muted (byte f) b folds here deeper m n h a i = worded (of form false) look b folds false here here deeper m n byte_at (λ v. parse (f v) (silent b folds here deeper m)) (λ v. parse (mute (f v)) (silent b folds here deeper n)) (λ v. muted (f v) b folds here deeper m n h a) i
  muted (namespace f) b folds here deeper m n h a i = worded (of form false) look b folds false here here deeper m n namespace_at (λ v. parse (f v) (silent b folds here deeper m)) (λ v. parse (mute (f v)) (silent b folds here deeper n)) (λ v. muted (f v) b folds here deeper m n h a) i
  muted (integer f) b folds here deeper m n h a i = worded (of form false) look b folds false here here deeper m n integer_at (λ v. parse (f v) (silent b folds here deeper m)) (λ v. parse (mute (f v)) (silent b folds here deeper n)) (λ v. muted (f v) b folds here deeper m n h a) i
  muted (optional tag f) b folds here deeper m n h a i = worded (of form false) look b folds false here here deeper m n (optional_at tag) (λ v. parse (f v) (silent b folds here deeper m)) (λ v. parse (mute (f v)) (silent b folds here deeper n)) (λ v. muted (f v) b folds here deeper m n h a) i
  muted (identifier f) b folds here deeper m n h a i = worded (of form false) look b folds false here here deeper m n identifier_at (λ v. parse (f v) (silent b folds here deeper m)) (λ v. parse (mute (f v)) (silent b folds here deeper n)) (λ v. muted (f v) b folds here deeper m n h a) i
  muted (nibbles f) b folds here deeper m n h a i = worded (of form false) look b folds false here here deeper m n nibbles_at (λ v. parse (f v) (silent b folds here deeper m)) (λ v. parse (mute (f v)) (silent b folds here deeper n)) (λ v. muted (f v) b folds here deeper m n h a) i
  muted (peek f) b folds here deeper m n h a (Some i) = peeked (of form false) look (λ v. parse (f v) (silent b folds here deeper m) (Some i)) (λ v. parse (mute (f v)) (silent b folds here deeper n) (Some i)) (slice_get b i) (λ v. muted (f v) b folds here deeper m n h a (Some i))
  muted (next c p q) b folds here deeper m n h a None = muted q b folds here deeper m n h a None
  muted (next c p q) b folds here deeper m n h a (Some i) = forked (of form false) look (is_byte b i c) (parse p (silent b folds here deeper m)) (parse (mute p) (silent b folds here deeper n)) (parse q (silent b folds here deeper m)) (parse (mute q) (silent b folds here deeper n)) (Some i)
      (muted p b folds here deeper m n h a) (muted q b folds here deeper m n h a)
  muted (if_ok p q) b folds here deeper m n h a None = muted q b folds here deeper m n h a None
  muted (if_ok p q) b folds here deeper m n h a (Some i) = muted p b folds here deeper m n h a (Some i)
  muted (until_end p q) b folds here deeper m n h a i = alike_followed (repetitions (suc (length b)) b (parse p (silent b folds here deeper m)) i) (repetitions (suc (length b)) b (parse (mute p) (silent b folds here deeper n)) i) (parse q (silent b folds here deeper m)) (parse (mute q) (silent b folds here deeper n))
      (turned (of form false) look alike_followed (suc (length b)) b (parse p (silent b folds here deeper m)) (parse (mute p) (silent b folds here deeper n)) (muted p b folds here deeper m n h a) i) (muted q b folds here deeper m n h a)
  muted (raise p) b folds here (l ∷ ls) m n h a i = muted p b folds l ls m n a.0 a.1 i
  muted (unit p q) b folds here deeper m n h a i = alike_followed (parse p (silent b folds here deeper m) i) (parse (mute p) (silent b folds here deeper n) i) (parse q (silent b folds here deeper m)) (parse (mute q) (silent b folds here deeper n)) (muted p b folds here deeper m n h a i) (muted q b folds here deeper m n h a)
  muted (child kind value p) b folds here deeper m n h a None = alike_followed (failed_with after_error) (failed_with after_error) (parse p (silent b folds here deeper m)) (parse (mute p) (silent b folds here deeper n)) refl (muted p b folds here deeper m n h a)
  muted (child kind value p) b folds here deeper m n h a (Some i) = alike_followed (here false kind value m i) (here false kind false n i) (parse p (silent b folds here deeper m)) (parse (mute p) (silent b folds here deeper n)) (h kind value false m n i) (muted p b folds here deeper m n h a)
  muted (skip p) b folds here deeper m n h a None = muted p b folds here deeper m n h a None
  muted (skip p) b folds here deeper m n h a (Some i) = alike_followed (here false a_path false m i) (here false a_path false n i) (parse p (silent b folds here deeper m)) (parse (mute p) (silent b folds here deeper n)) (h a_path false false m n i) (muted p b folds here deeper m n h a)
  muted (folded p q) b folds here deeper m n h a i = alike_followed (parse p (silent b folds here deeper m) i) (parse (mute p) (silent b folds here deeper n) i) (parse q (silent b folds here deeper m)) (parse (mute q) (silent b folds here deeper n)) (muted p b folds here deeper m n h a i) (muted q b folds here deeper m n h a)
  muted (target kind value) b folds here [] m n h a (Some i) = refl
  muted (target kind value) b folds here (l ∷ ls) m n h a (Some i) = refl
  muted (lifetime k p) b folds here deeper m n h a i = muted p b folds here deeper m n h a i
  muted (binder k p) b folds here deeper m n h a i = muted p b folds here deeper (m + k) n h a i
  muted (leave_open p) b folds here deeper m n h a i = ap (λ (z : Trace). record z { is_bracket_open = true }) (muted p b folds here deeper m n h a i)
  muted (dyn_trait p) b folds here deeper m n h a None = alike_open (suc (length b)) b folds here deeper m n (parse p (silent b folds here deeper m)) (parse (mute p) (silent b folds here deeper n)) (muted p b folds here deeper m n h a) (failed_with after_error) (failed_with after_error) refl
  muted (dyn_trait p) b folds here deeper m n h a (Some i) = alike_open (suc (length b)) b folds here deeper m n (parse p (silent b folds here deeper m)) (parse (mute p) (silent b folds here deeper n)) (muted p b folds here deeper m n h a) (here false a_trait_path false m i) (here false a_trait_path false n i) (h a_trait_path false false m n i)
  muted (bindings o p) b folds here deeper m n h a i = alike_bound (suc (length b)) b folds here deeper m n (parse p (silent b folds here deeper m)) (parse (mute p) (silent b folds here deeper n)) (muted p b folds here deeper m n h a) o i
  muted _ b folds here deeper m n h a i = refl

-- The table.

-- the same rows, except for texts, lifetimes and the value position
abbrev SameRows : List (String × Items) → List (String × Items) → Type 0
SameRows [] [] = Unit {0}
SameRows (r ∷ rs) (s ∷ ss) = (r.0 ≡ s.0) × (mute r.1 ≡ mute s.1) × SameRows rs ss
SameRows _ _ = ⊥

same_choice : (c : Bool) (p q p' q' : Items) → mute p ≡ mute q → mute p' ≡ mute q' → mute (cond c p p') ≡ mute (cond c q q')
same_choice true p q p' q' e f = e
same_choice false p q p' q' e f = f

same_row : (tag : ℕ) (p : Items) (rs ss : List (String × Items)) → SameRows rs ss → mute (row_of tag p rs) ≡ mute (row_of tag p ss)
same_row tag p [] [] h = refl
same_row tag p (r ∷ rs) (s ∷ ss) h =
    ap (λ (x : String). mute (cond (is_among tag (codes x)) r.1 (row_of tag p rs))) h.0
    ∙ same_choice (is_among tag (codes s.0)) r.1 s.1 (row_of tag p rs) (row_of tag p ss) h.1 (same_row tag p rs ss h.2)
same_row tag p _ _ h = absurd h

same_for_all : {A B : Type 0} {f g : A → B} → ((x : A) → f x ≡ g x) → f ≡ g
same_for_all h = λ i x. h x i

path_same : (tag : ℕ) → mute (path true tag) ≡ mute (path false tag)
path_same tag = same_row tag invalid (path_rows true) (path_rows false) ((refl, refl, (refl, refl, (refl, refl, (refl, refl, (refl, refl, (refl, refl, (refl, refl, tt))))))))

variant_same : (tag : ℕ) → mute (variant done tag) ≡ mute (variant (print_str "}" done) tag)
variant_same tag = same_row tag invalid (variant_rows done) (variant_rows (print_str "}" done)) (refl, refl, (refl, refl, (refl, refl, tt)))

constant_same : (tag : ℕ) → mute (constant true tag) ≡ mute (constant false tag)
constant_same tag = same_row tag invalid (constant_rows true tag) (constant_rows false tag)
    (refl, refl, (refl, refl, (refl, refl, (refl, refl, (refl, refl, (refl, refl, (refl, refl, (refl, refl, (refl, refl, (refl, refl, (refl, ap (λ (f : ℕ → Items). child a_path false (byte f)) (same_for_all variant_same), (refl, refl, tt))))))))))))

items_same : (kind : Kind) → mute (items kind true) ≡ mute (items kind false)
items_same a_path = ap (λ (f : ℕ → Items). raise (byte f)) (same_for_all path_same)
items_same a_constant = ap (λ (f : ℕ → Items). byte (λ tag. raise (f tag))) (same_for_all constant_same)
items_same _ = refl

items_alike : (kind : Kind) (v w : Bool) → mute (items kind v) ≡ mute (items kind w)
items_alike kind true false = items_same kind
items_alike kind false true = sym (items_same kind)
items_alike kind _ _ = refl

-- The levels.

unit_uniform : (form : Form) (b : List ℕ) (folds : Bool) (here : Level) (deeper : List Level) → Uniform form here → AllUniform form deeper → (kind : Kind) (v w : Bool) (m n : ℕ) (i : Place)
    → of form false (parse (items kind v) (silent b folds here deeper m) i) ≡ of form false (parse (items kind w) (silent b folds here deeper n) i)
unit_uniform form b folds here deeper h a kind v w m n i =
    muted form (items kind v) b folds here deeper m 0 h a i
    ∙ (ap (λ (p : Items). of form false (parse p (silent b folds here deeper 0) i)) (items_alike kind v w)
    ∙ sym (muted form (items kind w) b folds here deeper n 0 h a i))

level_uniform : (form : Form) (b : List ℕ) (folds : Bool) (ls : List Level) → AllUniform form ls → Uniform form (level_of b folds ls)
unfolding level_of
level_uniform form b folds ls a kind v w m n i =
    let inner : Level = λ pr k u o j. parse (items k u) (record { symbol = b; folds = folds; printed = pr; here = nowhere; deeper = ls; lifetimes = o }) (Some j) in
    unit_uniform form b folds inner ls (λ k x y o o' j. unit_uniform form b folds nowhere ls (λ _ _ _ _ _ _. refl) a k x y o o' (Some j)) a kind v w m n (Some i)

pub levels_uniform : (form : Form) (b : List ℕ) (folds : Bool) (left : ℕ) → AllUniform form (levels b folds left)
unfolding levels
levels_uniform form b folds zero = tt
levels_uniform form b folds (suc left) = (level_uniform form b folds (levels b folds left) (levels_uniform form b folds left), levels_uniform form b folds left)

-- a production that is not printed: its trace depends on neither the lifetimes in scope nor the value position
pub silent_unit : (form : Form) (b : List ℕ) (folds : Bool) (left : ℕ) (kind : Kind) (v w : Bool) (m n i : ℕ) → of form false (level_of b folds (levels b folds left) false kind v m i) ≡ of form false (level_of b folds (levels b folds left) false kind w n i)
silent_unit form b folds left kind v w m n i = level_uniform form b folds (levels b folds left) (levels_uniform form b folds left) kind v w m n i
