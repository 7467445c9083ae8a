-- Elements of lists: none is read after the last byte of the symbol, and each one before it ends at a later place.
use Rattle.std.specs.Prelude.{ℕ, suc, ◌<◌, ◌≤◌, nat_le}
use Rattle.std.proofs.Common.{◌≡◌, Bool, true, false, List, [], ◌∷◌, length, Some, None, refl, sym, ap, ◌+◌, ◌-◌, subst, arith}
use Rattle.std.proofs.lemmas.Option.{slice_get_past}
use Rattle.std.proofs.lemmas.Bool.{leb-true, leb-false}
use Prim.Native.Char.{code}
use Rattle.demangle_symbol.specs.Digits.{is_byte}
use Rattle.demangle_symbol.specs.Primitives.{Read, byte_at, optional_at, identifier_at}
use Rattle.demangle_v0_grammar.specs.Items.{Text, Kind, a_path, a_type, a_constant, a_pattern, a_trait_path, Items, done, print, byte, raise, identifier, child, dyn_trait}
use Rattle.demangle_v0_grammar.specs.Table.{items, path, constant, pattern_of, binding_value, type_inside, argument, field, constant_inside, print_str, print_name}
use Rattle.demangle_v0_grammar.specs.Reading.{Form, looked, node, Place, Outcome, Level, Context, parse, repetitions, at_place, with_tree, followed_by, byte_choice, primitive_outcome, one_level_deeper, bound_by, level_of, levels, max_depth, nowhere}
use Rattle.demangle_symbol.proofs.Counts.{Placed, byte_placed, identifier_placed}
use Rattle.demangle_v0_grammar.proofs.ItemBudgets.{Fits}
use Rattle.demangle_v0_grammar.proofs.SpelledIsParsed.{there_placed}
use Rattle.demangle_v0_grammar.proofs.TableCost.{typed_cheap, inside_cheap, argument_fits, field_cheap, trait_cheap}
use Rattle.demangle_v0_grammar.proofs.Failed.{bound_failed}
use Rattle.demangle_v0_grammar.specs.Traces.{context_at}
use Rattle.demangle_v0_grammar.proofs.ParsedIsSpelled.{level_spelt, levels_spelt}
use Rattle.demangle_v0_grammar.proofs.Repetitions.{Advances, Keeps, within_later, all_repetitions, repetitions_on, advances}

placed_none : {A : Type 0} (i : ℕ) (s : List ℕ) (r : Read A) → Placed (i + 1) s r → length s ≤ i → r ≡ None
placed_none i s None p h = refl
placed_none i s (Some r) p h = absurd (omega (arith, p.0, p.1, h))

no_byte : (s : List ℕ) (i b : ℕ) → length s ≤ i → is_byte s i b ≡ false
no_byte s i b h = go (is_byte s i b) refl
  where
    go : (c : Bool) → is_byte s i b ≡ c → c ≡ false
    go false e = refl
    go true e = absurd (omega (arith, there_placed s b i e, h))

no_primitive : {A : Type 0} (n i : ℕ) (f : A → Place → Outcome) (r : Read A) → r ≡ None → (primitive_outcome n i f r).place ≡ None
no_primitive n i f r e = subst (λ r. (primitive_outcome n i f r).place ≡ None) (sym e) refl

no_fork : (c : Bool) (f g : Place → Outcome) (i : ℕ) → c ≡ false → (g (Some i)).place ≡ None → (byte_choice c f g (Some i)).place ≡ None
no_fork c f g i e h = subst (λ c. (byte_choice c f g (Some i)).place ≡ None) (sym e) h

no_raise : (ls : List Level) (f : Level → List Level → Place → Outcome) (i : ℕ) → ((l : Level) (ls : List Level) → (f l ls (Some i)).place ≡ None) → (one_level_deeper ls f (Some i)).place ≡ None
no_raise [] f i h = refl
no_raise (l ∷ ls) f i h = h l ls

no_tag : (f : ℕ → Items) (s : Context) (i : ℕ) → length s.symbol ≤ i → (parse (byte f) s (Some i)).place ≡ None
unfolding parse
no_tag f s i h = no_primitive (length s.symbol) i (λ c. parse (f c) s) (byte_at s.symbol i) (placed_none i s.symbol (byte_at s.symbol i) (byte_placed s.symbol i) h)

no_tagged : (tag : ℕ) (s : List ℕ) (i : ℕ) → length s ≤ i → optional_at tag s i ≡ Some (0, i)
unfolding optional_at
no_tagged tag s i h = rw (no_byte s i tag h) refl

no_path : (s : Context) (v : Bool) (i : ℕ) → length s.symbol ≤ i → (parse (items a_path v) s (Some i)).place ≡ None
unfolding parse
no_path s v i h = no_raise s.deeper (λ l ls. parse (byte (path v)) (record s { here = l; deeper = ls })) i (λ l ls. no_tag (path v) (record s { here = l; deeper = ls }) i h)

abbrev at : List ℕ → Bool → Bool → List Level → ℕ → Context
at b folds pr ls n = record { symbol = b; folds = folds; printed = pr; here = λ pr k v m j. parse (items k v) (record { symbol = b; folds = folds; printed = pr; here = nowhere; deeper = ls; lifetimes = m }) (Some j); deeper = ls; lifetimes = n }

no_unit : (b : List ℕ) (folds : Bool) (ls : List Level) (kind : Kind) (pr v : Bool) (n i : ℕ) → length b ≤ i → (level_of b folds ls pr kind v n i).place ≡ None
unfolding parse level_of
no_unit b folds ls a_path pr v n i h = no_path (at b folds pr ls n) v i h
no_unit b folds ls a_type pr v n i h = no_fork (is_byte b i (code "w")) _ _ i (no_byte b i (code "w") h) (rw (slice_get_past b i h) refl)
no_unit b folds ls a_constant pr v n i h = no_tag (λ tag. raise (constant v tag)) (at b folds pr ls n) i h
no_unit b folds ls a_pattern pr v n i h = no_tag pattern_of (at b folds pr ls n) i h
no_unit b folds ls a_trait_path pr v n i h = no_fork (is_byte b i (code "B")) _ _ i (no_byte b i (code "B") h) (no_fork (is_byte b i (code "I")) _ _ i (no_byte b i (code "I") h) (no_path (at b folds pr ls n) false i h))

-- the elements of lists, with `left` depths left and `n` lifetimes in scope
pub record Element (b : List ℕ) (form : Form) (out : Bool) (left n : ℕ) (p : Items) : Type 0 where
  pub advances : Advances b (parse p (context_at b form out left n))
  pub beyond : (i : ℕ) → length b ≤ i → (parse p (context_at b form out left n) (Some i)).place ≡ None

moving : (b : List ℕ) (form : Form) (out : Bool) (left n : ℕ) (p : Items) (c : Bool) (r e k : ℕ) (g : Bool) → Fits c r e k g p → k < e → left ≤ max_depth → Advances b (parse p (context_at b form out left n))
moving b form out left n p c r e k g f m l =
    advances p (context_at b form out left n) (max_depth - left) c r e k g f m
    (level_spelt b form.fold_arguments (max_depth - left) (levels b form.fold_arguments left) (levels_spelt b form.fold_arguments left (max_depth - left) (omega arith)))
    (levels_spelt b form.fold_arguments left (max_depth - left) (omega arith))

module _ (b : List ℕ) (form : Form) (out : Bool) (left n : ℕ) (l : left ≤ max_depth) where
  pub type_element : Element b form out left n type_inside
  unfolding parse
  type_element = record { advances = moving b form out left n type_inside true 2 8 2 true (typed_cheap 8 2 (omega arith) (omega arith)) (omega arith) l; beyond = λ i h. no_unit b form.fold_arguments (levels b form.fold_arguments left) a_type out false n i h }

  pub constant_element : Element b form out left n constant_inside
  unfolding parse
  constant_element = record { advances = moving b form out left n constant_inside true 2 8 0 true (inside_cheap 8 0 (omega arith)) (omega arith) l; beyond = λ i h. no_unit b form.fold_arguments (levels b form.fold_arguments left) a_constant out true n i h }

  pub pattern_element : Element b form out left n (child a_pattern false done)
  unfolding parse
  pattern_element = record { advances = moving b form out left n (child a_pattern false done) true 2 8 0 true (omega arith, refl, omega arith) (omega arith) l; beyond = λ i h. no_unit b form.fold_arguments (levels b form.fold_arguments left) a_pattern out false n i h }

  pub argument_element : Element b form out left n argument
  unfolding parse
  argument_element = record {
    advances = moving b form out left n argument true 1 7 6 true (argument_fits true 0) (omega arith) l;
    beyond = λ i h. no_fork (is_byte b i (code "L")) _ _ i (no_byte b i (code "L") h)
        (no_fork (is_byte b i (code "K")) _ _ i (no_byte b i (code "K") h) (no_unit b form.fold_arguments (levels b form.fold_arguments left) a_type out false n i h));
  }

  pub field_element : Element b form out left n field
  unfolding parse
  field_element = record { advances = moving b form out left n field true 2 7 6 true field_cheap (omega arith) l; beyond = past }
    where
      past : (i : ℕ) → length b ≤ i → (parse field (context_at b form out left n) (Some i)).place ≡ None
      past i h =
          let at = context_at b form out left n in
          let reads : ℕ → Place → Outcome = λ _. parse (identifier (λ a. print_name a (print_str ": " constant_inside))) at in
          subst (λ r. (primitive_outcome (length b) i reads r).place ≡ None) (sym (no_tagged 115 b i h))
          (no_primitive (length b) i (λ a. parse (print_name a (print_str ": " constant_inside)) at) (identifier_at b i) (placed_none i b (identifier_at b i) (identifier_placed b i) h))

  pub dyn_trait_element : Element b form out left n (dyn_trait binding_value)
  unfolding parse
  dyn_trait_element = record { advances = moving b form out left n (dyn_trait binding_value) true 2 7 6 true trait_cheap (omega arith) l; beyond = past }
    where
      past : (i : ℕ) → length b ≤ i → (parse (dyn_trait binding_value) (context_at b form out left n) (Some i)).place ≡ None
      past i h =
          let at = context_at b form out left n in
          let o = level_of b form.fold_arguments (levels b form.fold_arguments left) out a_trait_path false n i in
          subst (λ x. (bound_by (suc (length b)) at (parse binding_value at) o.is_bracket_open x).place ≡ None) (sym (no_unit b form.fold_arguments (levels b form.fold_arguments left) a_trait_path out false n i h)) (bound_failed (suc (length b)) at (parse binding_value at) o.is_bracket_open)

  -- the value of a binding
  pub bound_keeps : Keeps b (parse binding_value (context_at b form out left n))
  bound_keeps i h = within_later b i (i + 1) (parse binding_value (context_at b form out left n) (Some i)).place (omega arith) (moving b form out left n binding_value true 1 7 5 true (argument_fits true 0).2 (omega arith) l i h)

-- an iteration for an element after a text, and all iterations again
pub element_on : (b : List ℕ) (form : Form) (out : Bool) (left n : ℕ) (p : Items) (text : Text) (i : ℕ) → Element b form out left n p → is_byte b i (code "E") ≡ false →
    let f : Place → Outcome = parse (print text p) (context_at b form out left n) in
    all_repetitions b f (Some i) ≡ with_tree (looked 1) (followed_by (f (Some i)) (all_repetitions b f))
unfolding parse repetitions
element_on b form out left n p text i el e = go (nat_le i (length b)) refl
  where
    f : Place → Outcome
    f = parse (print text p) (context_at b form out left n)

    go : (c : Bool) → nat_le i (length b) ≡ c → all_repetitions b f (Some i) ≡ with_tree (looked 1) (followed_by (f (Some i)) (all_repetitions b f))
    go true c = repetitions_on b f i el.advances (leb-true _ _ c) e
    go false c = subst (λ c. byte_choice c at_place (λ j. followed_by (f j) (repetitions (length b) b f)) (Some i) ≡ with_tree (looked 1) (followed_by (f (Some i)) (all_repetitions b f))) (sym e)
        (ap (λ o. with_tree (looked 1) (with_tree (node (f (Some i)).tree) o)) (rw (el.beyond i (omega (arith, leb-false _ _ c))) refl))
