-- The traces of types, up to their next nested production.
use Rattle.std.specs.Prelude.{ℕ, zero, suc, ◌<◌, ◌≤◌, ◌==◌, nat_le, codes, slice_get, if◌then◌else◌}
use Rattle.std.proofs.Common.{◌≡◌, Bool, true, false, cond, List, [], ◌∷◌, ◌++◌, length, Option, Some, None, refl, sym, ap, ◌∙◌, ◌+◌, ◌-◌, ◌*◌}
use Prim.Native.Char.{code}
use Prim.Native.String.{String}
use Rattle.demangle_v0_grammar.specs.Binders.{binder_texts, more_texts}
use Rattle.demangle_symbol.specs.Digits.{is_byte}
use Rattle.demangle_symbol.specs.Primitives.{Name, some_or, byte_at, optional_at, identifier_at}
use Rattle.demangle_symbol.specs.Names.{name_pieces}
use Rattle.demangle_v0_grammar.specs.Items.{Text, a_path, a_type, a_constant, Items, done, byte, child, raise, lifetime, bindings}
use Rattle.demangle_v0_grammar.specs.Table.{is_among, row_of, print_all, basic_types, row_text, in_binder, binding_value, after_tag, type_rows, type_after_tag, type_tagged}
use Rattle.demangle_v0_grammar.specs.Reading.{Form, Tree, nothing, piece, looked, Place, Outcome, Context, with_tree, followed_by, unit_outcome, parse, letter_of, all_pieces, new_lifetimes, binder_at, binding_separator, name_equals, bound_by, max_depth}
use Rattle.demangle_v0_grammar.specs.Traces.{Event, text_if, texts_then, events, Trace, of, empty_trace, with_looks, with_texts, context_at}
use Rattle.demangle_v0_grammar.proofs.ClosedUnits.{last_child}
use Rattle.demangle_v0_grammar.proofs.ListProgress.{bound_keeps}
use Rattle.demangle_v0_grammar.proofs.ListTraces.{followed, trace_as}
use Rattle.demangle_v0_grammar.proofs.Repetitions.{bindings_on}
use Rattle.demangle_v0_grammar.proofs.UnitTraces.{begins, raise_deep, raise_on}
use Rattle.demangle_v0_grammar.proofs.TraceLemmas.{said_append, said_both, pieces_trace}

-- Rows by their tags.

abbrev pub row_at : ℕ → List (String × Items) → Option Items
row_at tag [] = None
row_at tag (r ∷ rs) = if is_among tag (codes r.0) then Some r.1 else row_at tag rs

-- the same if the tag is not read yet
pub row_after : (tag : ℕ) (other : Items) (rs : List (String × Items)) → row_of tag other (after_tag rs) ≡ some_or other (row_at tag rs) (λ p. byte (λ _. p))
row_after tag other [] = refl
row_after tag other (r ∷ rs) = go (is_among tag (codes r.0)) (row_after tag other rs)
  where
    go : (c : Bool) → row_of tag other (after_tag rs) ≡ some_or other (row_at tag rs) (λ p. byte (λ _. p)) → cond c (byte (λ _. r.1)) (row_of tag other (after_tag rs)) ≡ some_or other (cond c (Some r.1) (row_at tag rs)) (λ p. byte (λ _. p))
    go true h = refl
    go false h = h

-- Texts.

pieces_then : (plain out : Bool) (ts : List Text) (ys : List Event) → events plain out (all_pieces ts nothing) ++ ys ≡ texts_then out ts ys
pieces_then plain out [] ys = refl
pieces_then plain out (x ∷ ts) ys = said_append out x (events plain out (all_pieces ts nothing)) ys ∙ ap (text_if out x) (pieces_then plain out ts ys)

said_quiet : (ts : List Text) (xs : List Event) → texts_then false ts xs ≡ xs
said_quiet [] xs = refl
said_quiet (t ∷ ts) xs = said_quiet ts xs

more_said : (plain : Bool) (m n : ℕ) (rest : Tree) → events plain true (new_lifetimes m n (piece (codes "> ") rest)) ≡ texts_then true (more_texts m n) (events plain true rest)
unfolding more_texts
more_said plain zero n rest = refl
more_said plain (suc m) n rest = ap (λ xs. text_if true (codes ", ") (text_if true (codes "'") xs))
    (pieces_trace plain true (letter_of n) (new_lifetimes m (n + 1) (piece (codes "> ") rest))
    ∙ (ap (texts_then true (letter_of n)) (more_said plain m (n + 1) rest) ∙ sym (said_both true (letter_of n) (more_texts m (n + 1)) (events plain true rest))))

-- a binder's texts, if they are printed
pub binder_said : (plain out : Bool) (m n : ℕ) (rest : Tree) → events plain out (binder_at out m n rest) ≡ texts_then out (binder_texts m n) (events plain out rest)
unfolding binder_texts
binder_said plain false m n rest = sym (said_quiet (binder_texts m n) (events plain false rest))
binder_said plain true zero n rest = refl
binder_said plain true (suc m) n rest = ap (λ xs. text_if true (codes "for<") (text_if true (codes "'") xs))
    (pieces_trace plain true (letter_of n) (new_lifetimes m (n + 1) (piece (codes "> ") rest))
    ∙ (ap (texts_then true (letter_of n)) (more_said plain m (n + 1) rest) ∙ sym (said_both true (letter_of n) (more_texts m (n + 1)) (events plain true rest))))

pub says_all : (form : Form) (out : Bool) (ts : List Text) (p : Items) (s : Context) (i : Place) → of form out (parse (print_all ts p) s i) ≡ with_texts out ts (of form out (parse p s i))
unfolding parse
says_all form out [] p s i = refl
says_all form out (t ∷ ts) p s i = ap (with_texts out (t ∷ [])) (says_all form out ts p s i)

-- a text, if there is one
abbrev pub if_so : Bool → String → List Text
if_so c text = if c then codes text ∷ [] else []

abbrev pub mark_of : Bool → Text
mark_of o = if o then codes ", " else codes "<"

module _ (form : Form) (b : List ℕ) (left n : ℕ) (p : Items) where
  pub lifetime_named : (k j : ℕ) → (k == 0) ≡ false → nat_le k n ≡ true → of form true (parse (lifetime k p) (context_at b form true left n) (Some j)) ≡ with_texts true (codes "'" ∷ letter_of (n - k)) (of form true (parse p (context_at b form true left n) (Some j)))
  unfolding parse
  lifetime_named k j e f = rw (e, f) (let h = of form true (parse p (context_at b form true left n) (Some j)) in ap (λ xs. trace_as xs h) (ap (λ xs. text_if true (codes "'") xs) (pieces_then form.include_hash true (letter_of (n - k)) h.events)))

  pub lifetime_wrong : (k j : ℕ) → (k == 0) ≡ false → nat_le k n ≡ false → of form true (parse (lifetime k p) (context_at b form true left n) (Some j)) ≡ with_texts true (codes "'" ∷ codes "{invalid syntax}" ∷ []) (of form true (parse p (context_at b form true left n) None))
  unfolding parse
  lifetime_wrong k j e f = rw (e, f) refl

-- Types.

module _ (form : Form) (out : Bool) (b : List ℕ) (left n : ℕ) where
  abbrev s : Context
  s = context_at b form out left n

  abbrev fault_of : String → Trace
  fault_of text = with_texts out (codes text ∷ []) (empty_trace None false)

  pub splat_reads : (value : Bool) (i : ℕ) → is_byte b i (code "w") ≡ true → of form out (unit_outcome s a_type value (Some i)) ≡ with_looks (1 ∷ []) (with_texts out (codes "#[splat] " ∷ []) (of form out (parse type_tagged s (Some (i + 1)))))
  unfolding parse
  splat_reads value i e = ap (of form out) (begins b form out left n a_type value i) ∙ rw e refl

  pub type_reads : (value : Bool) (i : ℕ) → is_byte b i (code "w") ≡ false → of form out (unit_outcome s a_type value (Some i)) ≡ with_looks (1 ∷ []) (of form out (parse type_tagged s (Some i)))
  unfolding parse
  type_reads value i e = ap (of form out) (begins b form out left n a_type value i) ∙ rw e refl

  pub tag_missing : (i : ℕ) → slice_get b i ≡ None → of form out (parse type_tagged s (Some i)) ≡ with_looks (1 ∷ []) (fault_of "{invalid syntax}")
  unfolding parse
  tag_missing i e = rw e refl

  pub basic_reads : (i c : ℕ) (t : Text) → slice_get b i ≡ Some c → row_text c basic_types ≡ Some t
      → of form out (parse type_tagged s (Some i)) ≡ with_looks (1 ∷ 4 * (i + 1 - i + 1) ∷ []) (with_texts out (t ∷ []) (empty_trace (Some (i + 1)) false))
  unfolding parse byte_at
  basic_reads i c t e f = rw (e, f, e) refl

  tagged_so : (i c : ℕ) → slice_get b i ≡ Some c → row_text c basic_types ≡ None → of form out (parse type_tagged s (Some i)) ≡ with_looks (1 ∷ []) (of form out (parse (raise (type_after_tag c)) s (Some i)))
  unfolding parse
  tagged_so i c e f = rw (e, f) refl

  pub type_deep : (i c : ℕ) → slice_get b i ≡ Some c → row_text c basic_types ≡ None → left ≡ 0 → of form out (parse type_tagged s (Some i)) ≡ with_looks (1 ∷ []) (fault_of "{recursion limit reached}")
  type_deep i c e f l = tagged_so i c e f ∙ ap (λ (o : Outcome). with_looks (1 ∷ []) (of form out o)) (raise_deep b form out left n (type_after_tag c) (Some i) l)

  -- a type that contains others, one depth deeper
  pub constructed_reads : (i c : ℕ) → slice_get b i ≡ Some c → row_text c basic_types ≡ None → 0 < left → of form out (parse type_tagged s (Some i)) ≡ with_looks (1 ∷ []) (of form out (parse (type_after_tag c) (context_at b form out (left - 1) n) (Some i)))
  constructed_reads i c e f l = tagged_so i c e f ∙ ap (λ (o : Outcome). with_looks (1 ∷ []) (of form out o)) (raise_on b form out left n (type_after_tag c) (Some i) l)

  pub path_type_reads : (i : Place) (c : ℕ) → row_at c (type_rows c) ≡ None → of form out (parse (type_after_tag c) s i) ≡ of form out (unit_outcome s a_path false i)
  path_type_reads i c e =
      ap (λ (p : Items). of form out (parse p s i)) (row_after c (child a_path false done) (type_rows c) ∙ ap (λ (r : Option Items). some_or (child a_path false done) r (λ p. byte (λ _. p))) e)
      ∙ last_child form out b left n a_path false i tt

  pub row_reads : (i c : ℕ) (p : Items) → slice_get b i ≡ Some c → row_at c (type_rows c) ≡ Some p → of form out (parse (type_after_tag c) s (Some i)) ≡ with_looks (4 * (i + 1 - i + 1) ∷ []) (of form out (parse p s (Some (i + 1))))
  unfolding parse byte_at
  row_reads i c p e f =
      ap (λ (p : Items). of form out (parse p s (Some i))) (row_after c (child a_path false done) (type_rows c) ∙ ap (λ (r : Option Items). some_or (child a_path false done) r (λ p. byte (λ _. p))) f)
      ∙ rw e refl

  pub binder_reads : (p : Items) (i j m : ℕ) → optional_at (code "G") b i ≡ Some (m, j)
      → of form out (parse (in_binder p) s (Some i)) ≡ with_looks (4 * (j - i + 1) ∷ []) (with_texts out (binder_texts m n) (of form out (parse p (context_at b form out left (n + m)) (Some j))))
  unfolding parse
  binder_reads p i j m e = rw e (let h = of form out (parse p (context_at b form out left (n + m)) (Some j)) in ap (λ xs. with_looks (4 * (j - i + 1) ∷ []) (trace_as xs h)) (binder_said form.include_hash out m n (parse p (context_at b form out left (n + m)) (Some j)).tree))

  pub bindings_failed : (o : Bool) → of form out (parse (bindings o binding_value) s None) ≡ with_texts out (if_so o ">") (empty_trace None false)
  unfolding parse bound_by
  bindings_failed true = refl
  bindings_failed false = refl

  pub bindings_over : (o : Bool) (i : ℕ) → is_byte b i (code "p") ≡ false → of form out (parse (bindings o binding_value) s (Some i)) ≡ with_looks (1 ∷ []) (with_texts out (if_so o ">") (empty_trace (Some i) false))
  unfolding parse bound_by
  bindings_over true i e = rw e refl
  bindings_over false i e = rw e refl

  pub binding_stops : (o : Bool) (i : ℕ) → is_byte b i (code "p") ≡ true → identifier_at b (i + 1) ≡ None
      → of form out (parse (bindings o binding_value) s (Some i)) ≡ with_looks (1 ∷ []) (with_texts out (mark_of o ∷ []) (with_looks (4 * (length b - (i + 1) + 1) ∷ []) (fault_of "{invalid syntax}")))
  unfolding parse bound_by
  binding_stops true i e f = rw (e, f) refl
  binding_stops false i e f = rw (e, f) refl

  pub binding_reads : (o : Bool) (i j : ℕ) (a : Name) → left ≤ max_depth → is_byte b i (code "p") ≡ true → identifier_at b (i + 1) ≡ Some (a, j)
      → of form out (parse (bindings o binding_value) s (Some i)) ≡ with_looks (1 ∷ []) (with_texts out (mark_of o ∷ []) (with_looks (4 * (j - (i + 1) + 1) ∷ []) (with_texts out (name_pieces a ++ codes " = " ∷ [])
      (followed (of form out (parse binding_value s (Some j))) (λ x. of form out (parse (bindings true binding_value) s x))))))
  unfolding parse
  binding_reads o i j a l e f = ap (of form out) (bindings_on s (parse binding_value s) o i j a (bound_keeps b form out left n l) e f) ∙ mark o
    where
      h : Trace
      h = followed (of form out (parse binding_value s (Some j))) (λ x. of form out (parse (bindings true binding_value) s x))

      name : events form.include_hash out (all_pieces (name_pieces a) (piece (codes " = ") (followed_by (parse binding_value s (Some j)) (parse (bindings true binding_value) s)).tree)) ≡ texts_then out (name_pieces a ++ codes " = " ∷ []) h.events
      name = pieces_trace form.include_hash out (name_pieces a) (piece (codes " = ") (followed_by (parse binding_value s (Some j)) (parse (bindings true binding_value) s)).tree) ∙ sym (said_both out (name_pieces a) (codes " = " ∷ []) h.events)

      mark : (o : Bool) → of form out (with_tree (looked 1) (with_tree (binding_separator o) (with_tree (looked (4 * (j - (i + 1) + 1))) (with_tree (name_equals a) (followed_by (parse binding_value s (Some j)) (parse (bindings true binding_value) s))))))
          ≡ with_looks (1 ∷ []) (with_texts out (mark_of o ∷ []) (with_looks (4 * (j - (i + 1) + 1) ∷ []) (with_texts out (name_pieces a ++ codes " = " ∷ []) h)))
      mark true = ap (λ xs. with_looks (1 ∷ []) (with_texts out (codes ", " ∷ []) (with_looks (4 * (j - (i + 1) + 1) ∷ []) (trace_as xs h)))) name
      mark false = ap (λ xs. with_looks (1 ∷ []) (with_texts out (codes "<" ∷ []) (with_looks (4 * (j - (i + 1) + 1) ∷ []) (trace_as xs h)))) name

  -- the value of a binding
  pub bound_constant : (i : ℕ) → is_byte b i (code "K") ≡ true → of form out (parse binding_value s (Some i)) ≡ with_looks (1 ∷ []) (of form out (unit_outcome s a_constant false (Some (i + 1))))
  unfolding parse
  bound_constant i e = rw e (ap (with_looks (1 ∷ [])) (last_child form out b left n a_constant false (Some (i + 1)) tt))

  pub bound_type : (i : ℕ) → is_byte b i (code "K") ≡ false → of form out (parse binding_value s (Some i)) ≡ with_looks (1 ∷ []) (of form out (unit_outcome s a_type false (Some i)))
  unfolding parse
  bound_type i e = rw e (ap (with_looks (1 ∷ [])) (last_child form out b left n a_type false (Some i) tt))
