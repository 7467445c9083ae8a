-- The traces of lists, tuples, arguments and lifetimes, up to the next nested production.
use Rattle.std.specs.Prelude.{ℕ, codes}
use Rattle.std.proofs.Common.{◌≡◌, Bool, true, false, List, [], ◌∷◌, ◌++◌, Some, None, refl, ap, ◌∙◌, ◌+◌, append_assoc}
use Rattle.std.proofs.lemmas.List.{append-nil}
use Prim.Native.Char.{code}
use Prim.Native.String.{String}
use Rattle.demangle_symbol.specs.Digits.{is_byte}
use Rattle.demangle_v0_grammar.specs.Items.{Text, Kind, a_type, a_constant, Items, done, child, integer, lifetime}
use Rattle.demangle_v0_grammar.specs.Table.{at_end, more, print_str, argument}
use Rattle.demangle_v0_grammar.specs.Reading.{Form, Place, Outcome, Context, followed_by, unit_outcome, parse, repetitions}
use Rattle.demangle_v0_grammar.specs.Traces.{Event, allows, text_if, events, Trace, of, and_then, with_looks, with_texts, context_at}
use Rattle.demangle_v0_grammar.proofs.ListProgress.{Element, element_on}
use Rattle.demangle_v0_grammar.proofs.Repetitions.{all_repetitions}
use Rattle.demangle_v0_grammar.proofs.TraceLemmas.{said_append}

abbrev pub trace_as : List Event → Trace → Trace
trace_as xs h = record { events = xs; place = h.place; is_bracket_open = h.is_bracket_open }

joined : (out : Bool) (x : Text) (xs ys zs : List Event) → (text_if out x xs ++ ys) ++ zs ≡ text_if out x (xs ++ (ys ++ zs))
joined out x xs ys zs = ap (λ ws. ws ++ zs) (said_append out x xs ys) ∙ (said_append out x (xs ++ ys) zs ∙ ap (text_if out x) (append_assoc xs ys zs))

-- the trace h, and then that from the place where h ends, with its bracket open or closed
abbrev pub followed : Trace → (Place → Trace) → Trace
followed h k = and_then h (λ j _. k j)

-- a nested production, and what follows
pub child_followed : (form : Form) (out : Bool) (kind : Kind) (value : Bool) (s : Context) (i : Place) (k : Place → Trace) → followed (of form out (parse (child kind value done) s i)) k ≡ followed (of form out (unit_outcome s kind value i)) k
unfolding parse
child_followed form out kind value s i k = let o = unit_outcome s kind value i in ap (λ xs. trace_as (xs ++ (k o.place).events) (k o.place)) (append-nil (events form.include_hash out o.tree))

-- Up to an `E`.

abbrev pub second : Items → Items → Items
second element p = at_end (print_str "," p) (more ", " element p)

module _ (form : Form) (out : Bool) (s : Context) where
  pub end_failed : (p q : Items) → of form out (parse (at_end p q) s None) ≡ of form out (parse p s None)
  unfolding parse
  end_failed p q = refl

  pub end_over : (p q : Items) (i : ℕ) → is_byte s.symbol i (code "E") ≡ true → of form out (parse (at_end p q) s (Some i)) ≡ with_looks (1 ∷ []) (of form out (parse p s (Some (i + 1))))
  unfolding parse
  end_over p q i e = rw e refl

  pub end_on : (p q : Items) (i : ℕ) → is_byte s.symbol i (code "E") ≡ false → of form out (parse (at_end p q) s (Some i)) ≡ with_looks (1 ∷ []) (of form out (parse q s (Some i)))
  unfolding parse
  end_on p q i e = rw e refl

  pub more_failed : (text : String) (element p : Items) → of form out (parse (more text element p) s None) ≡ of form out (parse p s None)
  unfolding parse repetitions
  more_failed text element p = refl

  pub more_over : (text : String) (element p : Items) (i : ℕ) → is_byte s.symbol i (code "E") ≡ true → of form out (parse (more text element p) s (Some i)) ≡ with_looks (1 ∷ []) (of form out (parse p s (Some (i + 1))))
  unfolding parse repetitions
  more_over text element p i e = rw e refl

  -- Arguments.

  pub argument_lifetime : (i : ℕ) → is_byte s.symbol i (code "L") ≡ true → of form out (parse argument s (Some i)) ≡ with_looks (1 ∷ []) (of form out (parse (integer (λ k. lifetime k done)) s (Some (i + 1))))
  unfolding parse
  argument_lifetime i e = rw e refl

  pub argument_constant : (i : ℕ) (k : Place → Trace) → is_byte s.symbol i (code "L") ≡ false → is_byte s.symbol i (code "K") ≡ true
      → followed (of form out (parse argument s (Some i))) k ≡ with_looks (1 ∷ 1 ∷ []) (followed (of form out (unit_outcome s a_constant false (Some (i + 1)))) k)
  unfolding parse
  argument_constant i k e f = rw (e, f) (ap (with_looks (1 ∷ 1 ∷ [])) (child_followed form out a_constant false s (Some (i + 1)) k))

  pub argument_type : (i : ℕ) (k : Place → Trace) → is_byte s.symbol i (code "L") ≡ false → is_byte s.symbol i (code "K") ≡ false
      → followed (of form out (parse argument s (Some i))) k ≡ with_looks (1 ∷ 1 ∷ []) (followed (of form out (unit_outcome s a_type false (Some i))) k)
  unfolding parse
  argument_type i k e f = rw (e, f) (ap (with_looks (1 ∷ 1 ∷ [])) (child_followed form out a_type false s (Some i) k))

-- one more element, after a text
module _ (form : Form) (out : Bool) (b : List ℕ) (left n : ℕ) where
  pub more_on : (text : String) (element p : Items) (i : ℕ) → Element b form out left n element → is_byte b i (code "E") ≡ false
      → let s = context_at b form out left n in of form out (parse (more text element p) s (Some i)) ≡ with_looks (1 ∷ []) (with_texts out (codes text ∷ []) (followed (of form out (parse element s (Some i))) (λ j. of form out (parse (more text element p) s j))))
  unfolding parse
  more_on text element p i el e =
      let s = context_at b form out left n in
      let f : Place → Outcome = parse (print_str text element) s in
      let o = parse element s (Some i) in
      let w = all_repetitions b f o.place in
      let z = parse p s w.place in
      ap (λ (y : Outcome). of form out (followed_by y (parse p s))) (element_on b form out left n element (codes text) i el e)
      ∙ ap (λ xs. trace_as (allows 1 ∷ xs) (of form out z)) (joined out (codes text) (events form.include_hash out o.tree) (events form.include_hash out w.tree) (events form.include_hash out z.tree))

  -- in a tuple, after its first element
  pub second_on : (element p : Items) (i : ℕ) → Element b form out left n element → is_byte b i (code "E") ≡ false
      → let s = context_at b form out left n in of form out (parse (at_end (print_str "," p) (more ", " element p)) s (Some i)) ≡ with_looks (1 ∷ 1 ∷ []) (with_texts out (codes ", " ∷ []) (followed (of form out (parse element s (Some i))) (λ j. of form out (parse (more ", " element p) s j))))
  second_on element p i el e = end_on form out (context_at b form out left n) (print_str "," p) (more ", " element p) i e ∙ ap (with_looks (1 ∷ [])) (more_on ", " element p i el e)
