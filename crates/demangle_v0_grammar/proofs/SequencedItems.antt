-- Items followed by others at their end.
use Rattle.std.specs.Prelude.{suc}
use Rattle.std.proofs.Common.{◌≡◌, Bool, true, false, [], ◌∷◌, length, Some, None, refl, sym, ap, ◌∙◌, ◌+◌, append_assoc}
use Rattle.demangle_v0_grammar.specs.Items.{Text, Items, done, print, next, if_ok, until_end, unit, child}
use Rattle.demangle_v0_grammar.specs.Reading.{Form, Place, Outcome, Context, followed_by, unit_outcome, parse, repetitions, byte_choice, is_next_byte}
use Rattle.demangle_v0_grammar.specs.Traces.{events, Trace, of, and_then, with_looks, with_texts}

abbrev pub extended : Items → Items → Items
extended r done = r
extended r (print t p) = print t (extended r p)
extended r (next c p q) = next c (extended r p) (extended r q)
extended r (if_ok p q) = if_ok (extended r p) (extended r q)
extended r (until_end p q) = until_end p (extended r q)
extended r (unit p q) = unit p (extended r q)
extended r (child k v p) = child k v (extended r p)
extended r p = p

-- no error ends these items
abbrev pub IsExtended : Items → Type 0
IsExtended done = Unit {0}
IsExtended (print t p) = IsExtended p
IsExtended (next c p q) = IsExtended p × IsExtended q
IsExtended (if_ok p q) = IsExtended p × IsExtended q
IsExtended (until_end p q) = IsExtended q
IsExtended (unit p q) = IsExtended q
IsExtended (child k v p) = IsExtended p
IsExtended p = ⊥

module _ (form : Form) (out : Bool) (r : Items) (s : Context) where
  abbrev then_r : Trace → Trace
  then_r h = and_then h (λ j _. of form out (parse r s j))

  saying_then : (out : Bool) (t : Text) (h : Trace) (k : Place → Bool → Trace) → with_texts out (t ∷ []) (and_then h k) ≡ and_then (with_texts out (t ∷ []) h) k
  saying_then true t h k = refl
  saying_then false t h k = refl

  joined_then : (o : Outcome) (f g : Place → Outcome) → of form out (f o.place) ≡ then_r (of form out (g o.place)) → of form out (followed_by o f) ≡ then_r (of form out (followed_by o g))
  joined_then o f g e =
      ap (λ (h : Trace). and_then (of form out o) (λ j x. h)) e
      ∙ ap (λ xs. record { events = xs; place = (parse r s (g o.place).place).place; is_bracket_open = (parse r s (g o.place).place).is_bracket_open })
      (sym (append_assoc (events form.include_hash out o.tree) (events form.include_hash out (g o.place).tree) (events form.include_hash out (parse r s (g o.place).place).tree)))

  forked_then : (c : Bool) (f g f' g' : Place → Outcome) (i : Place) → ((j : Place) → of form out (f j) ≡ then_r (of form out (f' j))) → ((j : Place) → of form out (g j) ≡ then_r (of form out (g' j)))
      → of form out (byte_choice c f g i) ≡ then_r (of form out (byte_choice c f' g' i))
  forked_then c f g f' g' None x y = y None
  forked_then true f g f' g' (Some i) x y = ap (with_looks (1 ∷ [])) (x (Some (i + 1)))
  forked_then false f g f' g' (Some i) x y = ap (with_looks (1 ∷ [])) (y (Some i))

  pub extended_reads : (p : Items) → IsExtended p → (i : Place) → of form out (parse (extended r p) s i) ≡ then_r (of form out (parse p s i))
  unfolding parse
  extended_reads done e i = refl
  extended_reads (print t p) e i = ap (with_texts out (t ∷ [])) (extended_reads p e i) ∙ saying_then out t (of form out (parse p s i)) (λ j x. of form out (parse r s j))
  extended_reads (next c p q) e i = forked_then (is_next_byte s c i) (parse (extended r p) s) (parse (extended r q) s) (parse p s) (parse q s) i (extended_reads p e.0) (extended_reads q e.1)
  extended_reads (if_ok p q) e None = extended_reads q e.1 None
  extended_reads (if_ok p q) e (Some i) = extended_reads p e.0 (Some i)
  extended_reads (until_end p q) e i = let o = repetitions (suc (length s.symbol)) s.symbol (parse p s) i in joined_then o (parse (extended r q) s) (parse q s) (extended_reads q e o.place)
  extended_reads (unit p q) e i = let o = parse p s i in joined_then o (parse (extended r q) s) (parse q s) (extended_reads q e o.place)
  extended_reads (child k v p) e i = let o = unit_outcome s k v i in joined_then o (parse (extended r p) s) (parse p s) (extended_reads p e o.place)
  extended_reads p e i = absurd e
