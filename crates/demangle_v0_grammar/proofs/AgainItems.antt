-- Each item pays for its looks by the bytes that it reads, and by those to which its references lead back.
use Rattle.std.specs.Prelude.{ℕ, zero, suc, ◌≤◌, ◌*◌, ◌&&◌, ◌==◌, nat_le, codes, slice_get}
use Rattle.std.proofs.Common.{◌≡◌, Bool, true, false, cond, List, [], ◌∷◌, ◌++◌, length, Option, Some, None, refl, ◌∙◌, ◌+◌, ◌-◌, subst, sym, arith}
use Prim.Native.Char.{code}
use Rattle.demangle_symbol.specs.Digits.{is_byte}
use Rattle.demangle_symbol.specs.Primitives.{Read, byte_at, namespace_at, integer_at, optional_at, backref_at, identifier_at, nibbles_at}
use Rattle.demangle_symbol.specs.Names.{name_pieces}
use Rattle.demangle_v0_grammar.specs.Items.{Text, Kind, a_path, a_trait_path, Items, done, invalid, print, print_plain, byte, namespace, integer, optional, identifier, nibbles, peek, next, if_ok, until_end, raise, unit, child, skip, folded, target, lifetime, binder, leave_open, dyn_trait, bindings}
use Rattle.demangle_v0_grammar.specs.Table.{items}
use Rattle.demangle_v0_grammar.specs.LookBudget.{LookCost, looks_of, IsWithinBudget}
use Rattle.demangle_v0_grammar.specs.Reading.{Tree, nothing, piece, plain_piece, node, looked, unprinted, referred, invalid_syntax, too_deep, after_error, looks, looks_only, costs_of, Place, Outcome, Level, Context, at_place, with_tree, primitive, followed_by, parse, primitive_outcome, peek_outcome, byte_choice, one_level_deeper, max_depth, repetitions, angle_if_open, binding_separator, name_equals, bound_by, unit_outcome, folded_by, target_of, target_read, lifetime_at, letter_of, all_pieces, new_lifetimes, binder_at, level_of, levels, nowhere, read_at}
use Rattle.demangle_v0_grammar.specs.Again.{Distance, again}
use Rattle.demangle_v0_grammar.proofs.BudgetRules.{IsWithinBudget-more, IsWithinBudget-append}
use Rattle.demangle_symbol.proofs.Counts.{Placed, byte_placed, namespace_placed, integer_placed, optional_placed, backref_placed, identifier_placed, nibbles_placed}
use Rattle.demangle_v0_grammar.proofs.SpelledIsParsed.{there_placed}
use Rattle.demangle_v0_grammar.proofs.TableCost.{fits}
use Rattle.demangle_v0_grammar.proofs.Failed.{failed}
use Rattle.demangle_v0_grammar.proofs.FailedRows.{looks_append, looks_unheard}
use Rattle.demangle_v0_grammar.proofs.LooksLaw.{failed_looks}
use Rattle.demangle_v0_grammar.proofs.ItemBudgets.{start, Fits}
use Rattle.demangle_v0_grammar.proofs.NoReferences.{follows_none}
use Rattle.demangle_v0_grammar.proofs.ItemLooks.{target_within, small}

-- the looks of a tree; the distances of its references before and after what they lead to; and what they give back then,
-- as looks
abbrev pub work_of : (before after back : Distance) → Tree → List LookCost
work_of before after back nothing = []
work_of before after back (piece t rest) = work_of before after back rest
work_of before after back (plain_piece t rest) = work_of before after back rest
work_of before after back (node inside rest) = work_of before after back inside ++ work_of before after back rest
work_of before after back (looked k rest) = looks k ∷ work_of before after back rest
work_of before after back (unprinted inside rest) = work_of before after back inside ++ work_of before after back rest
work_of before after back (referred t j end inside) = record { bytes = before t j end; looks = 0 } ∷ (work_of before after back inside ++ record { bytes = after t j end; looks = 17 * back t j end } ∷ [])
work_of before after back invalid_syntax = []
work_of before after back too_deep = []
work_of before after back after_error = []

-- the looks are those of the tree's costs, and what is given back
pub same_looks : (before after back : Distance) (t : Tree) → looks_of (work_of before after back t) ≡ looks_of (costs_of true t) + 17 * again back t
same_looks before after back nothing = refl
same_looks before after back (piece t rest) = omega (arith, same_looks before after back rest)
same_looks before after back (plain_piece t rest) = omega (arith, same_looks before after back rest)
same_looks before after back (node x y) = omega (arith, same_looks before after back x, same_looks before after back y, looks_append (work_of before after back x) (work_of before after back y), looks_append (costs_of true x) (costs_of true y))
same_looks before after back (looked k rest) = omega (arith, same_looks before after back rest)
same_looks before after back (unprinted x y) = omega (arith, same_looks before after back x, same_looks before after back y, looks_append (work_of before after back x) (work_of before after back y), looks_append (looks_only (costs_of true x)) (costs_of true y), looks_unheard (costs_of true x))
same_looks before after back (referred t j end inside) = omega (arith, same_looks before after back inside, looks_append (work_of before after back inside) (record { bytes = after t j end; looks = 17 * back t j end } ∷ []))
same_looks before after back _ = refl

-- no looks cost nothing
without_looks : (a : ℕ) (xs : List LookCost) → looks_of xs ≡ 0 → IsWithinBudget 17 a xs a
without_looks a [] e = omega arith
without_looks a (x ∷ xs) e = (omega (arith, e), IsWithinBudget-more 17 a (a - x.looks + 17 * x.bytes) a a 0 xs (omega (arith, e)) (omega arith) (without_looks a xs (omega (arith, e))))

-- From place i on, of n bytes, `from` and the bytes that are read pay for the looks, and `to` is left, or 8 after an
-- error. A distance adds to the budget. R is there from the start to the end, and may be lent.
abbrev pub Goes : (R n i from to : ℕ) → List LookCost → Place → Type 0
Goes R n i from to xs None = IsWithinBudget 17 (17 * (n + 1 - i) + from + R) xs (8 + R)
Goes R n i from to xs (Some j) = (i ≤ j) × (j ≤ n) × IsWithinBudget 17 (17 * (j - i) + from + R) xs (to + R)

-- The distances before and after what a reference leads to are at least the reach of its target and what is given back.
-- The one before is not less than that by more than the gap.
pub record Covers (n gap : ℕ) (before after back : Distance) : Type 0 where
  pub failed : (t j : ℕ) → (n + 1 - t + back t (Some j) None ≤ before t (Some j) None + gap) × (n + 1 - t + back t (Some j) None ≤ before t (Some j) None + after t (Some j) None)
  pub read : (t j e : ℕ) → t ≤ e → e ≤ n → (e - t + back t (Some j) (Some e) ≤ before t (Some j) (Some e) + gap) × (e - t + back t (Some j) (Some e) ≤ before t (Some j) (Some e) + after t (Some j) (Some e))

-- what the last m depths lend
abbrev pub loan : (gap m : ℕ) → ℕ
loan gap zero = 0
loan gap (suc m) = loan gap m + 17 * gap

module _ (before after back : Distance) where
  abbrev pub Within : (R n i from to : ℕ) → Outcome → Type 0
  Within R n i from to o = Goes R n i from to (work_of before after back o.tree) o.place

  -- after an error there is no work
  abbrev Still : Outcome → Type 0
  Still o = (o.place ≡ None) × (looks_of (work_of before after back o.tree) ≡ 0)

  still : (p : Items) (s : Context) → Still (parse p s None)
  still p s = (failed p s, omega (arith, same_looks before after back (parse p s None).tree, failed_looks p s true, (follows_none back p s).1))

  still_closed : (o : Bool) → Still (angle_if_open o None)
  still_closed true = (refl, refl)
  still_closed false = (refl, refl)

  -- at a later place, after c looks
  step : (R n i k from mid to c : ℕ) (xs : List LookCost) (x : Place) → i ≤ k → k ≤ n → c + mid ≤ 17 * (k - i) + from →
      Goes R n k mid to xs x → Goes R n i from to (looks c ∷ xs) x
  step R n i k from mid to c xs None l m a h = (omega (arith, l, m, a), IsWithinBudget-more 17 (17 * (n + 1 - k) + mid + R) (17 * (n + 1 - i) + from + R - c + 17 * 0) (8 + R) (8 + R) 0 xs (omega (arith, l, m, a)) (omega arith) h)
  step R n i k from mid to c xs (Some j) l m a h =
      (omega (arith, l, h.0), h.1, (omega (arith, l, h.0, a), IsWithinBudget-more 17 (17 * (j - k) + mid + R) (17 * (j - i) + from + R - c + 17 * 0) (to + R) (to + R) 0 xs (omega (arith, l, h.0, a)) (omega arith) h.2))

  -- a larger budget, and less of it at the end
  more : (R n i from mid to low : ℕ) (xs : List LookCost) (x : Place) → mid ≤ from → low ≤ to → Goes R n i mid to xs x → Goes R n i from low xs x
  more R n i from mid to low xs None e l h = IsWithinBudget-more 17 (17 * (n + 1 - i) + mid + R) (17 * (n + 1 - i) + from + R) (8 + R) (8 + R) 0 xs (omega (arith, e)) (omega arith) h
  more R n i from mid to low xs (Some j) e l h = (h.0, h.1, IsWithinBudget-more 17 (17 * (j - i) + mid + R) (17 * (j - i) + from + R) (to + R) (low + R) 0 xs (omega (arith, e)) (omega (arith, l)) h.2)

  -- one list after another
  joined : (R n i j from mid to : ℕ) (xs ys : List LookCost) (x : Place) → i ≤ j → j ≤ n →
      IsWithinBudget 17 (17 * (j - i) + from + R) xs (mid + R) → Goes R n j mid to ys x → Goes R n i from to (xs ++ ys) x
  joined R n i j from mid to xs ys None l m h e =
      IsWithinBudget-append 17 (17 * (n + 1 - i) + from + R) (17 * (n + 1 - j) + mid + R) (8 + R) xs ys
      (IsWithinBudget-more 17 (17 * (j - i) + from + R) (17 * (n + 1 - i) + from + R) (mid + R) (17 * (n + 1 - j) + mid + R) (17 * (n + 1 - j)) xs (omega (arith, l, m)) (omega arith) h) e
  joined R n i j from mid to xs ys (Some k) l m h e = (
    omega (arith, l, e.0),
    e.1,
    IsWithinBudget-append 17 (17 * (k - i) + from + R) (17 * (k - j) + mid + R) (to + R) xs ys
        (IsWithinBudget-more 17 (17 * (j - i) + from + R) (17 * (k - i) + from + R) (mid + R) (17 * (k - j) + mid + R) (17 * (k - j)) xs (omega (arith, l, e.0)) (omega arith) h) e.2,
  )

  joined_still : (R n i from to : ℕ) (xs ys : List LookCost) (x : Place) → x ≡ None →
      IsWithinBudget 17 (17 * (n + 1 - i) + from + R) xs (8 + R) → looks_of ys ≡ 0 → Goes R n i from to (xs ++ ys) x
  joined_still R n i from to xs ys (Some j) e h f = cc e
  joined_still R n i from to xs ys None e h f = IsWithinBudget-append 17 (17 * (n + 1 - i) + from + R) (8 + R) (8 + R) xs ys h (without_looks (8 + R) ys f)

  -- a production and the rest
  both : (R n i from mid to : ℕ) (t : Tree) (x : Place) (f : Place → Outcome) → Goes R n i from mid (work_of before after back t) x →
      ((j : ℕ) → i ≤ j → j ≤ n → Within R n j mid to (f (Some j))) → Still (f None) → Goes R n i from to (work_of before after back t ++ work_of before after back (f x).tree) (f x).place
  both R n i from mid to t None f h k s = joined_still R n i from to (work_of before after back t) (work_of before after back (f None).tree) (f None).place s.0 h s.1
  both R n i from mid to t (Some j) f h k s = joined R n i j from mid to (work_of before after back t) (work_of before after back (f (Some j)).tree) (f (Some j)).place h.0 h.1 h.2 (k j h.0 h.1)

  folded_goes : (R n i from l to : ℕ) (c : Bool) (x y : Outcome) (f : Place → Outcome) → Within R n i from l x → Within R n i from l y →
      ((j : ℕ) → i ≤ j → j ≤ n → Within R n j l to (f (Some j))) → Still (f None) → Within R n i from to (folded_by c x y f)
  folded_goes R n i from l to true x y f h e g s = both R n i from l to x.tree x.place (λ z. with_tree (piece (codes "_")) (f z)) h g s
  folded_goes R n i from l to false x y f h e g s = both R n i from l to y.tree y.place f e g s

  -- Texts.

  work_pieces : (ts : List Text) (t : Tree) → work_of before after back (all_pieces ts t) ≡ work_of before after back t
  work_pieces [] t = refl
  work_pieces (x ∷ ts) t = work_pieces ts t

  work_new : (m n : ℕ) (t : Tree) → work_of before after back (new_lifetimes m n t) ≡ work_of before after back t
  work_new zero n t = refl
  work_new (suc m) n t = work_pieces (letter_of n) (new_lifetimes m (n + 1) t) ∙ work_new m (n + 1) t

  work_binder : (c : Bool) (m n : ℕ) (t : Tree) → work_of before after back (binder_at c m n t) ≡ work_of before after back t
  work_binder false m n t = refl
  work_binder true zero n t = refl
  work_binder true (suc m) n t = work_pieces (letter_of n) (new_lifetimes m (n + 1) (piece (codes "> ") t)) ∙ work_new m (n + 1) (piece (codes "> ") t)

  work_separator : (o : Bool) (t : Tree) → work_of before after back (binding_separator o t) ≡ work_of before after back t
  work_separator true t = refl
  work_separator false t = refl

  with_work : (R n i from to : ℕ) (xs ys : List LookCost) (x : Place) → xs ≡ ys → Goes R n i from to ys x → Goes R n i from to xs x
  with_work R n i from to xs ys x e h = subst (λ z. Goes R n i from to z x) (sym e) h

  -- Primitives.

  primitive_goes : {A : Type 0} (R n i from mid to low : ℕ) (bs : List ℕ) (q : Read A) (f : A → Place → Outcome) → length bs ≡ n → i ≤ n → Placed (i + low) bs q →
      4 * low + 4 + mid ≤ 17 * low + from →
      ((v : A) (j : ℕ) → q ≡ Some (v, j) → i ≤ j → j ≤ n → Within R n j mid to (f v (Some j))) → Within R n i from to (primitive_outcome n i f q)
  primitive_goes R n i from mid to low bs None f b l c e h = (omega (arith, l), omega (arith, l))
  primitive_goes R n i from mid to low bs (Some (v, j)) f b l c e h =
      let w : (i + low ≤ j) × (j ≤ length bs) = c in
      let u : j ≤ n = subst (λ z. j ≤ z) b w.1 in
      step R n i j from mid to (4 * (j - i + 1)) (work_of before after back (f v (Some j)).tree) (f v (Some j)).place (omega (arith, w.0)) u (omega (arith, e, w.0)) (h v j refl (omega (arith, w.0)) u)

  peek_goes : (R n i from mid to : ℕ) (q : Option ℕ) (f : ℕ → Outcome) → i ≤ n → 1 + mid ≤ from →
      ((v : ℕ) → Within R n i mid to (f v)) → Within R n i from to (peek_outcome f q)
  peek_goes R n i from mid to None f l e h = (omega (arith, l), omega (arith, l))
  peek_goes R n i from mid to (Some q) f l e h = step R n i i from mid to 1 (work_of before after back (f q).tree) (f q).place (omega arith) l (omega (arith, e)) (h q)

  fork_goes : (R n i from there other to : ℕ) (c : Bool) (f g : Place → Outcome) → i ≤ n → (c ≡ true → i + 1 ≤ n) →
      1 + there ≤ 17 + from → 1 + other ≤ from →
      (i + 1 ≤ n → Within R n (i + 1) there to (f (Some (i + 1)))) → Within R n i other to (g (Some i)) → Within R n i from to (byte_choice c f g (Some i))
  fork_goes R n i from there other to true f g l m a b h k = step R n i (i + 1) from there to 1 (work_of before after back (f (Some (i + 1))).tree) (f (Some (i + 1))).place (omega arith) (m refl) (omega (arith, a)) (h (m refl))
  fork_goes R n i from there other to false f g l m a b h k = step R n i i from other to 1 (work_of before after back (g (Some i)).tree) (g (Some i)).place (omega arith) l (omega (arith, b)) k

  closed_goes : (R n i from to : ℕ) (o : Bool) → i ≤ n → to ≤ from → Within R n i from to (angle_if_open o (Some i))
  closed_goes R n i from to true l e = (omega arith, l, omega (arith, e))
  closed_goes R n i from to false l e = (omega arith, l, omega (arith, e))

  choice_goes : (R n i from to : ℕ) (b : Bool) (x y : Outcome) → Within R n i from to x → Within R n i from to y → Within R n i from to (cond b x y)
  choice_goes R n i from to true x y h k = h
  choice_goes R n i from to false x y h k = k

  lifetime_goes : (R n i from : ℕ) (b : Bool) (m k : ℕ) → i ≤ n → Within R n i from from (lifetime_at b m k (Some i))
  lifetime_goes R n i from false m k l = (omega arith, l, omega arith)
  lifetime_goes R n i from true m k l =
      choice_goes R n i from from (k == 0) _ _ (omega arith, l, omega arith)
      (choice_goes R n i from from (nat_le k m) _ _ (with_work R n i from from (work_of before after back (all_pieces (letter_of (m - k)) nothing)) [] (Some i) (work_pieces (letter_of (m - k)) nothing) (omega arith, l, omega arith)) (omega (arith, l)))

  -- Levels.

  abbrev pub LevelGoes : (R n : ℕ) → Level → Type 0
  LevelGoes R n l = (printed : Bool) (kind : Kind) (value : Bool) (m i : ℕ) → i ≤ n → Within R n i (start kind) 8 (l printed kind value m i)

  -- each depth has what it lends to a target
  abbrev pub AllGo : (gap R n : ℕ) → List Level → Type 0
  AllGo gap R n [] = Unit {0}
  AllGo gap R n (l ∷ ls) = (S : ℕ) × (S + 17 * gap ≤ R) × LevelGoes S n l × AllGo gap S n ls

  -- the distances of a reference pay for its target
  target_goes : (n gap R S t j a e k : ℕ) (kind : Kind) (xs : List LookCost) (x : Place) → Covers n gap before after back → a ≡ k + R → S + 17 * gap ≤ R → e ≤ k → 2 ≤ k → Goes S n t (start kind) 8 xs x →
      IsWithinBudget 17 a (record { bytes = before t (Some j) x; looks = 0 } ∷ (xs ++ record { bytes = after t (Some j) x; looks = 17 * back t (Some j) x } ∷ [])) (e + R)
  target_goes n gap R S t j a e k kind xs None z q l m w h =
      let y : (n + 1 - t + back t (Some j) None ≤ before t (Some j) None + gap) × (n + 1 - t + back t (Some j) None ≤ before t (Some j) None + after t (Some j) None) = z.failed t j in
      let mid : ℕ = 8 + k + R + 17 * before t (Some j) None - 17 * (n + 1 - t) - start kind in (
        omega arith,
        IsWithinBudget-append 17 (a - 0 + 17 * before t (Some j) None) mid (e + R) xs (record { bytes = after t (Some j) None; looks = 17 * back t (Some j) None } ∷ [])
            (IsWithinBudget-more 17 (17 * (n + 1 - t) + start kind + S) (a - 0 + 17 * before t (Some j) None) (8 + S) mid (a + 17 * before t (Some j) None - 17 * (n + 1 - t) - start kind - S) xs (omega (arith, y.0, small kind)) (omega (arith, y.0, small kind)) h)
            (omega (arith, y.0, y.1, small kind), omega (arith, y.0, y.1, small kind)),
      )
  target_goes n gap R S t j a e k kind xs (Some o) z q l m w h =
      let y : (o - t + back t (Some j) (Some o) ≤ before t (Some j) (Some o) + gap) × (o - t + back t (Some j) (Some o) ≤ before t (Some j) (Some o) + after t (Some j) (Some o)) = z.read t j o h.0 h.1 in
      let mid : ℕ = 8 + k + R + 17 * before t (Some j) (Some o) - 17 * (o - t) - start kind in (
        omega arith,
        IsWithinBudget-append 17 (a - 0 + 17 * before t (Some j) (Some o)) mid (e + R) xs (record { bytes = after t (Some j) (Some o); looks = 17 * back t (Some j) (Some o) } ∷ [])
            (IsWithinBudget-more 17 (17 * (o - t) + start kind + S) (a - 0 + 17 * before t (Some j) (Some o)) (8 + S) mid (a + 17 * before t (Some j) (Some o) - 17 * (o - t) - start kind - S) xs (omega (arith, y.0, small kind)) (omega (arith, y.0, small kind)) h.2)
            (omega (arith, y.0, y.1, small kind), omega (arith, y.0, y.1, small kind)),
      )

  target_of_goes : (n gap R i m t k e : ℕ) (kind : Kind) (value fl : Bool) (ls : List Level) → Covers n gap before after back → AllGo gap R n ls → t ≤ n → i ≤ n → e ≤ k → 2 ≤ k →
      Within R n i k e (target_of ls (λ level. target_read fl (level true kind value m) t (Some i)))
  target_of_goes n gap R i m t k e kind value fl [] z g b l a w = omega (arith, l)
  target_of_goes n gap R i m t k e kind value true (x ∷ xs) z g b l a w =
      let o : Outcome = x true kind value m t in (
        omega arith,
        l,
        IsWithinBudget-append 17 (17 * (i - i) + k + R) (e + R) (e + R) (work_of before after back (referred t (Some i) o.place o.tree)) []
            (target_goes n gap R g.0 t i (17 * (i - i) + k + R) e k kind (work_of before after back o.tree) o.place z (omega arith) g.1 a w (g.2 true kind value m t b)) (omega arith),
      )
  target_of_goes n gap R i m t k e kind value false (x ∷ xs) z g b l a w = (omega arith, l, omega (arith, a))

  -- c looks are left at the start of the repetitions; after the `E`, 16 more
  repetitions_go : (R n c m : ℕ) (symbol : List ℕ) (f : Place → Outcome) → length symbol ≡ n → 1 ≤ c →
      ((i : ℕ) → i ≤ n → Within R n i (c - 1) c (f (Some i))) → (i : ℕ) → i ≤ n → Within R n i c (c + 16) (repetitions m symbol f (Some i))
  unfolding repetitions
  repetitions_go R n c zero symbol f e o h i l = omega (arith, l)
  repetitions_go R n c (suc m) symbol f e o h i l =
      fork_goes R n i c (c + 16) (c - 1) (c + 16) (is_byte symbol i (code "E")) at_place (λ j. followed_by (f j) (repetitions m symbol f)) l (λ y. subst (λ z. i + 1 ≤ z) e (there_placed symbol (code "E") i y)) (omega arith) (omega (arith, o))
      (λ y. (omega arith, y, omega arith))
      (both R n i (c - 1) c (c + 16) (f (Some i)).tree (f (Some i)).place (repetitions m symbol f) (h i l) (λ j _ b. repetitions_go R n c m symbol f e o h j b) (refl, refl))

  -- c looks are left at the start of bindings; a binding ends with `e`
  bound_goes : (R n c e m : ℕ) (s : Context) (f : Place → Outcome) → length s.symbol ≡ n → 1 ≤ c → e ≤ c - 1 →
      ((i : ℕ) → i ≤ n → Within R n i (c + 25) c (f (Some i))) → (o : Bool) (i : ℕ) → i ≤ n → Within R n i c e (bound_by m s f o (Some i))
  unfolding bound_by
  bound_goes R n c e zero s f q b a h o i l = omega (arith, l)
  bound_goes R n c e (suc m) s f q b low h o i l =
      let rest : Place → Outcome = λ j. primitive s j identifier_at (λ a k. with_tree (name_equals a) (followed_by (f k) (bound_by m s f true))) in
      fork_goes R n i c (c + 16) (c - 1) e (is_byte s.symbol i (code "p")) (λ j. with_tree (binding_separator o) (rest j)) (angle_if_open o) l (λ y. subst (λ z. i + 1 ≤ z) q (there_placed s.symbol (code "p") i y)) (omega arith) (omega (arith, b))
      (λ y. with_work R n (i + 1) (c + 16) e (work_of before after back (binding_separator o (rest (Some (i + 1))).tree)) (work_of before after back (rest (Some (i + 1))).tree) (rest (Some (i + 1))).place (work_separator o (rest (Some (i + 1))).tree)
      (subst (λ z. Within R n (i + 1) (c + 16) e (primitive_outcome z (i + 1) (λ a k. with_tree (name_equals a) (followed_by (f k) (bound_by m s f true))) (identifier_at s.symbol (i + 1)))) (sym q)
      (primitive_goes R n (i + 1) (c + 16) (c + 25) e 1 s.symbol (identifier_at s.symbol (i + 1)) (λ a k. with_tree (name_equals a) (followed_by (f k) (bound_by m s f true))) q y (identifier_placed s.symbol (i + 1)) (omega arith)
      (λ a j _ _ z. let all : Outcome = followed_by (f (Some j)) (bound_by m s f true) in
      with_work R n j (c + 25) e (work_of before after back (name_equals a all.tree)) (work_of before after back all.tree) all.place (work_pieces (name_pieces a) (piece (codes " = ") all.tree))
      (both R n j (c + 25) c e (f (Some j)).tree (f (Some j)).place (bound_by m s f true) (h j z) (λ k _ x. bound_goes R n c e m s f q b low h true k x) (still_closed true))))))
      (closed_goes R n i (c - 1) e o l low)

  -- more is lent
  lent : (R S n i from to : ℕ) (xs : List LookCost) (x : Place) → S ≤ R → Goes S n i from to xs x → Goes R n i from to xs x
  lent R S n i from to xs None l h = IsWithinBudget-more 17 (17 * (n + 1 - i) + from + S) (17 * (n + 1 - i) + from + R) (8 + S) (8 + R) (R - S) xs (omega (arith, l)) (omega (arith, l)) h
  lent R S n i from to xs (Some j) l h = (h.0, h.1, IsWithinBudget-more 17 (17 * (j - i) + from + S) (17 * (j - i) + from + R) (to + S) (to + R) (R - S) xs (omega (arith, l)) (omega (arith, l)) h.2)

  raised_goes : (n gap R k e i : ℕ) (ls : List Level) (f : Level → List Level → Place → Outcome) → i ≤ n → AllGo gap R n ls →
      ((S : ℕ) (l : Level) (ls : List Level) → LevelGoes S n l → AllGo gap S n ls → Within S n i k e (f l ls (Some i))) → Within R n i k e (one_level_deeper ls f (Some i))
  raised_goes n gap R k e i [] f l g h = omega (arith, l)
  raised_goes n gap R k e i (x ∷ xs) f l g h = lent R g.0 n i k e (work_of before after back (f x xs (Some i)).tree) (f x xs (Some i)).place (omega (arith, g.1)) (h g.0 x xs g.2 g.3)

  record Holds (gap R : ℕ) (s : Context) : Type 0 where
    covers : Covers (length s.symbol) gap before after back
    here : LevelGoes R (length s.symbol) s.here
    deeper : AllGo gap R (length s.symbol) s.deeper

  goes : (gap R : ℕ) (p : Items) (s : Context) (y : Bool) (b e k : ℕ) (g : Bool) → Fits y b e k g p → Holds gap R s →
      (i : ℕ) → i ≤ length s.symbol → Within R (length s.symbol) i k e (parse p s (Some i))
  unfolding parse bound_by
  goes gap R done s c z e k g a m i l = (omega arith, l, omega (arith, a))
  goes gap R invalid s c z e k g a m i l = omega (arith, l)
  goes gap R (print t p) s c z e k g a m i l = goes gap R p s c z e k _ a m i l
  goes gap R (print_plain t p) s c z e k g a m i l = goes gap R p s c z e k g a m i l
  goes gap R (byte f) s c z e k g a m i l = primitive_goes R (length s.symbol) i k (k + 9) e 1 s.symbol (byte_at s.symbol i) (λ v. parse (f v) s) refl l (byte_placed s.symbol i) (omega arith)
      (λ v j _ _ b. goes gap R (f v) s c z e (k + 9) g (a v) m j b)
  goes gap R (namespace f) s c z e k g a m i l = primitive_goes R (length s.symbol) i k (k + 9) e 1 s.symbol (namespace_at s.symbol i) (λ v. parse (f v) s) refl l (namespace_placed s.symbol i) (omega arith)
      (λ v j _ _ b. goes gap R (f v) s c z e (k + 9) g (a v) m j b)
  goes gap R (integer f) s c z e k g a m i l = primitive_goes R (length s.symbol) i k (k + 9) e 1 s.symbol (integer_at s.symbol i) (λ v. parse (f v) s) refl l (integer_placed s.symbol i) (omega arith)
      (λ v j _ _ b. goes gap R (f v) s c z e (k + 9) g (a v) m j b)
  goes gap R (optional tag f) s c z e k g a m i l = primitive_goes R (length s.symbol) i k (k - 4) e 0 s.symbol (optional_at tag s.symbol i) (λ v. parse (f v) s) refl l (subst (λ z. Placed z s.symbol (optional_at tag s.symbol i)) plus (optional_placed tag s.symbol i l)) (omega (arith, a.0))
      (λ v j _ _ b. goes gap R (f v) s c z e (k - 4) g (a.1 v) m j b)
    where
      plus : i ≡ i + 0
      plus = omega arith
  goes gap R (identifier f) s c z e k g a m i l = primitive_goes R (length s.symbol) i k (k + 9) e 1 s.symbol (identifier_at s.symbol i) (λ v. parse (f v) s) refl l (identifier_placed s.symbol i) (omega arith)
      (λ v j _ _ b. goes gap R (f v) s c z e (k + 9) g (a v) m j b)
  goes gap R (nibbles f) s c z e k g a m i l = primitive_goes R (length s.symbol) i k (k + 9) e 1 s.symbol (nibbles_at s.symbol i) (λ v. parse (f v) s) refl l (nibbles_placed s.symbol i) (omega arith)
      (λ v j _ _ b. goes gap R (f v) s c z e (k + 9) g (a v) m j b)
  goes gap R (peek f) s c z e k g a m i l = peek_goes R (length s.symbol) i k (k - 1) e (slice_get s.symbol i) (λ v. parse (f v) s (Some i)) l (omega (arith, a.0))
      (λ v. goes gap R (f v) s c z e (k - 1) g (a.1 v) m i l)
  goes gap R (next b p q) s c z e k g a m i l = fork_goes R (length s.symbol) i k (k + 16) (k - 1) e (is_byte s.symbol i b) (parse p s) (parse q s) l
      (there_placed s.symbol b i) (omega arith) (omega (arith, a.0))
      (λ y. goes gap R p s c z e (k + 16) g a.1 m (i + 1) y) (goes gap R q s c z e (k - 1) g a.2 m i l)
  goes gap R (if_ok p q) s c z e k g a m i l = goes gap R p s c z e k g a.2 m i l
  goes gap R (until_end p q) s c z e k g a m i l =
      let o : Outcome = repetitions (suc (length s.symbol)) s.symbol (parse p s) (Some i) in
      both R (length s.symbol) i k (a.0 + 16) e o.tree o.place (parse q s)
      (more R (length s.symbol) i k a.0 (a.0 + 16) (a.0 + 16) (work_of before after back o.tree) o.place (omega (arith, a.1)) (omega arith)
      (repetitions_go R (length s.symbol) a.0 (suc (length s.symbol)) s.symbol (parse p s) refl a.2 (λ j b. goes gap R p s c z a.0 (a.0 - 1) false a.3 m j b) i l))
      (λ j _ b. goes gap R q s c z e (a.0 + 16) false a.4 m j b) (still q s)
  goes gap R (raise p) s c z e k g a m i l = raised_goes (length s.symbol) gap R k e i s.deeper (λ x xs. parse p (record s { here = x; deeper = xs })) l m.deeper
      (λ S x xs y w. goes gap S p (record s { here = x; deeper = xs }) c 2 e k g a (record { covers = m.covers; here = y; deeper = w }) i l)
  goes gap R (unit p q) s c z e k g a m i l = both R (length s.symbol) i k a.0 e (parse p s (Some i)).tree (parse p s (Some i)).place (parse q s)
      (goes gap R p s c z a.0 k g a.1 m i l) (λ j _ b. goes gap R q s c z e a.0 false a.2 m j b) (still q s)
  goes gap R (child kind value p) s c z e k g a m i l =
      let o : Outcome = unit_outcome s kind value (Some i) in
      both R (length s.symbol) i k 8 e o.tree o.place (parse p s)
      (more R (length s.symbol) i k (start kind) 8 8 (work_of before after back o.tree) o.place a.0 (omega arith) (m.here s.printed kind value s.lifetimes i l))
      (λ j _ b. goes gap R p s c z e 8 false a.2 m j b) (still p s)
  goes gap R (skip p) s c z e k g a m i l =
      let o : Outcome = s.here false a_path false s.lifetimes i in
      both R (length s.symbol) i k 8 e o.tree o.place (parse p s)
      (more R (length s.symbol) i k 0 8 8 (work_of before after back o.tree) o.place (omega arith) (omega arith) (m.here false a_path false s.lifetimes i l))
      (λ j _ b. goes gap R p s c z e 8 g a.1 m j b) (still p s)
  goes gap R (folded p q) s c z e k g a m i l =
      let quiet = record s { printed = false } in
      folded_goes R (length s.symbol) i k a.0 e (s.printed && s.folds) (parse p quiet (Some i)) (parse p s (Some i)) (parse q s)
      (goes gap R p quiet c z a.0 k g a.1 (record { covers = m.covers; here = m.here; deeper = m.deeper }) i l)
      (goes gap R p s c z a.0 k g a.1 m i l) (λ j _ b. goes gap R q s c z e a.0 false a.2 m j b) (still q s)
  goes gap R (target kind value) s c z e k g a m i l =
      primitive_goes R (length s.symbol) i k (k + 9) e 1 s.symbol (backref_at s.symbol i)
      (λ t j. target_of s.deeper (λ level. target_read s.printed (level true kind value s.lifetimes) t j)) refl l (backref_placed s.symbol i) (omega arith)
      (λ t j w _ b. target_of_goes (length s.symbol) gap R j s.lifetimes t (k + 9) e kind value s.printed s.deeper m.covers m.deeper (target_within s.symbol i t j (length s.symbol) l w) b a.1 (omega arith))
  goes gap R (lifetime x p) s c z e k g a m i l =
      let o : Outcome = lifetime_at s.printed s.lifetimes x (Some i) in
      both R (length s.symbol) i k k e o.tree o.place (parse p s) (lifetime_goes R (length s.symbol) i k s.printed s.lifetimes x l) (λ j _ b. goes gap R p s c z e k g a m j b) (still p s)
  goes gap R (binder x p) s c z e k g a m i l =
      let y = record s { lifetimes = s.lifetimes + x } in
      let o : Outcome = parse p y (Some i) in
      with_work R (length s.symbol) i k e (work_of before after back (binder_at s.printed x s.lifetimes o.tree)) (work_of before after back o.tree) o.place (work_binder s.printed x s.lifetimes o.tree)
      (goes gap R p y c z e k g a (record { covers = m.covers; here = m.here; deeper = m.deeper }) i l)
  goes gap R (leave_open p) s c z e k g a m i l = goes gap R p s c z e k g a.1 m i l
  goes gap R (dyn_trait p) s c z e k g a m i l =
      let path : Outcome = unit_outcome s a_trait_path false (Some i) in
      both R (length s.symbol) i k 8 e path.tree path.place (bound_by (suc (length s.symbol)) s (parse p s) path.is_bracket_open)
      (more R (length s.symbol) i k (start a_trait_path) 8 8 (work_of before after back path.tree) path.place a.0 (omega arith) (m.here s.printed a_trait_path false s.lifetimes i l))
      (λ j _ b. let all : Outcome = bound_by (suc (length s.symbol)) s (parse p s) path.is_bracket_open (Some j) in
      more R (length s.symbol) j 8 a.2.0 e e (work_of before after back all.tree) all.place (omega (arith, a.2.1)) (omega arith)
      (bound_goes R (length s.symbol) a.2.0 e (suc (length s.symbol)) s (parse p s) refl a.2.2 a.2.4 (λ v x. goes gap R p s c z a.2.0 (a.2.0 + 25) true a.2.3 m v x) path.is_bracket_open j b)) (still_closed path.is_bracket_open)
  goes gap R (bindings o p) s c z e k g a m i l =
      let all : Outcome = bound_by (suc (length s.symbol)) s (parse p s) o (Some i) in
      more R (length s.symbol) i k a.1 e e (work_of before after back all.tree) all.place (omega (arith, a.2)) (omega arith)
      (bound_goes R (length s.symbol) a.1 e (suc (length s.symbol)) s (parse p s) refl a.3 a.5 (λ v x. goes gap R p s c z a.1 (a.1 + 25) true a.4 m v x) o i l)

  level_goes : (gap R : ℕ) (symbol : List ℕ) (folds : Bool) (ls : List Level) → Covers (length symbol) gap before after back → AllGo gap R (length symbol) ls → LevelGoes R (length symbol) (level_of symbol folds ls)
  unfolding parse level_of
  level_goes gap R symbol folds ls h a pr kind value m i l =
      let at : Level → Bool → ℕ → Context = λ here f k. record { symbol = symbol; folds = folds; printed = f; here = here; deeper = ls; lifetimes = k } in
      let inner : Level = λ f k v o j. parse (items k v) (at nowhere f o) (Some j) in
      goes gap R (items kind value) (at inner pr m) _ _ 8 (start kind) true (fits kind value)
      (record {
        covers = h;
        here = λ f k v o j q. goes gap R (items k v) (at nowhere f o) _ _ 8 (start k) true (fits k v) (record { covers = h; here = λ f' k' v' o' j' q'. omega (arith, q'); deeper = a }) j q;
        deeper = a;
      }) i l

  levels_go : (gap : ℕ) (symbol : List ℕ) (folds : Bool) (m : ℕ) → Covers (length symbol) gap before after back → AllGo gap (loan gap m) (length symbol) (levels symbol folds m)
  unfolding levels
  levels_go gap symbol folds zero h = tt
  levels_go gap symbol folds (suc m) h =
      let q : AllGo gap (loan gap m) (length symbol) (levels symbol folds m) = levels_go gap symbol folds m h in
      (loan gap m, omega arith, level_goes gap (loan gap m) symbol folds (levels symbol folds m) h q, q)

  pub read_goes : (gap : ℕ) (symbol : List ℕ) (folds printed : Bool) (kind : Kind) (i depth m : ℕ) (value : Bool) → Covers (length symbol) gap before after back → i ≤ length symbol →
      Within (loan gap (max_depth - depth)) (length symbol) i (start kind) 8 (read_at symbol folds printed kind i depth m value)
  unfolding read_at
  read_goes gap symbol folds printed kind i depth m value h l = level_goes gap (loan gap (max_depth - depth)) symbol folds (levels symbol folds (max_depth - depth)) h (levels_go gap symbol folds (max_depth - depth) h) printed kind value m i l
