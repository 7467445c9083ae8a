-- After an error no reference is followed.
use Rattle.std.specs.Prelude.{ℕ, zero, suc, ◌&&◌, ◌==◌, nat_le}
use Rattle.std.proofs.Common.{◌≡◌, codes, Bool, true, false, cond, List, [], ◌∷◌, length, None, refl, sym, ◌∙◌, ◌+◌, ◌-◌, subst, arith}
use Rattle.demangle_v0_grammar.specs.Items.{Text, Items, done, print, print_plain, next, if_ok, until_end, raise, unit, child, skip, folded, lifetime, binder, leave_open, dyn_trait, bindings, a_trait_path}
use Rattle.demangle_v0_grammar.specs.Reading.{Tree, nothing, piece, Place, Outcome, Level, Context, followed_by, folded_by, parse, one_level_deeper, repetitions, angle_if_open, bound_by, unit_outcome, lifetime_at, lifetime_named, letter_of, all_pieces, new_lifetimes, binder_at}
use Rattle.demangle_v0_grammar.specs.Again.{Distance, again}

module _ (d : Distance) where
  abbrev pub FollowsNone : Outcome → Type 0
  FollowsNone o = (o.place ≡ None) × (again d o.tree ≡ 0)

  again_pieces : (ts : List Text) (t : Tree) → again d (all_pieces ts t) ≡ again d t
  again_pieces [] t = refl
  again_pieces (x ∷ ts) t = again_pieces ts t

  again_new : (m n : ℕ) (t : Tree) → again d (new_lifetimes m n t) ≡ again d t
  again_new zero n t = refl
  again_new (suc m) n t = again_pieces (letter_of n) (new_lifetimes m (n + 1) t) ∙ again_new m (n + 1) t

  again_binder : (c : Bool) (m n : ℕ) (t : Tree) → again d (binder_at c m n t) ≡ again d t
  again_binder false m n t = refl
  again_binder true zero n t = refl
  again_binder true (suc m) n t = again_pieces (letter_of n) (new_lifetimes m (n + 1) (piece (codes "> ") t)) ∙ again_new m (n + 1) (piece (codes "> ") t)

  none_followed : (o : Outcome) (f : Place → Outcome) → FollowsNone o → FollowsNone (f None) → FollowsNone (followed_by o f)
  none_followed o f h k = let q : FollowsNone (f o.place) = subst (λ z. FollowsNone (f z)) (sym h.0) k in (q.0, omega (arith, h.1, q.1))

  none_chosen : (b : Bool) (x y : Outcome) → FollowsNone x → FollowsNone y → FollowsNone (cond b x y)
  none_chosen true x y p q = p
  none_chosen false x y p q = q

  none_in_lifetime : (b : Bool) (m k : ℕ) → FollowsNone (lifetime_at b m k None)
  none_in_lifetime false m k = (refl, refl)
  none_in_lifetime true m k =
      let inner : FollowsNone (lifetime_named m k None) =
      none_chosen (k == 0) _ _ (refl, refl) (none_chosen (nat_le k m) _ _ (refl, again_pieces (letter_of (m - k)) nothing) (refl, refl)) in
      (inner.0, inner.1)

  none_deeper : (ls : List Level) (f : Level → List Level → Place → Outcome) → ((l : Level) (ls : List Level) → FollowsNone (f l ls None)) → FollowsNone (one_level_deeper ls f None)
  none_deeper [] f h = (refl, refl)
  none_deeper (l ∷ ls) f h = h l ls

  none_closed : (o : Bool) → FollowsNone (angle_if_open o None)
  none_closed true = (refl, refl)
  none_closed false = (refl, refl)

  none_folded : (c : Bool) (x y : Outcome) (f : Place → Outcome) → FollowsNone x → FollowsNone y → FollowsNone (f None) → FollowsNone (folded_by c x y f)
  none_folded true x y f h k e = let q : FollowsNone (f x.place) = subst (λ z. FollowsNone (f z)) (sym h.0) e in (q.0, omega (arith, h.1, q.1))
  none_folded false x y f h k e = none_followed y f k e

  pub follows_none : (p : Items) (s : Context) → FollowsNone (parse p s None)
  unfolding parse repetitions bound_by
  follows_none done s = (refl, refl)
  follows_none (print t p) s = follows_none p s
  follows_none (print_plain t p) s = follows_none p s
  follows_none (next b p q) s = follows_none q s
  follows_none (if_ok p q) s = follows_none q s
  follows_none (until_end p q) s = none_followed (repetitions (suc (length s.symbol)) s.symbol (parse p s) None) (parse q s) (refl, refl) (follows_none q s)
  follows_none (raise p) s = none_deeper s.deeper (λ l ls. parse p (record s { here = l; deeper = ls })) (λ l ls. follows_none p (record s { here = l; deeper = ls }))
  follows_none (unit p q) s = none_followed (parse p s None) (parse q s) (follows_none p s) (follows_none q s)
  follows_none (child kind value p) s = none_followed (unit_outcome s kind value None) (parse p s) (refl, refl) (follows_none p s)
  follows_none (skip p) s = follows_none p s
  follows_none (folded p q) s = none_folded (s.printed && s.folds) (parse p (record s { printed = false }) None) (parse p s None) (parse q s) (follows_none p (record s { printed = false })) (follows_none p s) (follows_none q s)
  follows_none (lifetime k p) s = none_followed (lifetime_at s.printed s.lifetimes k None) (parse p s) (none_in_lifetime s.printed s.lifetimes k) (follows_none p s)
  follows_none (binder m p) s =
      let q : FollowsNone (parse p (record s { lifetimes = s.lifetimes + m }) None) = follows_none p (record s { lifetimes = s.lifetimes + m }) in
      (q.0, again_binder s.printed m s.lifetimes (parse p (record s { lifetimes = s.lifetimes + m }) None).tree ∙ q.1)
  follows_none (leave_open p) s = follows_none p s
  follows_none (dyn_trait p) s = none_followed (unit_outcome s a_trait_path false None) (bound_by (suc (length s.symbol)) s (parse p s) false) (refl, refl) (none_closed false)
  follows_none (bindings o p) s = none_closed o
  follows_none _ _ = (refl, refl)
