-- A production ends at one place at most, for each start.
use Rattle.std.specs.Prelude.{ℕ}
use Rattle.std.proofs.Common.{◌≡◌, Bool, true, false, List, Option, Some, refl, sym, ◌∙◌, ap, subst}
use Rattle.demangle_symbol.specs.Primitives.{Name}
use Rattle.demangle_v0_grammar.specs.Items.{Items, until_end, bindings}
use Rattle.demangle_v0_grammar.specs.Spelling.{Rule, Spells, end_, say_, plain_, byte_, namespace_, integer_, optional_, identifier_, nibbles_, peek_, there, other, sound_, over_, repetition_, raise_, unit_, child_, skip_, folded_, target_, lifetime_, binder_, opens_, dyn_, past_, bound_}

true_or_false : {A : Type 0} {b : Bool} → b ≡ true → b ≡ false → A
true_or_false p q = cc (sym p ∙ q)

-- both results of a primitive are equal
same : {A : Type 0} {o : Option A} {x y : A} → o ≡ Some x → o ≡ Some y → y ≡ x
same p q = cc (sym q ∙ p)

pub unique : {symbol : List ℕ} {r : Rule} {d m : ℕ} {p : Items} {i j k : ℕ} → Spells symbol r d m p i j → Spells symbol r d m p i k → j ≡ k
unique end_ end_ = refl
unique (say_ a) (say_ b) = unique a b
unique (plain_ a) (plain_ b) = unique a b
unique {symbol} {r} {d} {m} {k = k} (byte_ {f = f} v n e a) (byte_ w y g b) =
    unique a (subst (λ (x : ℕ × ℕ). Spells symbol r d m (f x.0) x.1 k) (same e g) b)
unique {symbol} {r} {d} {m} {k = k} (namespace_ {f = f} v n e a) (namespace_ w y g b) =
    unique a (subst (λ (x : ℕ × ℕ). Spells symbol r d m (f x.0) x.1 k) (same e g) b)
unique {symbol} {r} {d} {m} {k = k} (integer_ {f = f} v n e a) (integer_ w y g b) =
    unique a (subst (λ (x : ℕ × ℕ). Spells symbol r d m (f x.0) x.1 k) (same e g) b)
unique {symbol} {r} {d} {m} {k = k} (optional_ {f = f} v n e a) (optional_ w y g b) =
    unique a (subst (λ (x : ℕ × ℕ). Spells symbol r d m (f x.0) x.1 k) (same e g) b)
unique {symbol} {r} {d} {m} {k = k} (identifier_ {f = f} v n e a) (identifier_ w y g b) =
    unique a (subst (λ (x : Name × ℕ). Spells symbol r d m (f x.0) x.1 k) (same e g) b)
unique {symbol} {r} {d} {m} {k = k} (nibbles_ {f = f} v n e a) (nibbles_ w y g b) =
    unique a (subst (λ (x : List ℕ × ℕ). Spells symbol r d m (f x.0) x.1 k) (same e g) b)
unique {symbol} {r} {d} {m} {i} {k = k} (peek_ {f = f} v e a) (peek_ w g b) =
    unique a (subst (λ x. Spells symbol r d m (f x) i k) (same e g) b)
unique (there e a) (there f b) = unique a b
unique (there e a) (other f b) = true_or_false e f
unique (other e a) (there f b) = true_or_false f e
unique (other e a) (other f b) = unique a b
unique (sound_ a) (sound_ b) = unique a b
unique (over_ e a) (over_ f b) = unique a b
unique (over_ e a) (repetition_ f b c) = true_or_false e f
unique (repetition_ e a c) (over_ f b) = true_or_false f e
unique {symbol} {r} {d} {m} {k = k} (repetition_ {p = p} {q = q} e a c) (repetition_ f b g) = unique c (subst (λ x. Spells symbol r d m (until_end p q) x k) (sym (unique a b)) g)
unique (raise_ l a) (raise_ y b) = unique a b
unique {symbol} {r} {d} {m} {k = k} (unit_ {q = q} a c) (unit_ b e) = unique c (subst (λ x. Spells symbol r d m q x k) (sym (unique a b)) e)
unique {symbol} {r} {d} {m} {k = k} (child_ {p = q} a c) (child_ b e) = unique c (subst (λ x. Spells symbol r d m q x k) (sym (unique a b)) e)
unique {symbol} {r} {d} {m} {k = k} (skip_ {p = q} a c) (skip_ b e) = unique c (subst (λ x. Spells symbol r d m q x k) (sym (unique a b)) e)
unique {symbol} {r} {d} {m} {k = k} (folded_ {q = q} a c) (folded_ b e) = unique c (subst (λ x. Spells symbol r d m q x k) (sym (unique a b)) e)
unique (target_ v u e l) (target_ w u' g l') = ap (λ (x : ℕ × ℕ). x.1) (sym (same e g))
unique (lifetime_ u a) (lifetime_ u' b) = unique a b
unique (binder_ a) (binder_ b) = unique a b
unique (opens_ a) (opens_ b) = unique a b
unique {symbol} {r} {d} {m} {k = k} (dyn_ {p = p} a c) (dyn_ b e) = unique c (subst (λ x. Spells symbol r d m (bindings false p) x k) (sym (unique a b)) e)
unique (past_ e) (past_ f) = refl
unique (past_ e) (bound_ a f w b c) = true_or_false f e
unique (bound_ a e w b c) (past_ f) = true_or_false e f
unique {symbol} {r} {d} {m} {k = k} (bound_ {p = p} a e w b c) (bound_ {l = y} a' e' w' b' c') =
    unique c (subst (λ x. Spells symbol r d m (bindings true p) x k) (sym (unique b (subst (λ (x : Name × ℕ). Spells symbol r d m p x.1 y) (same w w') b'))) c')
