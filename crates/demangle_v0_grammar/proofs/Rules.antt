-- Bytes that are spelled by a rule are spelled by a laxer one.
use Rattle.std.specs.Prelude.{ℕ}
use Rattle.std.proofs.Common.{◌≡◌, List, refl, sym, subst, arith}
use Rattle.demangle_v0_grammar.specs.Items.{Items}
use Rattle.demangle_v0_grammar.specs.Spelling.{Rule, freely, named, named_outside, simple, of_arguments, MayName, MayRefer, Spells, end_, say_, plain_, byte_, namespace_, integer_, optional_, identifier_, nibbles_, peek_, there, other, sound_, over_, repetition_, raise_, unit_, child_, skip_, folded_, target_, lifetime_, binder_, opens_, dyn_, past_, bound_}

-- one rule requires no more than another
pub record IsLaxer (r s : Rule) : Type 0 where
  pub names : (m k : ℕ) → MayName r m k → MayName s m k
  pub refers : MayRefer r → MayRefer s
  -- in generic arguments
  pub inside : (m k : ℕ) → MayName (of_arguments r) m k → MayName (of_arguments s) m k

pub refers_outside : (r : Rule) → MayRefer (of_arguments r) → MayRefer r
refers_outside freely h = tt
refers_outside named h = tt
refers_outside named_outside h = tt
refers_outside simple h = h

refers_inside : (r : Rule) → MayRefer r → MayRefer (of_arguments r)
refers_inside freely h = tt
refers_inside named h = tt
refers_inside named_outside h = tt
refers_inside simple h = h

pub arguments_twice : (r : Rule) → of_arguments (of_arguments r) ≡ of_arguments r
arguments_twice freely = refl
arguments_twice named = refl
arguments_twice named_outside = refl
arguments_twice simple = refl

-- the same for the rules of generic arguments
pub inside_laxer : (r s : Rule) → IsLaxer r s → IsLaxer (of_arguments r) (of_arguments s)
inside_laxer r s h = record {
  names = h.inside;
  refers = λ x. refers_inside s (h.refers (refers_outside r x));
  inside = subst (λ (x : Rule). (m k : ℕ) → MayName x m k → MayName (of_arguments (of_arguments s)) m k) (sym (arguments_twice r)) (subst (λ (x : Rule). (m k : ℕ) → MayName (of_arguments r) m k → MayName x m k) (sym (arguments_twice s)) h.inside);
}

pub relaxed : {symbol : List ℕ} {r : Rule} {d m : ℕ} {p : Items} {i j : ℕ} (s : Rule) → IsLaxer r s → Spells symbol r d m p i j → Spells symbol s d m p i j
relaxed s h end_ = end_
relaxed s h (say_ a) = say_ (relaxed s h a)
relaxed s h (plain_ a) = plain_ (relaxed s h a)
relaxed s h (byte_ v k e a) = byte_ v k e (relaxed s h a)
relaxed s h (namespace_ v k e a) = namespace_ v k e (relaxed s h a)
relaxed s h (integer_ v k e a) = integer_ v k e (relaxed s h a)
relaxed s h (optional_ v k e a) = optional_ v k e (relaxed s h a)
relaxed s h (identifier_ v k e a) = identifier_ v k e (relaxed s h a)
relaxed s h (nibbles_ v k e a) = nibbles_ v k e (relaxed s h a)
relaxed s h (peek_ v e a) = peek_ v e (relaxed s h a)
relaxed s h (there e a) = there e (relaxed s h a)
relaxed s h (other e a) = other e (relaxed s h a)
relaxed s h (sound_ a) = sound_ (relaxed s h a)
relaxed s h (over_ e a) = over_ e (relaxed s h a)
relaxed s h (repetition_ e a c) = repetition_ e (relaxed s h a) (relaxed s h c)
relaxed s h (raise_ l a) = raise_ l (relaxed s h a)
relaxed s h (unit_ a c) = unit_ (relaxed s h a) (relaxed s h c)
relaxed s h (child_ a c) = child_ (relaxed s h a) (relaxed s h c)
relaxed s h (skip_ a c) = skip_ a (relaxed s h c)
relaxed {r = r} s h (folded_ a c) = folded_ (relaxed (of_arguments s) (inside_laxer r s h) a) (relaxed s h c)
relaxed s h (target_ v u e l) = target_ v (h.refers u) e l
relaxed {m = m} s h (lifetime_ {k = k} u a) = lifetime_ (h.names m k u) (relaxed s h a)
relaxed s h (binder_ a) = binder_ (relaxed s h a)
relaxed s h (opens_ a) = opens_ (relaxed s h a)
relaxed s h (dyn_ a c) = dyn_ (relaxed s h a) (relaxed s h c)
relaxed s h (past_ e) = past_ e
relaxed s h (bound_ x e w a c) = bound_ x e w (relaxed s h a) (relaxed s h c)

pub itself : (r : Rule) → IsLaxer r r
itself r = record { names = λ m k h. h; refers = λ h. h; inside = λ m k h. h }

pub freely_laxest : (r : Rule) → IsLaxer r freely
freely_laxest r = record { names = λ m k h. tt; refers = λ h. tt; inside = λ m k h. tt }

pub simply_outside : IsLaxer simple named_outside
simply_outside = record { names = λ m k h. omega (arith, h); refers = λ h. absurd h; inside = λ m k h. tt }

pub simply : IsLaxer simple named
simply = record { names = λ m k h. omega (arith, h); refers = λ h. absurd h; inside = λ m k h. omega (arith, h) }

pub spelled_freely : {symbol : List ℕ} {r : Rule} {d m : ℕ} {p : Items} {i j : ℕ} → Spells symbol r d m p i j → Spells symbol freely d m p i j
spelled_freely {r = r} a = relaxed freely (freely_laxest r) a

pub simply_named : {symbol : List ℕ} {d m : ℕ} {p : Items} {i j : ℕ} → Spells symbol simple d m p i j → Spells symbol named d m p i j
simply_named a = relaxed named simply a
