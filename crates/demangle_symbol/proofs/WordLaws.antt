-- The function of each primitive returns exactly the values of its relation.
use Rattle.std.specs.Prelude.{◌≡◌, ◌↔◌, IsTrue, ℕ, ◌+◌, ◌^◌, ◌<◌, ◌≤◌, ◌&&◌, ◌||◌, ◌==◌, Bool, true, false, not, List, length, Option, Some, None, nat_lt, nat_le, slice_get, slice_range}
use Rattle.std.proofs.Common.{cond, refl, sym, ◌∙◌, ap, subst, arith, inl, inr}
use Rattle.std.proofs.lemmas.Bool.{ltb-true, lt-ltb, leb-true, le-leb}
use Rattle.demangle_symbol.specs.Digits.{run_end, is_byte}
use Rattle.demangle_symbol.specs.Primitives.{Name, Read, only_if, then_if_some, is_upper, is_lower, namespace_at, Namespace, is_digit_62, integer_value, integer_at, Integer, optional_at, OptInteger, backref_at, Backref, digits_from, length_end, name_from, name_len, name_of, tail_len, identifier_at, Identifier, is_nibble, nibbles_at, Hex}
use Rattle.demangle_symbol.proofs.Digits.{is_byte_there}

-- a value and the place after it
abbrev pair : {A : Type 0} → A → ℕ → A × ℕ
pair a j = (a, j)

parts : {A : Type 0} {a b : A} {i j : ℕ} → Some (pair a i) ≡ Some (pair b j) → (b ≡ a) × (j ≡ i)
parts {a = a} {b} {i} {j} e = let p : pair a i ≡ pair b j = cc e in (ap (λ x. x.0) (sym p), ap (λ x. x.1) (sym p))

some_pair : {A : Type 0} {a b : A} {i j : ℕ} → b ≡ a → j ≡ i → Some (pair a i) ≡ Some (pair b j)
some_pair {a = a} {j = j} p q = ap (λ k. Some (pair a k)) (sym q) ∙ ap (λ x. Some (pair x j)) (sym p)

if_some : {A : Type 0} (c : Bool) (a b : A) (i j : ℕ) → only_if c (pair a i) ≡ Some (pair b j) → (c ≡ true) × (b ≡ a) × (j ≡ i)
if_some true a b i j e = let p : (b ≡ a) × (j ≡ i) = parts e in (refl, p.0, p.1)
if_some false a b i j e = cc e

if_true : {A : Type 0} (c : Bool) (a b : A) (i j : ℕ) → c ≡ true → b ≡ a → j ≡ i → only_if c (pair a i) ≡ Some (pair b j)
if_true true a b i j c p q = some_pair p q
if_true false a b i j c p q = cc c

and_parts : (a b : Bool) → a && b ≡ true → (a ≡ true) × (b ≡ true)
and_parts true b h = (refl, h)
and_parts false b h = cc h

and_both : (a b : Bool) → a ≡ true → b ≡ true → a && b ≡ true
and_both true b p q = q
and_both false b p q = cc p

byte_is : (s : List ℕ) (k b : ℕ) → slice_get s k ≡ Some b → is_byte s k b ≡ true
unfolding is_byte
byte_is s k b here = rw here (same b)
  where
    same : (x : ℕ) → (x == x) ≡ true
    same x = grind arith

pub namespace_law : (s : List ℕ) (i j b : ℕ) → (namespace_at s i ≡ Some (b, j)) ↔ (Namespace s i b × (j ≡ i + 1))
unfolding namespace_at
namespace_law s i j b = (λ e. from (slice_get s i) refl e, λ h. subst (λ o. then_if_some o (λ b. only_if (is_upper b || is_lower b) (pair b (i + 1))) ≡ Some (pair b j)) (sym h.0.0) (if_true (is_upper b || is_lower b) b b (i + 1) j h.0.1 refl h.1))
  where
    from : (o : Option ℕ) → slice_get s i ≡ o → then_if_some o (λ b. only_if (is_upper b || is_lower b) (pair b (i + 1))) ≡ Some (pair b j) → Namespace s i b × (j ≡ i + 1)
    from None e h = cc h
    from (Some x) e h =
        let p : ((is_upper x || is_lower x) ≡ true) × (b ≡ x) × (j ≡ i + 1) = if_some (is_upper x || is_lower x) x b (i + 1) j h in
        ((e ∙ ap Some (sym p.1), subst (λ z. IsTrue (is_upper z || is_lower z)) (sym p.1) p.0), p.2)

pub integer_law : (s : List ℕ) (i j v : ℕ) → (integer_at s i ≡ Some (v, j)) ↔ Integer s i j v
unfolding integer_at
integer_law s i j v =
    let end : ℕ = run_end is_digit_62 s i in
    let w : ℕ = integer_value s i end in (
      λ e. let p : (is_byte s end 95 && nat_lt w (2 ^ 64) ≡ true) × (v ≡ w) × (j ≡ end + 1) = if_some (is_byte s end 95 && nat_lt w (2 ^ 64)) w v (end + 1) j e in
          let q : (is_byte s end 95 ≡ true) × (nat_lt w (2 ^ 64) ≡ true) = and_parts (is_byte s end 95) (nat_lt w (2 ^ 64)) p.0 in
          record { ends = is_byte_there s end 95 q.0; next = p.2; value = p.1; fits = subst (λ z. z < 2 ^ 64) (sym p.1) (ltb-true w (2 ^ 64) q.1) },
      λ h. if_true (is_byte s end 95 && nat_lt w (2 ^ 64)) w v (end + 1) j (and_both (is_byte s end 95) (nat_lt w (2 ^ 64)) (byte_is s end 95 h.ends) (lt-ltb w (2 ^ 64) (subst (λ z. z < 2 ^ 64) h.value h.fits))) h.value h.next,
    )

pub optional_law : (tag : ℕ) (s : List ℕ) (i j v : ℕ) → (optional_at tag s i ≡ Some (v, j)) ↔ OptInteger tag s i j v
unfolding optional_at
optional_law tag s i j v = (λ e. from (is_byte s i tag) refl e, into)
  where
    with_tag : Read ℕ → Read ℕ
    with_tag o = then_if_some o (λ r. only_if (nat_lt (r.0 + 1) (2 ^ 64)) (pair (r.0 + 1) r.1))

    read : (o : Read ℕ) → integer_at s (i + 1) ≡ o → then_if_some o (λ r. only_if (nat_lt (r.0 + 1) (2 ^ 64)) (pair (r.0 + 1) r.1)) ≡ Some (pair v j) → (n : ℕ) × Integer s (i + 1) j n × (v ≡ n + 1) × (v < 2 ^ 64)
    read None e h = cc h
    read (Some (n, k)) e h =
        let p : (nat_lt (n + 1) (2 ^ 64) ≡ true) × (v ≡ n + 1) × (j ≡ k) = if_some (nat_lt (n + 1) (2 ^ 64)) (n + 1) v k j h in
        (n, subst (λ z. Integer s (i + 1) z n) (sym p.2) ((integer_law s (i + 1) k n).0 e), p.1, subst (λ z. z < 2 ^ 64) (sym p.1) (ltb-true (n + 1) (2 ^ 64) p.0))

    from : (c : Bool) → is_byte s i tag ≡ c → cond c (then_if_some (integer_at s (i + 1)) (λ r. only_if (nat_lt (r.0 + 1) (2 ^ 64)) (pair (r.0 + 1) r.1))) (Some (pair 0 i)) ≡ Some (pair v j) → OptInteger tag s i j v
    from true c e = inl (c, read (integer_at s (i + 1)) refl e)
    from false c e = let p : (v ≡ 0) × (j ≡ i) = parts e in inr (c, p.1, p.0)

    into : OptInteger tag s i j v → cond (is_byte s i tag) (then_if_some (integer_at s (i + 1)) (λ r. only_if (nat_lt (r.0 + 1) (2 ^ 64)) (pair (r.0 + 1) r.1))) (Some (pair 0 i)) ≡ Some (pair v j)
    into (inl (c, (n, h, e, f))) =
        subst (λ b. cond b (then_if_some (integer_at s (i + 1)) (λ r. only_if (nat_lt (r.0 + 1) (2 ^ 64)) (pair (r.0 + 1) r.1))) (Some (pair 0 i)) ≡ Some (pair v j)) (sym c)
        (subst (λ o. then_if_some o (λ r. only_if (nat_lt (r.0 + 1) (2 ^ 64)) (pair (r.0 + 1) r.1)) ≡ Some (pair v j)) (sym ((integer_law s (i + 1) j n).1 h))
        (if_true (nat_lt (n + 1) (2 ^ 64)) (n + 1) v j j (lt-ltb (n + 1) (2 ^ 64) (subst (λ z. z < 2 ^ 64) e f)) e refl))
    into (inr (c, p, q)) = subst (λ b. cond b (then_if_some (integer_at s (i + 1)) (λ r. only_if (nat_lt (r.0 + 1) (2 ^ 64)) (pair (r.0 + 1) r.1))) (Some (pair 0 i)) ≡ Some (pair v j)) (sym c) (some_pair q p)

pub backref_law : (s : List ℕ) (i j t : ℕ) → (backref_at s i ≡ Some (t, j)) ↔ Backref s i j t
unfolding backref_at
backref_law s i j t = (λ e. from (integer_at s i) refl e, λ h. subst (λ o. then_if_some o (λ r. only_if (nat_lt (r.0 + 1) i) (pair r.0 r.1)) ≡ Some (pair t j)) (sym ((integer_law s i j t).1 h.0)) (if_true (nat_lt (t + 1) i) t t j j (lt-ltb (t + 1) i h.1) refl refl))
  where
    from : (o : Read ℕ) → integer_at s i ≡ o → then_if_some o (λ r. only_if (nat_lt (r.0 + 1) i) (pair r.0 r.1)) ≡ Some (pair t j) → Backref s i j t
    from None e h = cc h
    from (Some (n, k)) e h =
        let p : (nat_lt (n + 1) i ≡ true) × (t ≡ n) × (j ≡ k) = if_some (nat_lt (n + 1) i) n t k j h in
        (subst (λ z. Integer s i z t) (sym p.2) (subst (λ z. Integer s i k z) (sym p.1) ((integer_law s i k n).0 e)), subst (λ z. z + 1 < i) (sym p.1) (ltb-true (n + 1) i p.0))

pub nibbles_law : (s : List ℕ) (i j : ℕ) (ns : List ℕ) → (nibbles_at s i ≡ Some (ns, j)) ↔ ((end : ℕ) × Hex s i j end × (ns ≡ slice_range s i end))
unfolding nibbles_at
nibbles_law s i j ns =
    let stop : ℕ = run_end is_nibble s i in (
      λ e. let p : (is_byte s stop 95 ≡ true) × (ns ≡ slice_range s i stop) × (j ≡ stop + 1) = if_some (is_byte s stop 95) (slice_range s i stop) ns (stop + 1) j e in
          (stop, record { nibbles = refl; ends = is_byte_there s stop 95 p.0; next = p.2 }, p.1),
      λ h. if_true (is_byte s stop 95) (slice_range s i stop) ns (stop + 1) j (byte_is s stop 95 (subst (λ z. slice_get s z ≡ Some 95) h.1.nibbles h.1.ends)) (subst (λ z. ns ≡ slice_range s i z) h.1.nibbles h.2) (subst (λ z. j ≡ z + 1) h.1.nibbles h.1.next),
    )

-- there is a Punycode part after the `u`
some_tail : (u : Bool) (n : ℕ) → not (u && n == 0) ≡ true → u ≡ true → 0 < n
some_tail true n h e = grind (arith, h)
some_tail false n h e = cc e

no_empty : (u : Bool) (n : ℕ) → (u ≡ true → 0 < n) → not (u && n == 0) ≡ true
no_empty true n h = let w : 0 < n = h refl in grind (arith, w)
no_empty false n h = refl

pub identifier_law : (s : List ℕ) (i j : ℕ) (name : Name) → (identifier_at s i ≡ Some (name, j)) ↔ Identifier s i j name
unfolding identifier_at
identifier_law s i j name =
    let d : ℕ = digits_from s i in
    let k : ℕ = name_from s i + name_len s i in
    let tail : ℕ = tail_len s (name_from s i) k in
    let some : Bool = nat_lt d (length_end s d) in
    let inside : Bool = nat_le k (length s) in
    let full : Bool = not (is_byte s i 117 && tail == 0) in (
      λ e. let p : (some && inside && full ≡ true) × (name ≡ name_of s i k) × (j ≡ k) = if_some (some && inside && full) (name_of s i k) name k j e in
          let q : (some && inside ≡ true) × (full ≡ true) = and_parts (some && inside) full p.0 in
          let r : (some ≡ true) × (inside ≡ true) = and_parts some inside q.0 in
          record {
            some = ltb-true d (length_end s d) r.0;
            next = p.2;
            inside = subst (λ z. z ≤ length s) (sym p.2) (leb-true k (length s) r.1);
            not_empty = λ u. subst (λ z. 0 < tail_len s (name_from s i) z) (sym p.2) (some_tail (is_byte s i 117) tail q.1 u);
            value = subst (λ z. name ≡ name_of s i z) (sym p.2) p.1;
          },
      λ h. if_true (some && inside && full) (name_of s i k) name k j
          (and_both (some && inside) full (and_both some inside (lt-ltb d (length_end s d) h.some) (le-leb k (length s) (subst (λ z. z ≤ length s) h.next h.inside)))
          (no_empty (is_byte s i 117) tail (λ u. subst (λ z. 0 < tail_len s (name_from s i) z) h.next (h.not_empty u))))
          (subst (λ z. name ≡ name_of s i z) h.next h.value) h.next,
    )
