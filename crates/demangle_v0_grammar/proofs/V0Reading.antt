-- A text is parsed as a v0 symbol exactly if it is one.
use Rattle.std.specs.Prelude.{◌≡◌, ◌↔◌, ℕ, zero, suc, ◌<◌, ◌&&◌, nat_lt, slice_index, codes, drop, Option, Some, None, IsAscii}
use Rattle.std.specs.List.{list_all}
use Rattle.std.proofs.Common.{◌≤◌, length, Bool, true, false, cond, List, [], ◌∷◌, ◌++◌, refl, sym, ◌∙◌, ap, subst, arith, inl, inr}
use Rattle.std.proofs.lemmas.Bool.{ltb-true, lt-ltb}
use Rattle.demangle_symbol.specs.Prefix.{after_prefix}
use Rattle.demangle_symbol.specs.Primitives.{then_if_some, some_or}
use Rattle.demangle_v0_grammar.specs.Reading.{starts_second_path, suffix_place}
use Rattle.demangle_v0_grammar.specs.Spelling.{IsPaths}
use Rattle.demangle_v0_grammar.specs.V0.{IsV0Prefix, IsV0, v0_inner, v0_in, v0_of}
use Rattle.demangle_v0_grammar.proofs.ParsedIffSpelled.{accepted, all_accepted}
use Rattle.demangle_v0_grammar.proofs.TableCost.{fits}
use Rattle.demangle_v0_grammar.specs.Items.{a_path}
use Rattle.demangle_v0_grammar.proofs.SpelledIsParsed.{grows}
use Rattle.demangle_symbol.proofs.Prefixes.{after_is}

pub all_ascii : (xs : List ℕ) → list_all (λ b. nat_lt b 128) xs ≡ true → IsAscii xs
all_ascii [] h i = omega arith
all_ascii (x ∷ xs) h i = go (nat_lt x 128) refl h (λ h i. all_ascii xs h i) i
  where
    go : (c : Bool) → nat_lt x 128 ≡ c → c && list_all (λ b. nat_lt b 128) xs ≡ true → (list_all (λ b. nat_lt b 128) xs ≡ true → IsAscii xs) → (i : ℕ) → slice_index (x ∷ xs) i < 128
    go true e h k zero = ltb-true x 128 e
    go true e h k (suc i) = k h i
    go false e h k i = cc h

pub ascii_all : (xs : List ℕ) → IsAscii xs → list_all (λ b. nat_lt b 128) xs ≡ true
ascii_all [] h = refl
ascii_all (x ∷ xs) h = rw (lt-ltb x 128 (h zero)) (ascii_all xs (λ i. h (suc i)))

-- each prefix is removed

pub inner_prefix : (s r : List ℕ) → v0_inner s ≡ Some r → (prefix : List ℕ) × (s ≡ prefix ++ r) × IsV0Prefix prefix
inner_prefix s r h = go (after_prefix (codes "_R") s) (after_prefix (codes "R") s) (after_prefix (codes "__R") s) refl refl refl h
  where
    go : (a b c : Option (List ℕ)) → after_prefix (codes "_R") s ≡ a → after_prefix (codes "R") s ≡ b → after_prefix (codes "__R") s ≡ c →
        some_or (some_or c b Some) a Some ≡ Some r → (prefix : List ℕ) × (s ≡ prefix ++ r) × IsV0Prefix prefix
    go (Some x) b c p q w h = (codes "_R", after_is (codes "_R") s r (p ∙ h), inl refl)
    go None (Some x) c p q w h = (codes "R", after_is (codes "R") s r (q ∙ h), inr (inl refl))
    go None None c p q w h = (codes "__R", after_is (codes "__R") s r (w ∙ h), inr (inr refl))

pub prefix_inner : (prefix s r : List ℕ) → s ≡ prefix ++ r → IsV0Prefix prefix → v0_inner s ≡ Some r
prefix_inner prefix s r e (inl p) = rw (e, p) refl
prefix_inner prefix s r e (inr (inl p)) = rw (e, p) refl
prefix_inner prefix s r e (inr (inr p)) = rw (e, p) refl

-- the rest, after the tests
abbrev ending : List ℕ → ℕ → Option (List ℕ × List ℕ)
ending inner k = Some (inner, drop k inner)

abbrev rest_of : Bool → Bool → List ℕ → Option (List ℕ × List ℕ)
rest_of a b inner = cond (a && b) (then_if_some (suffix_place inner) (ending inner)) None

pub read_is_v0 : (symbol inner suffix : List ℕ) → v0_of symbol ≡ Some (inner, suffix) → IsV0 symbol inner suffix
unfolding v0_of v0_in
read_is_v0 symbol inner suffix h = go (v0_inner symbol) refl h
  where
    ends : (x : List ℕ) (o : Option ℕ) → suffix_place x ≡ o → then_if_some o (ending x) ≡ Some (inner, suffix) → (x ≡ inner) × ((k : ℕ) × IsPaths inner k × (suffix ≡ drop k inner))
    ends x None e h = cc h
    ends x (Some k) e h =
        let q : (x ≡ inner) × (drop k x ≡ suffix) = (ap (λ (o : Option (List ℕ × List ℕ)). some_or [] o (λ z. z.0)) h, ap (λ (o : Option (List ℕ × List ℕ)). some_or [] o (λ z. z.1)) h) in
        (q.0, (k, subst (λ z. IsPaths z k) q.0 (accepted x k e), subst (λ z. suffix ≡ drop k z) q.0 (sym q.1)))

    tests : (x : List ℕ) (a b : Bool) → list_all (λ b. nat_lt b 128) x ≡ a → starts_second_path x 0 ≡ b → rest_of a b x ≡ Some (inner, suffix) →
        (x ≡ inner) × IsAscii x × (starts_second_path x 0 ≡ true) × ((k : ℕ) × IsPaths inner k × (suffix ≡ drop k inner))
    tests x true true p q h = let w = ends x (suffix_place x) refl h in (w.0, all_ascii x p, q, w.1)
    tests x true false p q h = cc h
    tests x false b p q h = cc h

    go : (o : Option (List ℕ)) → v0_inner symbol ≡ o → then_if_some o v0_in ≡ Some (inner, suffix) → IsV0 symbol inner suffix
    go None e h = cc h
    go (Some x) e h =
        let w = tests x (list_all (λ b. nat_lt b 128) x) (starts_second_path x 0) refl refl h in
        let p = inner_prefix symbol x e in
        (p.0, p.1 ∙ ap (λ z. p.0 ++ z) w.0, p.2, subst IsAscii w.0 w.1, subst (λ z. starts_second_path z 0 ≡ true) w.0 w.2, w.3)

pub v0_is_read : (symbol inner suffix : List ℕ) → IsV0 symbol inner suffix → v0_of symbol ≡ Some (inner, suffix)
unfolding v0_of v0_in
v0_is_read symbol inner suffix (prefix, whole, is, ascii, begins, (k, paths, ends)) =
    subst (λ o. then_if_some o v0_in ≡ Some (inner, suffix)) (sym (prefix_inner prefix symbol inner whole is))
    (subst (λ a. rest_of a (starts_second_path inner 0) inner ≡ Some (inner, suffix)) (sym (ascii_all inner ascii))
    (subst (λ b. rest_of true b inner ≡ Some (inner, suffix)) (sym begins)
    (subst (λ o. then_if_some o (ending inner) ≡ Some (inner, suffix)) (sym (all_accepted inner k paths)) (ap (λ z. Some (inner, z)) (sym ends)))))

pub reading_is_v0 : (symbol inner suffix : List ℕ) → (v0_of symbol ≡ Some (inner, suffix)) ↔ IsV0 symbol inner suffix
reading_is_v0 symbol inner suffix = (read_is_v0 symbol inner suffix, v0_is_read symbol inner suffix)

-- The result of `demangle`.

pub v0_no_prefix : (symbol : List ℕ) → None ≡ v0_inner symbol → v0_of symbol ≡ None
unfolding v0_of
v0_no_prefix symbol e = ap (λ (o : Option (List ℕ)). then_if_some o v0_in) (sym e)

v0_after : (symbol inner : List ℕ) → Some inner ≡ v0_inner symbol → v0_of symbol ≡ rest_of (list_all (λ b. nat_lt b 128) inner) (starts_second_path inner 0) inner
unfolding v0_of v0_in
v0_after symbol inner e = ap (λ (o : Option (List ℕ)). then_if_some o v0_in) (sym e)

pub v0_not_ascii : (symbol inner : List ℕ) → Some inner ≡ v0_inner symbol → (IsAscii inner → ⊥) → v0_of symbol ≡ None
v0_not_ascii symbol inner e h = v0_after symbol inner e ∙ go (list_all (λ b. nat_lt b 128) inner) refl
  where
    go : (a : Bool) → list_all (λ b. nat_lt b 128) inner ≡ a → rest_of a (starts_second_path inner 0) inner ≡ None
    go true p = absurd (h (all_ascii inner p))
    go false p = refl

v0_ascii : (symbol inner : List ℕ) → Some inner ≡ v0_inner symbol → IsAscii inner → v0_of symbol ≡ rest_of true (starts_second_path inner 0) inner
v0_ascii symbol inner e h = v0_after symbol inner e ∙ ap (λ a. rest_of a (starts_second_path inner 0) inner) (ascii_all inner h)

pub v0_not_begun : (symbol inner : List ℕ) → Some inner ≡ v0_inner symbol → IsAscii inner → starts_second_path inner 0 ≡ false → v0_of symbol ≡ None
v0_not_begun symbol inner e h g = v0_ascii symbol inner e h ∙ ap (λ b. rest_of true b inner) g

v0_begun : (symbol inner : List ℕ) → Some inner ≡ v0_inner symbol → IsAscii inner → starts_second_path inner 0 ≡ true → v0_of symbol ≡ then_if_some (suffix_place inner) (ending inner)
v0_begun symbol inner e h g = v0_ascii symbol inner e h ∙ ap (λ b. rest_of true b inner) g

pub v0_no_paths : (symbol inner : List ℕ) → Some inner ≡ v0_inner symbol → IsAscii inner → starts_second_path inner 0 ≡ true → None ≡ suffix_place inner → v0_of symbol ≡ None
v0_no_paths symbol inner e h g k = v0_begun symbol inner e h g ∙ ap (λ (o : Option ℕ). then_if_some o (ending inner)) (sym k)

pub v0_there : (symbol inner : List ℕ) (k : ℕ) → Some inner ≡ v0_inner symbol → IsAscii inner → starts_second_path inner 0 ≡ true → Some k ≡ suffix_place inner → v0_of symbol ≡ Some (inner, drop k inner)
v0_there symbol inner k e h g p = v0_begun symbol inner e h g ∙ ap (λ (o : Option ℕ). then_if_some o (ending inner)) (sym p)

-- the suffix starts within the symbol
pub suffix_within : (inner : List ℕ) (k : ℕ) → Some k ≡ suffix_place inner → k ≤ length inner
suffix_within inner k e = within (accepted inner k (sym e))
  where
    within : IsPaths inner k → k ≤ length inner
    within (j, p, inl q) = let r : j ≤ length inner = (grows true 0 8 0 true (fits a_path true) p (omega arith)).1 in omega (arith, r, q.1)
    within (j, p, inr q) = (grows true 0 8 0 true (fits a_path true) q.1 ((grows true 0 8 0 true (fits a_path true) p (omega arith)).1)).1
