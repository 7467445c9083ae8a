-- A text is read as a legacy symbol exactly if the grammar spells it.
use Rattle.std.proofs.Common.{◌≡◌, ℕ, zero, suc, ◌<◌, inl, inr, ◌&&◌, Bool, true, false, cond, List, [], ◌∷◌, Option, Some, None, refl, sym, ap, ◌∙◌, arith, subst, option_map, IsSome}
use Rattle.std.specs.Prelude.{IsAscii, option_and_then, is_some}
use Rattle.std.specs.List.{list_all}
use Rattle.std.specs.Char.{is_ascii}
use Rattle.std.proofs.lemmas.Bool.Decides.{nat_tests}
use Rattle.std.proofs.lemmas.Bool.{false≢true}
use Rattle.demangle_legacy.specs.Legacy.{IsElements, IsLegacy, inner_of, elements_of, after_E, suffix_of, read_inner, legacy_of}
use Rattle.demangle_symbol.proofs.Options.{none_some, option_cases}
use Rattle.demangle_legacy.proofs.LegacyElements.{bool_cases, parts_spelled, spelled_parts}
use Rattle.demangle_legacy.proofs.LegacyPrefix.{inner_spelled, inner_is}

-- ASCII, as a relation and as a test

all_ascii : (s : List ℕ) → IsAscii s → list_all is_ascii s ≡ true
all_ascii [] h = refl
all_ascii (c ∷ s) h =
    let low : c < 128 = h 0 in
    let e : is_ascii c ≡ true = grind (arith, nat_tests) in
    ap (λ b. b && list_all is_ascii s) e ∙ all_ascii s (λ i. h (suc i))

and_parts : (a b : Bool) → (a && b) ≡ true → (a ≡ true) × (b ≡ true)
and_parts true b h = (refl, h)
and_parts false b h = absurd (false≢true h)

ascii_all : (s : List ℕ) → list_all is_ascii s ≡ true → IsAscii s
ascii_all [] h i = omega arith
ascii_all (c ∷ s) h zero = let p = and_parts (is_ascii c) (list_all is_ascii s) h in let e : is_ascii c ≡ true = p.0 in grind (arith, nat_tests)
ascii_all (c ∷ s) h (suc i) = ascii_all s (and_parts (is_ascii c) (list_all is_ascii s) h).1 i

not_ascii : (s : List ℕ) → (IsAscii s → ⊥) → list_all is_ascii s ≡ false
not_ascii s h = elim (bool_cases (list_all is_ascii s)) [ inl e ↦ absurd (h (ascii_all s e)) | inr e ↦ e ]

-- the result of `demangle`

pub legacy_no_prefix : (s : List ℕ) → None ≡ inner_of s → legacy_of s ≡ None
unfolding legacy_of
legacy_no_prefix s e = ap (option_and_then read_inner) (sym e)

pub legacy_inner : (s inner : List ℕ) → Some inner ≡ inner_of s → legacy_of s ≡ read_inner inner
unfolding legacy_of
legacy_inner s inner e = ap (option_and_then read_inner) (sym e)

pub legacy_not_ascii : (s inner : List ℕ) → Some inner ≡ inner_of s → (IsAscii inner → ⊥) → legacy_of s ≡ None
legacy_not_ascii s inner e h = legacy_inner s inner e ∙ ap (λ b. cond b (option_map {U = List (List ℕ) × List ℕ} (λ (suffix : List ℕ). (elements_of inner, suffix)) (suffix_of inner)) None) (not_ascii inner h)

pub legacy_ascii : (s inner : List ℕ) (o : Option (List ℕ)) → Some inner ≡ inner_of s → IsAscii inner → o ≡ suffix_of inner → legacy_of s ≡ option_map {U = List (List ℕ) × List ℕ} (λ suffix. (elements_of inner, suffix)) o
legacy_ascii s inner o e h k =
    legacy_inner s inner e
    ∙ ap (λ b. cond b (option_map {U = List (List ℕ) × List ℕ} (λ (suffix : List ℕ). (elements_of inner, suffix)) (suffix_of inner)) None) (all_ascii inner h)
    ∙ ap (option_map {U = List (List ℕ) × List ℕ} (λ (suffix : List ℕ). (elements_of inner, suffix))) (sym k)

pub some_suffix : (inner x : List ℕ) → Some x ≡ suffix_of inner → IsSome (suffix_of inner)
some_suffix inner x e = ap is_some (sym e)

-- the laws

if_true : {A : Type 0} (b : Bool) (o : Option A) (x : A) → cond b o None ≡ Some x → (b ≡ true) × (o ≡ Some x)
if_true true o x e = (refl, e)
if_true false o x e = absurd (none_some x e)

pub legacy_spelled : (s : List ℕ) (es : List (List ℕ)) (x : List ℕ) → IsLegacy s es x → legacy_of s ≡ Some (es, x)
legacy_spelled s es x h =
    let inner = h.1 in
    let p = spelled_parts es inner x h.5 in
    let e : inner_of s ≡ Some inner = ap inner_of h.2 ∙ inner_spelled h.0 inner h.3 in
    let k : suffix_of inner ≡ Some x = ap (λ (r : List (List ℕ) × List ℕ). after_E r.1) p in
    legacy_ascii s inner (Some x) (sym e) h.4 (sym k) ∙ ap (λ (r : List (List ℕ) × List ℕ). Some (r.0, x)) p

pub legacy_read : (s : List ℕ) (es : List (List ℕ)) (x : List ℕ) → legacy_of s ≡ Some (es, x) → IsLegacy s es x
legacy_read s es x e = elim (option_cases (inner_of s)) [
  | inl h ↦ absurd (none_some (es, x) (sym (legacy_no_prefix s (sym h)) ∙ e))
  | inr h ↦
      let inner : List ℕ = h.0 in
      let p = inner_is s inner h.1 in
      let r = if_true (list_all is_ascii inner) _ (es, x) (sym (legacy_inner s inner (sym h.1)) ∙ e) in
      let k = suffix_read inner es x (suffix_of inner) refl r.1 in
      (p.0, inner, p.2, p.1, ascii_all inner r.0, subst (λ ls. IsElements ls inner x) k.0 (parts_spelled inner x k.1))
] where
  suffix_read : (inner : List ℕ) (es : List (List ℕ)) (x : List ℕ) (o : Option (List ℕ)) → suffix_of inner ≡ o → option_map {U = List (List ℕ) × List ℕ} (λ (suffix : List ℕ). (elements_of inner, suffix)) o ≡ Some (es, x) → (elements_of inner ≡ es) × (suffix_of inner ≡ Some x)
  suffix_read inner es x None is e = absurd (none_some (es, x) e)
  suffix_read inner es x (Some y) is e =
      let same : ◌≡◌ {A = List (List ℕ) × List ℕ} (elements_of inner, y) (es, x) = cc in
      (ap (λ (r : List (List ℕ) × List ℕ). r.0) same, is ∙ ap (λ (r : List (List ℕ) × List ℕ). Some r.1) same)

pub legacy_once : (s : List ℕ) (es fs : List (List ℕ)) (x y : List ℕ) → IsLegacy s es x → IsLegacy s fs y → (es ≡ fs) × (x ≡ y)
legacy_once s es fs x y h k =
    let both : ◌≡◌ {A = Option (List (List ℕ) × List ℕ)} (Some (es, x)) (Some (fs, y)) = sym (legacy_spelled s es x h) ∙ legacy_spelled s fs y k in
    let same : ◌≡◌ {A = List (List ℕ) × List ℕ} (es, x) (fs, y) = cc in
    (ap (λ (r : List (List ℕ) × List ℕ). r.0) same, ap (λ (r : List (List ℕ) × List ℕ). r.1) same)
