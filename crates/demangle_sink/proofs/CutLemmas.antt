-- Laws of pieces and of their prefix under a limit.
use Rattle.std.proofs.Common.{◌≡◌, ℕ, ◌+◌, ◌-◌, ◌≤◌, ◌<◌, List, [], ◌∷◌, ◌++◌, length, true, refl, sym, ap, ◌∙◌, arith, leb, inl, inr}
use Rattle.std.proofs.lemmas.List.{append-nil}
use Rattle.std.proofs.lemmas.Bool.{le-leb}
use Rattle.std.proofs.lemmas.Bool.Decides.{leb_tells}
use Rattle.demangle_sink.specs.Cut.{size, prefix_within}

pub size-append : (xs ys : List (List ℕ)) → size (xs ++ ys) ≡ size xs + size ys
size-append [] ys = omega arith
size-append (x ∷ xs) ys = omega (arith, size-append xs ys)

pub fitting-all : (xs : List (List ℕ)) (l : ℕ) → size xs ≤ l → prefix_within xs l ≡ xs
fitting-all [] l h = refl
fitting-all (x ∷ xs) l h =
    let fits : leb (length x) l ≡ true = le-leb _ _ (omega arith) in
    rw fits (ap (λ ys. x ∷ ys) (fitting-all xs (l - length x) (omega arith)))

pub fitting-append : (xs ys : List (List ℕ)) (l : ℕ) → size xs ≤ l → prefix_within (xs ++ ys) l ≡ xs ++ prefix_within ys (l - size xs)
fitting-append [] ys l h = ap (prefix_within ys) (omega arith)
fitting-append (x ∷ xs) ys l h =
    let fits : leb (length x) l ≡ true = le-leb _ _ (omega arith) in
    let rest : l - length x - size xs ≡ l - (length x + size xs) = omega arith in
    rw fits (ap (λ zs. x ∷ zs) (fitting-append xs ys (l - length x) (omega arith) ∙ ap (λ n. xs ++ prefix_within ys n) rest))

pub fitting-stop : (xs ys : List (List ℕ)) (l : ℕ) → l < size xs → prefix_within (xs ++ ys) l ≡ prefix_within xs l
fitting-stop [] ys l h = absurd (omega arith)
fitting-stop (x ∷ xs) ys l h = elim (leb_tells (length x) l) [
  | inl e ↦ let le : length x ≤ l = e.1 in rw e.0 (ap (λ zs. x ∷ zs) (fitting-stop xs ys (l - length x) (omega arith)))
  | inr e ↦ rw e.0 refl
]

pub fitting-within : (xs : List (List ℕ)) (l : ℕ) → size (prefix_within xs l) ≤ l
fitting-within [] l = omega arith
fitting-within (x ∷ xs) l = elim (leb_tells (length x) l) [
  | inl e ↦ let le : length x ≤ l = e.1 in rw e.0 (omega (arith, fitting-within xs (l - length x)))
  | inr e ↦ rw e.0 (omega arith)
]

-- the prefix within a limit of a list is a prefix of that of a longer list
pub fitting-more : (xs ys : List (List ℕ)) (l : ℕ) → (zs : List (List ℕ)) × (prefix_within (xs ++ ys) l ≡ prefix_within xs l ++ zs)
fitting-more xs ys l = elim (leb_tells (size xs) l) [
  | inl e ↦ (prefix_within ys (l - size xs), fitting-append xs ys l e.1 ∙ ap (λ zs. zs ++ prefix_within ys (l - size xs)) (sym (fitting-all xs l e.1)))
  | inr e ↦ ([], fitting-stop xs ys l e.1 ∙ sym (append-nil (prefix_within xs l)))
]

pub fitting-none : (s : List ℕ) (l : ℕ) → l < length s → prefix_within (s ∷ []) l ≡ []
fitting-none s l h = elim (leb_tells (length s) l) [ inl e ↦ let le : length s ≤ l = e.1 in absurd (omega arith) | inr e ↦ rw e.0 refl ]
