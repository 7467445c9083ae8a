-- The text that is stripped, by the first place of `.llvm.`.
use Rattle.std.proofs.Common.{◌≡◌, ℕ, zero, suc, ◌≤◌, Bool, true, false, cond, List, [], ◌∷◌, ◌++◌, length, take, drop, refl, sym, ap, ◌∙◌, arith, nat_eq}
use Rattle.std.specs.Prelude.{codes}
use Rattle.std.specs.List.{starts_with, list_all}
use Rattle.std.proofs.lemmas.List.{take-append-drop, take_at, drop_at}
use Rattle.std.proofs.lemmas.Bool.{true≢false}
use Rattle.demangle_value.specs.Stripped.{stripped, is_thin_lto, IsCut}
use Rattle.demangle_value.proofs.Stripping.{ending, begins, stripped_at, stripped_none}

length-take_le : (i : ℕ) (s : List ℕ) → length (take i s) ≤ i
length-take_le zero s = omega arith
length-take_le (suc i) [] = omega arith
length-take_le (suc i) (c ∷ s) = omega (arith, length-take_le i s)

pub stripped-cut : (text prefix end : List ℕ) → IsCut text prefix end → stripped text ≡ cond (list_all is_thin_lto end) prefix text
stripped-cut text prefix end cut =
    let at : drop (length prefix) text ≡ ending end = ap (drop (length prefix)) cut.whole ∙ drop_at prefix (ending end) (length prefix) refl in
    let before : take (length prefix) text ≡ prefix = ap (take (length prefix)) cut.whole ∙ take_at prefix (ending end) (length prefix) refl in
    stripped_at (length prefix) text end
    (λ j lt rest e. let le : length prefix ≤ length (take j text) = cut.first (take j text) rest (sym (take-append-drop j text) ∙ ap (λ z. take j text ++ z) e) in absurd (omega (arith, length-take_le j text)))
    at
    ∙ ap (λ z. cond (list_all is_thin_lto end) z text) before

tail_of : (c : ℕ) (s : List ℕ) (d : ℕ) (t : List ℕ) → c ∷ s ≡ d ∷ t → s ≡ t
tail_of c s d t e = ap (λ z. drop 1 z) e

first_here : (s : List ℕ) → starts_with nat_eq s (codes ".llvm.") ≡ true → IsCut s [] (drop 6 s)
first_here s e = record { whole = begins s e; first = λ x y h. omega arith }

first_later : (c : ℕ) (s a b : List ℕ) → starts_with nat_eq (c ∷ s) (codes ".llvm.") ≡ false → IsCut s a b → IsCut (c ∷ s) (c ∷ a) b
first_later c s a b e cut = record { whole = ap (λ z. c ∷ z) cut.whole; first = before } where
  before : (x y : List ℕ) → c ∷ s ≡ x ++ (codes ".llvm." ++ y) → length (c ∷ a) ≤ length x
  before [] y h = absurd (true≢false (sym (ap (λ z. starts_with nat_eq z (codes ".llvm.")) h) ∙ e))
  before (d ∷ x) y h = let le : length a ≤ length x = cut.first x y (tail_of c s d (x ++ (codes ".llvm." ++ y)) h) in omega arith

later : (c : ℕ) (s : List ℕ) (b : Bool) → starts_with nat_eq (c ∷ s) (codes ".llvm.") ≡ b → (b ≡ false → (prefix : List ℕ) × (end : List ℕ) × IsCut s prefix end)
    → (prefix : List ℕ) × (end : List ℕ) × IsCut (c ∷ s) prefix end
later c s true e below = ([], drop 6 (c ∷ s), first_here (c ∷ s) e)
later c s false e below = let cut = below refl in (c ∷ cut.0, cut.1, first_later c s cut.0 cut.1 e cut.2)

-- if the text has `.llvm.`, it has a first one
first_cut : (s : List ℕ) (i : ℕ) (rest : List ℕ) → drop i s ≡ ending rest → (prefix : List ℕ) × (end : List ℕ) × IsCut s prefix end
first_cut [] zero rest h = cc
first_cut [] (suc i) rest h = cc
first_cut (c ∷ s) zero rest h = ([], drop 6 (c ∷ s), first_here (c ∷ s) (ap (λ z. starts_with nat_eq z (codes ".llvm.")) h))
first_cut (c ∷ s) (suc i) rest h = later c s (starts_with nat_eq (c ∷ s) (codes ".llvm.")) refl (λ e. first_cut s i rest h)

pub stripped-whole : (text : List ℕ) → ((prefix end : List ℕ) → IsCut text prefix end → ⊥) → stripped text ≡ text
stripped-whole text none = sym (stripped_none text (λ i le rest e. let cut = first_cut text i rest e in none cut.0 cut.1 cut.2))
