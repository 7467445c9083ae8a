-- The bytes of a chunk up to the first line feed.
use Rattle.std.proofs.Common.{◌≡◌, ◌≢◌, ℕ, ◌+◌, ◌<◌, List, [], ◌∷◌, ◌++◌, All, get_or, length, take, drop, sym, ap, ◌∙◌, append-nil}
use Rattle.std.proofs.lemmas.List.{take-append-drop, take_more, drop_more}
use Rattle.std.proofs.BufReadLemmas.{take_through-append}
use Rattle.std.specs.Io.BufRead.{take_through}

-- bytes without a line feed are all taken
pub take_through-none : (xs : List ℕ) → All (λ x. x ≢ 10) xs → take_through 10 xs ≡ xs
take_through-none xs h = ap (take_through 10) (sym (append-nil xs)) ∙ (take_through-append 10 xs [] h ∙ append-nil xs)

-- the first line feed is the last byte that is taken
pub take_through-met : (xs : List ℕ) (i : ℕ) → i < length xs → get_or xs i 0 ≡ 10 → All (λ x. x ≢ 10) (take i xs) → take (i + 1) xs ≡ take_through 10 xs
take_through-met xs i lt met h =
    let rest : drop i xs ≡ 10 ∷ drop (i + 1) xs = drop_more xs i 0 lt ∙ ap (λ b. b ∷ drop (i + 1) xs) met in
    let whole : xs ≡ take i xs ++ 10 ∷ drop (i + 1) xs = sym (take-append-drop i xs) ∙ ap (λ l. take i xs ++ l) rest in
    take_more xs i 0 lt ∙ (ap (λ b. take i xs ++ b ∷ []) met ∙ sym (ap (take_through 10) whole ∙ take_through-append 10 (take i xs) (10 ∷ drop (i + 1) xs) h))
