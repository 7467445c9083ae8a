-- The pieces of a list of texts, in order.
use Rattle.std.proofs.Common.{◌≡◌, ℕ, ◌+◌, ◌<◌, List, [], ◌∷◌, ◌++◌, length, sym, ap, ◌∙◌, get_or, take, drop}
use Rattle.std.specs.Borrow.{Bor}
use Rattle.std.proofs.lemmas.List.{take_more, take-append-drop, map-append}
use Rattle.demangle_sink.specs.Limit.{texts}

abbrev no_text : Bor (List ℕ)
no_text = record { ref_ptr = (0, 0); now = [] }

-- one more text
pub texts-take_more : (xs : List (Bor (List ℕ))) (i : ℕ) → i < length xs → texts (take (i + 1) xs) ≡ texts (take i xs) ++ (get_or xs i no_text).now ∷ []
texts-take_more xs i h = rw (take_more xs i no_text h) (map-append (λ (p : Bor (List ℕ)). p.now) (take i xs) (get_or xs i no_text ∷ []))

-- the texts before and after one
pub texts-split : (xs : List (Bor (List ℕ))) (i : ℕ) → i < length xs → texts xs ≡ texts (take i xs) ++ ((get_or xs i no_text).now ∷ []) ++ texts (drop (i + 1) xs)
texts-split xs i h =
    ap texts (sym (take-append-drop (i + 1) xs)) ∙ (map-append (λ (p : Bor (List ℕ)). p.now) (take (i + 1) xs) (drop (i + 1) xs) ∙ ap (λ ys. ys ++ texts (drop (i + 1) xs)) (texts-take_more xs i h))
