-- The pieces of characters.
use Rattle.std.proofs.Common.{◌≡◌, ℕ, ◌+◌, ◌<◌, List, [], ◌∷◌, ◌++◌, length, map, take, drop, get_or, sym, ap, ◌∙◌}
use Rattle.std.specs.Prelude.{encode_utf8}
use Rattle.std.proofs.lemmas.List.{take_more, map-append, take-append-drop}

-- one more character
pub pieces-take_more : (cs : List ℕ) (i c : ℕ) → i < length cs → c ≡ get_or cs i c → map encode_utf8 (take (i + 1) cs) ≡ map encode_utf8 (take i cs) ++ encode_utf8 c ∷ []
pieces-take_more cs i c h is = rw (take_more cs i c h) (map-append encode_utf8 (take i cs) (get_or cs i c ∷ []) ∙ ap (λ x. map encode_utf8 (take i cs) ++ encode_utf8 x ∷ []) (sym is))

-- the characters before and after one
pub pieces-split : (cs : List ℕ) (i c : ℕ) → i < length cs → c ≡ get_or cs i c → map encode_utf8 cs ≡ map encode_utf8 (take i cs) ++ (encode_utf8 c ∷ []) ++ map encode_utf8 (drop (i + 1) cs)
pieces-split cs i c h is =
    ap (map encode_utf8) (sym (take-append-drop (i + 1) cs)) ∙ (map-append encode_utf8 (take (i + 1) cs) (drop (i + 1) cs) ∙ ap (λ ys. ys ++ map encode_utf8 (drop (i + 1) cs)) (pieces-take_more cs i c h is))
