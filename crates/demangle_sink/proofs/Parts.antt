-- A part of a symbol, byte by byte from its start.
use Rattle.std.proofs.Common.{◌≡◌, ℕ, suc, ◌+◌, ◌-◌, ◌<◌, ◌≤◌, List, [], ◌∷◌, length, take, drop, get_or, ap, ◌∙◌, arith}
use Rattle.std.specs.List.{slice_range}
use Rattle.std.proofs.lemmas.List.{at_drop_more}
use Rattle.std.proofs.lemmas.List.Edits.{between_none}

-- the first byte, and the rest
pub part_first : (s : List ℕ) (i to : ℕ) → i < to → to ≤ length s → slice_range s i to ≡ get_or s i 0 ∷ slice_range s (i + 1) to
part_first s i to lt inside =
    let n : to - i ≡ suc (to - (i + 1)) = omega arith in
    ap (λ m. take m (drop i s)) n ∙ at_drop_more (λ t. take (suc (to - (i + 1))) t) s i 0 (omega arith)

-- an empty part
pub part_past : (s : List ℕ) (i to : ℕ) → to ≤ i → slice_range s i to ≡ []
part_past s i to past = let n : to - i ≡ 0 = omega arith in ap (λ m. take m (drop i s)) n

pub part_none : (s : List ℕ) (to : ℕ) → slice_range s to to ≡ []
part_none s to = between_none s to
