-- The bytes in use after a part of them was copied to their end.
use Rattle.std.proofs.Common.{◌≡◌, ℕ, ◌+◌, ◌-◌, ◌≤◌, List, ◌++◌, length, take, drop, sym, ap, ◌∙◌, arith}
use Rattle.std.specs.List.{copy_within, slice_range}
use Rattle.std.proofs.Math.Seq.{take-append_seam}
use Rattle.std.proofs.lemmas.List.{length-append, length-take-le, length-drop, take-take, drop-take}

-- a part of the bytes that are in use
part_in_use : (n i k : ℕ) (a : List ℕ) → i + k ≤ n → slice_range (take n a) i (i + k) ≡ take (i + k - i) (drop i a)
part_in_use n i k a h =
    let whole : n ≡ i + (n - i) = omega (arith, h) in
    ap (take (i + k - i)) (ap (λ m. drop i (take m a)) whole ∙ drop-take i (n - i) a) ∙ take-take (i + k - i) (n - i) (drop i a) (omega (arith, h))

-- the bytes in use after that part was copied to their end
pub in_use : (n i k : ℕ) (a : List ℕ) → i + k ≤ n → n + k ≤ length a → take (n + k) (copy_within a i (i + k) n) ≡ take n a ++ slice_range (take n a) i (i + k)
in_use n i k a h l =
    let part : List ℕ = take (i + k - i) (drop i a) in
    let size : length (take n a ++ part) ≡ n + k =
    omega (arith, h, l, length-append (take n a) part, length-take-le n a (omega (arith, l)), length-take-le (i + k - i) (drop i a) (omega (arith, h, l, length-drop i a))) in
    ap (λ m. take m (copy_within a i (i + k) n)) (sym size)
    ∙ take-append_seam (take n a ++ part) (drop (n + (i + k - i)) a)
    ∙ ap (λ z. take n a ++ z) (sym (part_in_use n i k a h))
