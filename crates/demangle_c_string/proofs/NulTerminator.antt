-- A 0 after a text in memory.
use Rattle.std.proofs.Common.{◌≡◌, ℕ, suc, ◌+◌, ◌-◌, ◌<◌, ◌≤◌, List, [], ◌∷◌, ◌++◌, length, take, drop, sym, ap, ◌∙◌, arith, inl, inr, slice_set}
use Prim.Native.Nat.{min}
use Rattle.std.proofs.lemmas.List.{append-nil, append_assoc, take_all, take-take, take_at, drop_at, drop-drop, drop_all, set_split, length-append, length-take, length-drop}
use Rattle.std.proofs.Math.Numerals.{suc-eq-add-one}
use Rattle.std.proofs.lemmas.Bool.Decides.{leb_tells}
use Rattle.rustc_demangle.specs.Slice.{overlay, overlay_from, WrittenPart}
use Rattle.demangle_c_string.specs.CString.{c_string}

-- a text that is not longer than the memory is completely in it
overlay-within : (memory text : List ℕ) → length text ≤ length memory → overlay memory text ≡ text ++ drop (length text) memory
overlay-within memory text h = ap (λ xs. xs ++ drop (length text) memory) (take_all (length memory) text h)

-- if the text is longer, the memory has a prefix of it
overlay-past : (memory text : List ℕ) → length memory ≤ length text → overlay memory text ≡ take (length memory) text
overlay-past memory text h = ap (λ xs. take (length memory) text ++ xs) (drop_all (length text) memory h) ∙ append-nil (take (length memory) text)

overlay-exact : (memory text : List ℕ) → length text ≡ length memory → overlay memory text ≡ text
overlay-exact memory text e = overlay-past memory text (omega (arith, e)) ∙ take_all (length memory) text (omega (arith, e))

pub length-overlay : (memory text : List ℕ) → length (overlay memory text) ≡ length memory
length-overlay memory text =
    omega (arith, length-append (take (length memory) text) (drop (length text) memory), length-take (length memory) text, length-drop (length text) memory)

-- a 0 after a text in memory, or at the memory's last byte, makes it a C string
pub ended : (memory text : List ℕ) (end : ℕ) → 0 < length memory → end ≡ min (length text) (length memory - 1)
    → slice_set (overlay memory text) end 0 ≡ overlay memory (c_string (length memory) text)
ended memory text end some is = elim (leb_tells (length memory) (length text)) [
  | inl h ↦
      let past : length memory ≤ length text = h.1 in
      let at : end ≡ length memory - 1 = omega (arith, is, past) in
      let len : length (take (length memory) text) ≡ length memory = omega (arith, length-take (length memory) text, past) in
      let short : length (c_string (length memory) text) ≡ length memory =
      omega (arith, length-append (take (length memory - 1) text) (0 ∷ []), length-take (length memory - 1) text, past, some) in
      ap (λ xs. slice_set xs end 0) (overlay-past memory text past)
      ∙ set_split (take (length memory) text) end 0 (omega (arith, at, len, some))
      ∙ ap (λ xs. xs ++ 0 ∷ drop (suc end) (take (length memory) text)) (take-take end (length memory) text (omega (arith, at)) ∙ ap (λ n. take n text) at)
      ∙ ap (λ xs. take (length memory - 1) text ++ 0 ∷ xs) (drop_all (suc end) (take (length memory) text) (omega (arith, at, len, some)))
      ∙ sym (overlay-exact memory (c_string (length memory) text) short)
  | inr h ↦
      let within : length text < length memory = h.1 in
      let at : length text ≡ end = omega (arith, is, within) in
      let whole : take (length memory - 1) text ≡ text = take_all (length memory - 1) text (omega (arith, within)) in
      let len : length (text ++ 0 ∷ []) ≡ length text + 1 = length-append text (0 ∷ []) in
      let as_is : c_string (length memory) text ≡ text ++ 0 ∷ [] = ap (λ xs. xs ++ 0 ∷ []) whole in
      ap (λ xs. slice_set xs end 0) (overlay-within memory text (omega (arith, within)))
      ∙ set_split (text ++ drop (length text) memory) end 0 (omega (arith, sym at, within, length-append text (drop (length text) memory), length-drop (length text) memory))
      ∙ ap (λ xs. xs ++ 0 ∷ drop (suc end) (text ++ drop (length text) memory)) (take_at text (drop (length text) memory) end at)
      ∙ ap (λ n. text ++ 0 ∷ drop n (text ++ drop (length text) memory)) (suc-eq-add-one end)
      ∙ ap (λ xs. text ++ 0 ∷ xs) (sym (drop-drop 1 end (text ++ drop (length text) memory)) ∙ ap (drop 1) (drop_at text (drop (length text) memory) end at) ∙ drop-drop 1 (length text) memory)
      ∙ sym (append_assoc text (0 ∷ []) (drop (length text + 1) memory))
      ∙ ap (λ n. (text ++ 0 ∷ []) ++ drop n memory) (sym len)
      ∙ sym (overlay-within memory (text ++ 0 ∷ []) (omega (arith, len, within)))
      ∙ ap (overlay memory) (sym as_is)
]

-- the bytes that a sink wrote which had taken nothing, for a text from a start
pub laid_part : (start : ℕ) (memory text new : List ℕ) (len : ℕ) → WrittenPart start memory 0 text new len → new ≡ overlay memory (drop start text)
laid_part start memory text new len laid =
    let prefix : 0 - start ≡ 0 = omega arith in
    let whole : start - 0 ≡ start = omega arith in
    laid.kept ∙ ap (λ n. overlay_from n memory (drop (start - 0) text)) prefix ∙ ap (λ n. overlay memory (drop n text)) whole

-- an empty memory has no room
pub overlay-empty : (memory xs ys : List ℕ) → length memory ≡ 0 → overlay memory xs ≡ overlay memory ys
overlay-empty memory xs ys e =
    overlay-past memory xs (omega (arith, e)) ∙ ap (λ n. take n xs) e ∙ sym (ap (λ n. take n ys) e) ∙ sym (overlay-past memory ys (omega (arith, e)))
