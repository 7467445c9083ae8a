-- The bytes of a slice after a text was written to it, and the effect of a sink on the slice.
use Rattle.std.specs.Prelude.{◌≡◌, ℕ, ◌+◌, ◌-◌, List, [], ◌∷◌, ◌++◌, length, take, drop, nat_le, Option, None, Some, refl, if◌then◌else◌}
use Rattle.std.proofs.Common.{zero, suc, sym, ap, ◌∙◌, arith}
use Rattle.std.proofs.lemmas.List.{take-append-drop, drop_all, length-append, length-drop}

-- the memory with the text written to its start, as far as it reaches; bytes after the text are unchanged
abbrev pub overlay : List ℕ → List ℕ → List ℕ
overlay memory text = take (length memory) text ++ drop (length text) memory

-- the same from a place; bytes before the place are unchanged
abbrev pub overlay_from : ℕ → List ℕ → List ℕ → List ℕ
overlay_from place memory text = take place memory ++ overlay (drop place memory) text

-- the text of n bytes, if the memory holds all of it: it starts with the first byte, and has room for all
abbrev pub held_text : (start n : ℕ) → List ℕ → Option (List ℕ)
held_text zero n memory = if nat_le n (length memory) then Some (take n memory) else None
held_text (suc start) n memory = None

-- A sink took these bytes of a text, and `new` has the part of the text from byte `start`. Bytes before `start` were
-- left out. The others were written after the part that was there, as far as the memory reaches. The length of the text
-- rose by the number of all the bytes.
pub record WrittenPart (start : ℕ) (old : List ℕ) (old_len : ℕ) (bytes : List ℕ) (new : List ℕ) (new_len : ℕ) : Type 0 where
  pub counted : new_len ≡ old_len + length bytes
  pub kept : new ≡ overlay_from (old_len - start) old (drop (start - old_len) bytes)

abbrev nothing : List ℕ
nothing = []

-- writing no bytes changes nothing
overlay-nothing : (memory : List ℕ) → overlay memory [] ≡ memory
overlay-nothing [] = refl
overlay-nothing (b ∷ memory) = refl

-- an empty memory has no room
overlay-empty : (text : List ℕ) → overlay [] text ≡ []
overlay-empty text = drop_all (length text) [] (omega arith)

overlay_from-nothing : (place : ℕ) (memory : List ℕ) → overlay_from place memory [] ≡ memory
overlay_from-nothing place memory = ap (λ xs. take place memory ++ xs) (overlay-nothing (drop place memory)) ∙ take-append-drop place memory

overlay-joined : (memory xs ys : List ℕ) → overlay_from (length xs) (overlay memory xs) ys ≡ overlay memory (xs ++ ys)
overlay-joined memory [] ys = ap (λ m. overlay m ys) (overlay-nothing memory)
overlay-joined [] (x ∷ xs) ys = overlay-empty ys
overlay-joined (b ∷ memory) (x ∷ xs) ys = ap (λ zs. x ∷ zs) (overlay-joined memory xs ys)

-- writing two texts in sequence is writing both joined
overlay_from-joined : (place end : ℕ) (memory xs ys : List ℕ) → end ≡ place + length xs
    → overlay_from end (overlay_from place memory xs) ys ≡ overlay_from place memory (xs ++ ys)
overlay_from-joined zero end memory xs ys e = ap (λ n. overlay_from n (overlay memory xs) ys) (omega (arith, e)) ∙ overlay-joined memory xs ys
overlay_from-joined (suc place) zero memory xs ys e = absurd (omega (arith, e))
overlay_from-joined (suc place) (suc end) [] xs ys e =
    ap (λ memory. overlay_from (suc end) memory ys) (overlay-empty xs) ∙ overlay-empty ys ∙ sym (overlay-empty (xs ++ ys))
overlay_from-joined (suc place) (suc end) (b ∷ memory) xs ys e = ap (λ zs. b ∷ zs) (overlay_from-joined place end memory xs ys (omega (arith, e)))

drop-append : (n : ℕ) (xs ys : List ℕ) → drop n (xs ++ ys) ≡ drop n xs ++ drop (n - length xs) ys
drop-append zero xs ys =
    let e : 0 ≡ 0 - length xs = omega arith in
    ap (λ m. xs ++ drop m ys) e
drop-append (suc n) [] ys =
    let e : suc n ≡ suc n - 0 = omega arith in
    ap (λ m. drop m ys) e
drop-append (suc n) (x ∷ xs) ys =
    let e : n - length xs ≡ suc n - length (x ∷ xs) = omega arith in
    drop-append n xs ys ∙ ap (λ m. drop n xs ++ drop m ys) e

drop-nothing : (n : ℕ) → drop n [] ≡ nothing
drop-nothing n = drop_all n [] (omega arith)

pub WrittenPart-nothing : (start : ℕ) (memory : List ℕ) (len : ℕ) → WrittenPart start memory len [] memory len
WrittenPart-nothing start memory len = record {
  counted = omega arith;
  kept = sym (ap (overlay_from (len - start) memory) (drop-nothing (start - len)) ∙ overlay_from-nothing (len - start) memory);
}

pub WrittenPart-joined : (start also : ℕ) (a b c : List ℕ) (k l m : ℕ) (xs ys : List ℕ) → also ≡ start
    → WrittenPart start a k xs b l → WrittenPart also b l ys c m → WrittenPart start a k (xs ++ ys) c m
WrittenPart-joined start also a b c k l m xs ys e h g = record {
  counted = omega (arith, h.counted, g.counted, length-append xs ys);
  kept =
      let first : List ℕ = drop (start - k) xs in
      let second : List ℕ = drop (start - l) ys in
      let later : start - l ≡ start - k - length xs = omega (arith, h.counted) in
      g.kept
      ∙ ap (λ s. overlay_from (l - s) b (drop (s - l) ys)) e
      ∙ ap (λ memory. overlay_from (l - start) memory second) h.kept
      ∙ overlay_from-joined (k - start) (l - start) a first second (omega (arith, h.counted, length-drop (start - k) xs))
      ∙ ap (λ n. overlay_from (k - start) a (first ++ drop n ys)) later
      ∙ ap (overlay_from (k - start) a) (sym (drop-append (start - k) xs ys));
}

pub WrittenPart-first : (start : ℕ) (a : List ℕ) (k : ℕ) (xs : List ℕ) → WrittenPart start a k xs (overlay_from (k - start) a (drop (start - k) xs)) (k + length xs)
WrittenPart-first start a k xs = record { counted = refl; kept = refl }

-- a text that was written in one part could have been written in two
pub WrittenPart-second : (start : ℕ) (a : List ℕ) (k : ℕ) (xs ys c : List ℕ) (m : ℕ) → WrittenPart start a k (xs ++ ys) c m
    → WrittenPart start (overlay_from (k - start) a (drop (start - k) xs)) (k + length xs) ys c m
WrittenPart-second start a k xs ys c m h = record {
  counted = omega (arith, h.counted, length-append xs ys);
  kept =
      let l : ℕ = k + length xs in
      let first : List ℕ = drop (start - k) xs in
      let second : List ℕ = drop (start - l) ys in
      let later : start - l ≡ start - k - length xs = omega arith in
      h.kept
      ∙ ap (overlay_from (k - start) a) (drop-append (start - k) xs ys)
      ∙ ap (λ n. overlay_from (k - start) a (first ++ drop n ys)) (sym later)
      ∙ sym (overlay_from-joined (k - start) (l - start) a first second (omega (arith, length-drop (start - k) xs)));
}
