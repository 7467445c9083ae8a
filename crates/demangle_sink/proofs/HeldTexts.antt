-- The text that a slice holds, after more of it was written: statements with their proofs.
use Rattle.std.specs.Prelude.{IfSome}
use Rattle.std.specs.List.{copy_within, slice_range}
use Rattle.std.proofs.Common.{◌≡◌, ℕ, zero, suc, ◌+◌, ◌-◌, ◌≤◌, true, List, ◌++◌, length, take, drop, Some, sym, ap, subst, ◌∙◌, arith, inl, inr, leb}
use Rattle.std.below.core.specs.declared.int.usize.TheConstants.{MAX}
use Rattle.std.proofs.Math.Seq.{take-append-add, take-append_seam}
use Rattle.std.proofs.lemmas.List.{append_assoc, take_all, length-append, length-take, length-take-le, length-drop, take-take, drop-drop, drop-take}
use Rattle.std.proofs.lemmas.Bool.{le-leb}
use Rattle.std.proofs.lemmas.Bool.Decides.{leb_tells}
use Rattle.demangle_sink.specs.Sink.{Grows, HasLength, TakesAgain, room_after}
use Rattle.demangle_sink.specs.Slice.{overlay, overlay_from, held_text, WrittenPart}

overlay_whole : (memory text : List ℕ) → length text ≤ length memory → overlay memory text ≡ text ++ drop (length text) memory
overlay_whole memory text h = ap (λ xs. xs ++ drop (length text) memory) (take_all (length memory) text h)

length-overlay_from : (n : ℕ) (memory text : List ℕ) → length (overlay_from n memory text) ≡ length memory
length-overlay_from n memory text =
    let rest : List ℕ = drop n memory in
    omega (arith, length-append (take n memory) (overlay rest text), length-take n memory, length-drop n memory, length-append (take (length rest) text) (drop (length text) rest), length-take (length rest) text, length-drop (length text) rest)

-- a text that is held, and what is written after it
held_joined : (n : ℕ) (memory text : List ℕ) → n + length text ≤ length memory → take (n + length text) (overlay_from n memory text) ≡ take n memory ++ text
held_joined n memory text h =
    let rest : List ℕ = drop n memory in
    let kept : length (take n memory) ≡ n = length-take-le n memory (omega (arith, h)) in
    ap (λ k. take (k + length text) (take n memory ++ overlay rest text)) (sym kept)
    ∙ take-append-add (take n memory) (overlay rest text) (length text)
    ∙ ap (λ xs. take n memory ++ xs) (ap (take (length text)) (overlay_whole rest text (omega (arith, h, length-drop n memory))) ∙ take-append_seam text (drop (length text) rest))

grows : (start n m : ℕ) (a b text : List ℕ) → WrittenPart start a n text b m → Grows (held_text start n a) text (held_text start m b)
grows (suc start) n m a b text h = tt
grows zero n m a b text h =
    let none : 0 - n ≡ 0 = omega arith in
    let all : n - 0 ≡ n = omega arith in
    let is : b ≡ overlay_from n a text = h.kept ∙ ap (λ k. overlay_from k a (drop (0 - n) text)) all ∙ ap (λ k. overlay_from n a (drop k text)) none in
    elim (leb_tells m (length b)) [
      | inl w ↦
          let fits : n + length text ≤ length a = omega (arith, w.1, h.counted, ap length is, length-overlay_from n a text) in
          let old : leb n (length a) ≡ true = le-leb n (length a) (omega (arith, fits)) in
          rw (w.0, old) (ap (λ k. take k b) h.counted ∙ ap (take (n + length text)) is ∙ held_joined n a text fits)
      | inr w ↦ rw w.0 tt
    ]

pub held_more : (start also n m : ℕ) (a b text : List ℕ) → also ≡ start → WrittenPart start a n text b m → Grows (held_text start n a) text (held_text also m b)
held_more start also n m a b text e h = subst (λ s. Grows (held_text start n a) text (held_text s m b)) (sym e) (grows start n m a b text h)

pub room_first : (n k : ℕ) → Some (MAX - (n + k)) ≡ room_after k (Some (MAX - n))
room_first n k = ap Some (omega arith)

-- a part of the text that is held
part_of_held : (n i k : ℕ) (a : List ℕ) → i + k ≤ n → slice_range (take n a) i (i + k) ≡ take k (drop i a)
part_of_held n i k a h =
    let whole : n ≡ i + (n - i) = omega (arith, h) in
    let len : i + k - i ≡ k = omega arith in
    ap (λ m. take m (drop i (take n a))) len
    ∙ ap (take k) (ap (λ m. drop i (take m a)) whole ∙ drop-take i (n - i) a)
    ∙ take-take k (n - i) (drop i a) (omega (arith, h))

-- the memory after that part was copied to its end
copied : (n i k : ℕ) (a : List ℕ) → i + k ≤ n → n + k ≤ length a → copy_within a i (i + k) n ≡ overlay_from n a (slice_range (take n a) i (i + k))
copied n i k a h l =
    let part : List ℕ = take k (drop i a) in
    let len : i + k - i ≡ k = omega arith in
    let size : length part ≡ k = length-take-le k (drop i a) (omega (arith, h, l, length-drop i a)) in
    let rest : drop k (drop n a) ≡ drop (n + k) a = drop-drop k n a in
    ap (λ m. take n a ++ take m (drop i a) ++ drop (n + m) a) len
    ∙ ap (λ z. take n a ++ part ++ z) (sym rest ∙ ap (λ m. drop m (drop n a)) (sym size))
    ∙ append_assoc (take n a) part (drop (length part) (drop n a))
    ∙ ap (λ z. take n a ++ z) (sym (overlay_whole (drop n a) part (omega (arith, size, l, length-drop n a))))
    ∙ ap (λ z. overlay_from n a z) (sym (part_of_held n i k a h))

pub takes_again : {S : Type 0} (took : S → List ℕ → S → Type 0) (old new : S) (start n place i k : ℕ) (a c : List ℕ) →
    HasLength (held_text start n a) place → IfSome (held_text start n a) (λ bytes. i + k ≤ length bytes) → k ≤ length a - place → c ≡ copy_within a i (i + k) place →
    ((bytes : List ℕ) → WrittenPart start a n bytes c (place + k) → took old bytes new) → TakesAgain took (held_text start n a) i k old new
takes_again took old new (suc start) n place i k a c h w l e f = absurd h
takes_again took old new zero n place i k a c h w l e f = elim (leb_tells n (length a)) [
  | inl t ↦
      let size : length (take n a) ≡ n = length-take-le n a t.1 in
      let at : length (take n a) ≡ place = rw t.0 at h in
      let inside : i + k ≤ length (take n a) = rw t.0 at w in
      let within : i + k ≤ n = omega (arith, inside, size) in
      let same : place ≡ n = omega (arith, at, size) in
      let part : List ℕ = slice_range (take n a) i (i + k) in
      let bytes : length part ≡ k = ap length (part_of_held n i k a within) ∙ length-take-le k (drop i a) (omega (arith, within, t.1, length-drop i a)) in
      let none : 0 - n ≡ 0 = omega arith in
      let all : n - 0 ≡ n = omega arith in
      rw t.0 (f part (record {
        counted = omega (arith, same, bytes);
        kept = e ∙ ap (λ m. copy_within a i (i + k) m) same ∙ copied n i k a within (omega (arith, l, same, t.1))
            ∙ ap (λ m. overlay_from m a part) (sym all) ∙ ap (λ m. overlay_from (n - 0) a (drop m part)) (sym none);
      }))
  | inr t ↦ absurd (rw t.0 at h)
]
