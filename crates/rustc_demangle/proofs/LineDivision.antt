-- The lines of a text, one at a time.
use Rattle.std.proofs.Common.{◌≡◌, ℕ, ◌<◌, Bool, true, false, eqb, cond, List, [], ◌∷◌, All, IsUtf8, length, refl, ap, subst, ◌∙◌, arith}
use Rattle.std.proofs.lemmas.List.Elements.{All-head, All-tail}
use Rattle.std.proofs.lemmas.Str.{IsUtf8-append, IsUtf8-nil}
use Rattle.std.specs.List.{concat}
use Rattle.std.specs.Io.BufRead.{take_through, drop_through}
use Rattle.rustc_demangle.specs.Lines.{lines, onto_first}

-- the first line is the result of reading up to a line feed
pub lines_step : (xs : List ℕ) → 0 < length xs → lines xs ≡ take_through 10 xs ∷ lines (drop_through 10 xs)
unfolding lines
lines_step [] h = absurd (omega arith)
lines_step (b ∷ bs) h = at bs (lines_step bs) (eqb b 10)
  where
    other : (ys : List ℕ) → (0 < length ys → lines ys ≡ take_through 10 ys ∷ lines (drop_through 10 ys))
        → onto_first b (lines ys) ≡ (b ∷ take_through 10 ys) ∷ lines (drop_through 10 ys)
    other [] ih = refl
    other (c ∷ cs) ih = ap (onto_first b) (ih (omega arith))

    at : (ys : List ℕ) → (0 < length ys → lines ys ≡ take_through 10 ys ∷ lines (drop_through 10 ys)) → (t : Bool)
        → cond t ((b ∷ []) ∷ lines ys) (onto_first b (lines ys)) ≡ cond t (b ∷ []) (b ∷ take_through 10 ys) ∷ lines (cond t ys (drop_through 10 ys))
    at ys ih true = refl
    at ys ih false = other ys ih

-- the lines join to the text
pub lines_join : (xs : List ℕ) → concat (lines xs) ≡ xs
unfolding lines
lines_join [] = refl
lines_join (b ∷ bs) = at (eqb b 10) ∙ ap (λ l. b ∷ l) (lines_join bs)
  where
    onto : (ls : List (List ℕ)) → concat (onto_first b ls) ≡ b ∷ concat ls
    onto [] = refl
    onto (l ∷ ls) = refl

    at : (t : Bool) → concat (cond t ((b ∷ []) ∷ lines bs) (onto_first b (lines bs))) ≡ b ∷ concat (lines bs)
    at true = refl
    at false = onto (lines bs)

utf8_concat : (ls : List (List ℕ)) → All IsUtf8 ls → IsUtf8 (concat ls)
utf8_concat [] h = IsUtf8-nil
utf8_concat (l ∷ ls) h = IsUtf8-append l (concat ls) (All-head IsUtf8 l ls h) (utf8_concat ls (All-tail IsUtf8 l ls h))

-- a text is UTF-8 if each line is
pub utf8_by_lines : (xs : List ℕ) → All IsUtf8 (lines xs) → IsUtf8 xs
utf8_by_lines xs h = subst IsUtf8 (lines_join xs) (utf8_concat (lines xs) h)
