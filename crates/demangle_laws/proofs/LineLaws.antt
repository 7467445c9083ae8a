-- The lines of a text are the only parts of their form.
use Rattle.std.proofs.Common.{◌≡◌, ◌≢◌, ℕ, ◌<◌, inl, inr, Bool, true, false, eqb, cond, ne_eqb, eqb-true, eq-eqb, List, [], ◌∷◌, ◌++◌, All, length, refl, sym, ap, ◌∙◌, arith, append_assoc, append-nil}
use Rattle.std.proofs.lemmas.List.Elements.{All-head, All-tail, All-cons, All-nil}
use Rattle.std.specs.List.{concat}
use Rattle.rustc_demangle.specs.Lines.{lines, onto_first, IsEnded, AreLines, OnlyLines}
use Rattle.rustc_demangle.proofs.LineDivision.{lines_join}

lines_ended : (prefix rest : List ℕ) → All (λ b. b ≢ 10) prefix → lines (prefix ++ 10 ∷ rest) ≡ (prefix ++ 10 ∷ []) ∷ lines rest
unfolding lines
lines_ended [] rest h = refl
lines_ended (b ∷ bs) rest h =
    ap (λ t. cond t ((b ∷ []) ∷ lines (bs ++ 10 ∷ rest)) (onto_first b (lines (bs ++ 10 ∷ rest)))) (ne_eqb b 10 (All-head (λ x. x ≢ 10) b bs h))
    ∙ ap (onto_first b) (lines_ended bs rest (All-tail (λ x. x ≢ 10) b bs h))

lines_last : (xs : List ℕ) → 0 < length xs → All (λ b. b ≢ 10) xs → lines xs ≡ xs ∷ []
unfolding lines
lines_last [] some h = absurd (omega arith)
lines_last (b ∷ []) some h = ap (λ t. cond t ((b ∷ []) ∷ []) ((b ∷ []) ∷ [])) (ne_eqb b 10 (All-head (λ x. x ≢ 10) b [] h))
lines_last (b ∷ c ∷ cs) some h =
    ap (λ t. cond t ((b ∷ []) ∷ lines (c ∷ cs)) (onto_first b (lines (c ∷ cs)))) (ne_eqb b 10 (All-head (λ x. x ≢ 10) b (c ∷ cs) h))
    ∙ ap (onto_first b) (lines_last (c ∷ cs) (omega arith) (All-tail (λ x. x ≢ 10) b (c ∷ cs) h))

lines_of_ended : (line rest : List ℕ) → IsEnded line → lines (line ++ rest) ≡ line ∷ lines rest
lines_of_ended line rest e =
    ap (λ l. lines (l ++ rest)) e.1 ∙ ap lines (append_assoc e.0 (10 ∷ []) rest) ∙ lines_ended e.0 rest e.2 ∙ ap (λ l. l ∷ lines rest) (sym e.1)

only : (parts : List (List ℕ)) → AreLines parts → parts ≡ lines (concat parts)
unfolding lines
only [] h = refl
only (line ∷ []) h = elim h [
  | inl e ↦ sym (lines_of_ended line [] e)
  | inr last ↦ sym (ap lines (append-nil line) ∙ lines_last line last.0 last.1)
]
only (line ∷ next ∷ rest) h = ap (λ l. line ∷ l) (only (next ∷ rest) h.1) ∙ sym (lines_of_ended line (concat (next ∷ rest)) h.0)

ended_more : (b : ℕ) (line : List ℕ) → b ≢ 10 → IsEnded line → IsEnded (b ∷ line)
ended_more b line ne e = (b ∷ e.0, ap (λ l. b ∷ l) e.1, All-cons (λ x. x ≢ 10) b e.0 ne e.2)

onto : (b : ℕ) (ls : List (List ℕ)) → b ≢ 10 → AreLines ls → AreLines (onto_first b ls)
onto b [] ne h = inr (omega arith, All-cons (λ x. x ≢ 10) b [] ne (All-nil (λ x. x ≢ 10)))
onto b (line ∷ []) ne h = elim h [
  | inl e ↦ inl (ended_more b line ne e)
  | inr last ↦ inr (omega arith, All-cons (λ x. x ≢ 10) b line ne last.1)
]
onto b (line ∷ next ∷ rest) ne h = (ended_more b line ne h.0, h.1)

after : (ls : List (List ℕ)) (line : List ℕ) → IsEnded line → AreLines ls → AreLines (line ∷ ls)
after [] line e h = inl e
after (next ∷ rest) line e h = (e, h)

are : (xs : List ℕ) → AreLines (lines xs)
unfolding lines
are [] = tt
are (b ∷ bs) = at (eqb b 10) refl (are bs)
  where
    at : (t : Bool) → eqb b 10 ≡ t → AreLines (lines bs) → AreLines (cond t ((b ∷ []) ∷ lines bs) (onto_first b (lines bs)))
    at true e h = after (lines bs) (b ∷ []) ([], ap (λ x. x ∷ []) (eqb-true b 10 e), All-nil (λ x. x ≢ 10)) h
    at false e h = onto b (lines bs) (λ same. grind (arith, e, eq-eqb b 10 same)) h

pub only_lines : (text : List ℕ) → OnlyLines text
only_lines text = record {
  are = are text;
  whole = lines_join text;
  only = λ parts h e. only parts h ∙ ap lines e;
}
