use Rattle.std.proofs.Common.{◌≡◌, ◌≢◌, [], ◌∷◌, codes, length, map, string_bytes, ℕ, List, get_or, arith, refl, sym, ap, ◌∙◌}
use Rattle.std.proofs.lemmas.Slice.Eq.{bytes_eq-Decides}
use Rattle.filter_program.proofs.filter.filter_run.Goals as goal
use Rattle.filter_program.proofs.filter.filter_run.Goals.{in-empty, in-len1}

one_word : {S : Type 0} (f : S → List ℕ) (args : List S) (w : S) (text : List ℕ) → length args ≡ 1 → w ≡ get_or args 0 w → f w ≡ text → map f args ≡ text ∷ []
one_word f [] w text one at is = absurd (omega (arith, one))
one_word f (x ∷ []) w text one at is = ap (λ y. f y ∷ []) (sym at) ∙ ap (λ y. y ∷ []) is
one_word f (x ∷ y ∷ rest) w text one at is = absurd (omega (arith, one))

pub returns-in-Ok-clause-arg : goal.returns-in-Ok-clause-arg
returns-in-Ok-clause-arg g c one other = elim c.if-args-lt1.branch [
  | in-empty w ↦ absurd (omega (arith, w.in-empty))
  | in-len1 w ↦
      let text = (bytes_eq-Decides w.as_str.result.now (codes "--no-hash")).0 (sym w.eq.ensures ∙ w.if-eq.true) in
      absurd (other (one_word string_bytes c.args.args.now w.arg-item.result (codes "--no-hash") one w.arg-item.is (sym w.as_str.ensures.value ∙ text)))
]

pub returns-in-Err-clause-arg : goal.returns-in-Err-clause-arg
returns-in-Err-clause-arg g c one other = elim c.if-args-lt1.branch [
  | in-empty w ↦ absurd (omega (arith, w.in-empty))
  | in-len1 w ↦
      let text = (bytes_eq-Decides w.as_str.result.now (codes "--no-hash")).0 (sym w.eq.ensures ∙ w.if-eq.true) in
      absurd (other (one_word string_bytes c.args.args.now w.arg-item.result (codes "--no-hash") one w.arg-item.is (sym w.as_str.ensures.value ∙ text)))
]
