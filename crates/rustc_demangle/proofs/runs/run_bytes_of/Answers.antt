use Rattle.std.proofs.Common.{◌≡◌, ◌≢◌, ℕ, ◌/◌, ◌<◌, true, eqb, length, get_or, sym, subst, ap, ◌∙◌, arith, inl, inr}
use Rattle.std.proofs.lemmas.Bool.{cases_eq, cases_lt, ne_eqb}
use Rattle.std.proofs.lemmas.Grind.{get_or-set_at}
use Rattle.std.proofs.lemmas.List.{length-set, get_or-set_other}
use Rattle.std.proofs.lemmas.List.Sums.{prefix_len_is, prefix_len-le-length}
use Rattle.demangle_value.specs.Filtered.{is_run_byte}
use Rattle.rustc_demangle.proofs.Words.{IsLowest, no_byte, lowest_byte}
use Rattle.rustc_demangle.proofs.runs.run_bytes_of.Goals as goal
use lib.Count.{count_trailing_zeros}

pub loop-k-preserved : goal.loop-k-preserved
loop-k-preserved c =
    let l = c.loop-k in
    let distance = c.run_byte_distance.result in
    let room : l.k < length l.distances = omega (arith, l.invariant.0, c.loop-k-test.true) in
    let at = λ (j : ℕ) (same : j ≡ l.k). get_or-set_at l.distances l.k j distance 0 same room in
    let other = λ (j : ℕ) (apart : j ≢ l.k). get_or-set_other l.distances l.k j distance 0 apart in (
      length-set l.distances l.k distance ∙ l.invariant.0,
      λ j. elim (cases_eq j l.k) [
        | inl same ↦ subst (λ d. d < 256) (sym (at j same)) c.run_byte_distance.type_inv
        | inr apart ↦ subst (λ d. d < 256) (sym (other j apart)) (l.invariant.1 j)
      ],
      λ j low. elim (cases_eq j l.k) [
        | inl same ↦
            ap (λ d. eqb d 0) (at j same) ∙ c.run_byte_distance.ensures
            ∙ ap (λ i. is_run_byte (get_or c.args.group.now i 0)) (sym same)
        | inr apart ↦ ap (λ d. eqb d 0) (other j apart) ∙ l.invariant.2 j (omega (arith, low, apart))
      ],
      λ j high. other j (λ same. absurd (omega (arith, high, same))) ∙ l.invariant.3 j (omega (arith, high)),
    )

pub returns-then-word-eq0-clause-value : goal.returns-then-word-eq0-clause-value
returns-then-word-eq0-clause-value c =
    let l = c.loop-k in
    let none = no_byte 15 (λ j. get_or l.distances j 0) (sym c.from_le_bytes-word.ensures ∙ c.if-word-eq0.true) in
    let pass : (j : ℕ) → j < 16 → is_run_byte (get_or c.args.group.now j 0) ≡ true = λ j low.
    let zero = none j (omega (arith, low)) in
    sym (l.invariant.2 j (omega (arith, low, c.loop-k-test.false))) ∙ ap (λ d. eqb d 0) zero in
    sym (prefix_len_is is_run_byte c.args.group.now 16 0 (omega (arith, c.told-group)) pass
    (λ inside. absurd (omega (arith, inside, c.told-group))))

pub returns-else-word-eq0-clause-value : goal.returns-else-word-eq0-clause-value
returns-else-word-eq0-clause-value c =
    let l = c.loop-k in
    let d : ℕ → ℕ = λ j. get_or l.distances j 0 in
    let r = count_trailing_zeros 128 c.from_le_bytes-word.result / 8 in
    let lowest : IsLowest d 15 r =
    subst (λ w. IsLowest d 15 (count_trailing_zeros 128 w / 8)) (sym c.from_le_bytes-word.ensures)
    (lowest_byte 15 d l.invariant.1 (λ none. c.if-word-eq0.false (c.from_le_bytes-word.ensures ∙ none))) in
    let inside : r < 16 = elim (cases_lt r 16) [
      | inl low ↦ low
      | inr high ↦ absurd (lowest.1 (l.invariant.3 r (omega (arith, high, c.loop-k.auto))))
    ] in
    let pass : (j : ℕ) → j < r → is_run_byte (get_or c.args.group.now j 0) ≡ true = λ j low.
    sym (l.invariant.2 j (omega (arith, low, inside, c.loop-k-test.false))) ∙ ap (λ x. eqb x 0) (lowest.2 j low) in
    sym (prefix_len_is is_run_byte c.args.group.now r 0 (omega (arith, inside, c.told-group)) pass
    (λ _. sym (l.invariant.2 r (omega (arith, inside, c.loop-k-test.false))) ∙ ne_eqb _ _ lowest.1))

pub returns-else-word-eq0-clause-within : goal.returns-else-word-eq0-clause-within
returns-else-word-eq0-clause-within c =
    let value = returns-else-word-eq0-clause-value c in
    omega (arith, value, prefix_len-le-length is_run_byte c.args.group.now, c.told-group)
