-- A filtered text is its lines, each filtered.
use Rattle.std.proofs.Common.{◌≡◌, ℕ, zero, suc, ◌+◌, ◌≤◌, Bool, true, false, ◌&&◌, eqb, cond, List, [], ◌∷◌, ◌++◌, refl, sym, ap, subst, ◌∙◌, arith, nat_eq, codes, eqb-true, append_assoc, ◌||◌}
use Rattle.std.specs.List.{prefix_len, take_while, starts_with}
use Rattle.std.proofs.lemmas.List.Sums.{take_while-cons}
use Rattle.std.proofs.lemmas.Bool.{true≢false}
use Rattle.rustc_demangle.specs.Lines.{lines, onto_first}
use Rattle.demangle_value.specs.Filtered.{by_runs, is_run_byte, starts_run, replacement, filtered_by, filtered}
use Rattle.rustc_demangle.specs.LineStream.{output_of}
use Rattle.demangle_value.proofs.RunLemmas.{turn}

abbrev first : List (List ℕ) → List ℕ
first [] = []
first (l ∷ ls) = l

first-onto : (b : ℕ) (ls : List (List ℕ)) → first (onto_first b ls) ≡ b ∷ first ls
first-onto b [] = refl
first-onto b (l ∷ ls) = refl

-- the first line, by the first byte of the text
by : (b : ℕ) (bs : List ℕ) (P : List ℕ → Type 0) → (b ≡ 10 → P (b ∷ [])) → (eqb b 10 ≡ false → P (b ∷ first (lines bs))) → P (first (lines (b ∷ bs)))
unfolding lines
by b bs P fed other = at (eqb b 10) refl
  where
    at : (t : Bool) → eqb b 10 ≡ t → P (first (cond t ((b ∷ []) ∷ lines bs) (onto_first b (lines bs))))
    at true e = fed (eqb-true b 10 e)
    at false e = subst P (sym (first-onto b (lines bs))) (other e)

no_run : (b : ℕ) → b ≡ 10 → is_run_byte b ≡ false
no_run b e = ap is_run_byte e

prefix_first : (s : List ℕ) → prefix_len is_run_byte (first (lines s)) ≡ prefix_len is_run_byte s
unfolding lines
prefix_first [] = refl
prefix_first (b ∷ bs) = by b bs (λ l. prefix_len is_run_byte l ≡ prefix_len is_run_byte (b ∷ bs))
    (λ e. ap (λ t. cond t (1 + 0) 0) (no_run b e) ∙ sym (ap (λ t. cond t (1 + prefix_len is_run_byte bs) 0) (no_run b e)))
    (λ _. ap (λ n. cond (is_run_byte b) (1 + n) 0) (prefix_first bs))

take_first : (s : List ℕ) → take_while is_run_byte (first (lines s)) ≡ take_while is_run_byte s
unfolding lines
take_first [] = refl
take_first (b ∷ bs) = by b bs (λ l. take_while is_run_byte l ≡ take_while is_run_byte (b ∷ bs))
    (λ e. take_while-cons is_run_byte b [] ∙ ap (λ t. cond t (b ∷ take_while is_run_byte []) []) (no_run b e)
    ∙ sym (take_while-cons is_run_byte b bs ∙ ap (λ t. cond t (b ∷ take_while is_run_byte bs) []) (no_run b e)))
    (λ _. take_while-cons is_run_byte b (first (lines bs)) ∙ ap (λ l. cond (is_run_byte b) (b ∷ l) []) (take_first bs) ∙ sym (take_while-cons is_run_byte b bs))

abbrev NoFeed : List ℕ → Type 0
NoFeed [] = Unit {0}
NoFeed (c ∷ p) = (nat_eq c 10 ≡ false) × NoFeed p

starts_first : (p s : List ℕ) → NoFeed p → starts_with nat_eq (first (lines s)) p ≡ starts_with nat_eq s p
unfolding lines
starts_first [] s h = refl
starts_first (c ∷ p) [] h = refl
starts_first (c ∷ p) (b ∷ bs) h = by b bs (λ l. starts_with nat_eq l (c ∷ p) ≡ starts_with nat_eq (b ∷ bs) (c ∷ p))
    (λ e. let differ : nat_eq c b ≡ false = ap (nat_eq c) e ∙ h.0 in
    ap (λ t. t && starts_with nat_eq [] p) differ ∙ sym (ap (λ t. t && starts_with nat_eq bs p) differ))
    (λ _. ap (λ t. nat_eq c b && t) (starts_first p bs h.1))

begins_first : (s : List ℕ) → starts_run (first (lines s)) ≡ starts_run s
begins_first s =
    ap (λ t. t || starts_with nat_eq (first (lines s)) (codes "_R")) (starts_first (codes "_ZN") s (refl, (refl, (refl, tt))))
    ∙ ap (λ t. starts_with nat_eq s (codes "_ZN") || t) (starts_first (codes "_R") s (refl, (refl, tt)))

abbrev clear : List ℕ → ℕ
clear [] = 0
clear (b ∷ s) = cond (eqb b 10) 0 (suc (clear s))

run_le : (s : List ℕ) → prefix_len is_run_byte s ≤ clear s
run_le [] = omega arith
run_le (b ∷ s) = at (run_le s) (eqb b 10) refl (is_run_byte b) refl
  where
    at : prefix_len is_run_byte s ≤ clear s → (t : Bool) → eqb b 10 ≡ t → (r : Bool) → is_run_byte b ≡ r → cond r (1 + prefix_len is_run_byte s) 0 ≤ cond t 0 (suc (clear s))
    at ih true e true is = absurd (true≢false (sym is ∙ no_run b (eqb-true b 10 e)))
    at ih t e false is = omega arith
    at ih false e true is = omega (arith, ih)

abbrev out_from : Bool → ℕ → List (List ℕ) → List ℕ
out_from h k [] = []
out_from h k (l ∷ ls) = filtered_by (replacement h) k l ++ output_of h ls

out-zero : (h : Bool) (ls : List (List ℕ)) → out_from h zero ls ≡ output_of h ls
out-zero h [] = refl
out-zero h (l ∷ ls) = refl

skip_nothing : (h : Bool) (k : ℕ) → filtered_by (replacement h) k [] ≡ []
unfolding by_runs
skip_nothing h zero = refl
skip_nothing h (suc k) = refl

out-onto_skip : (h : Bool) (k b : ℕ) (ls : List (List ℕ)) → out_from h (suc k) (onto_first b ls) ≡ out_from h k ls
unfolding by_runs
out-onto_skip h k b [] = ap (λ l. l ++ []) (skip_nothing h k)
out-onto_skip h k b (l ∷ ls) = refl

out-onto_kept : (h : Bool) (b : ℕ) (ls : List (List ℕ)) → starts_run (b ∷ first ls) ≡ false → out_from h zero (onto_first b ls) ≡ b ∷ out_from h zero ls
unfolding by_runs
out-onto_kept h b [] none = ap (λ t. turn (replacement h) b [] t ++ []) none
out-onto_kept h b (l ∷ ls) none = ap (λ t. turn (replacement h) b l t ++ output_of h ls) none

out-onto_run : (h : Bool) (b : ℕ) (ls : List (List ℕ)) → starts_run (b ∷ first ls) ≡ true
    → out_from h zero (onto_first b ls) ≡ replacement h (b ∷ take_while is_run_byte (first ls)) ++ out_from h (prefix_len is_run_byte (first ls)) ls
unfolding by_runs
out-onto_run h b [] some = ap (λ t. turn (replacement h) b [] t ++ []) some ∙ append_assoc (replacement h (b ∷ [])) [] []
out-onto_run h b (l ∷ ls) some = ap (λ t. turn (replacement h) b l t ++ output_of h ls) some ∙ append_assoc (replacement h (b ∷ take_while is_run_byte l)) (filtered_by (replacement h) (prefix_len is_run_byte l) l) (output_of h ls)

-- the first line of a text that does not start with a line feed
first_more : (b : ℕ) (bs : List ℕ) → eqb b 10 ≡ false → first (lines (b ∷ bs)) ≡ b ∷ first (lines bs)
first_more b bs e = by b bs (λ l. l ≡ b ∷ first (lines bs)) (λ ten. absurd (true≢false (sym (ap (λ c. eqb c 10) ten) ∙ e))) (λ _. refl)

-- the rest is filtered so already
turned : (h : Bool) (b : ℕ) (bs : List ℕ) → ((k : ℕ) → k ≤ clear bs → filtered_by (replacement h) k bs ≡ out_from h k (lines bs)) → eqb b 10 ≡ false
    → (r : Bool) → starts_run (b ∷ bs) ≡ r → turn (replacement h) b bs r ≡ out_from h zero (onto_first b (lines bs))
turned h b bs ih e true is =
    let same : starts_run (b ∷ first (lines bs)) ≡ true = ap starts_run (sym (first_more b bs e)) ∙ begins_first (b ∷ bs) ∙ is in
    ap (λ l. replacement h (b ∷ l) ++ filtered_by (replacement h) (prefix_len is_run_byte bs) bs) (sym (take_first bs))
    ∙ ap (λ l. replacement h (b ∷ take_while is_run_byte (first (lines bs))) ++ l) (ih (prefix_len is_run_byte bs) (run_le bs) ∙ ap (λ n. out_from h n (lines bs)) (sym (prefix_first bs)))
    ∙ sym (out-onto_run h b (lines bs) same)
turned h b bs ih e false is =
    let same : starts_run (b ∷ first (lines bs)) ≡ false = ap starts_run (sym (first_more b bs e)) ∙ begins_first (b ∷ bs) ∙ is in
    ap (λ l. b ∷ l) (ih zero (omega arith)) ∙ sym (out-onto_kept h b (lines bs) same)

whole_from : (h : Bool) (s : List ℕ) (k : ℕ) → k ≤ clear s → filtered_by (replacement h) k s ≡ out_from h k (lines s)
unfolding lines by_runs
whole_from h [] k le = skip_nothing h k
whole_from h (b ∷ bs) k le = at (λ j l. whole_from h bs j l) (eqb b 10) refl k le
  where
    at : ((j : ℕ) → j ≤ clear bs → filtered_by (replacement h) j bs ≡ out_from h j (lines bs)) → (t : Bool) → eqb b 10 ≡ t → (k : ℕ) → k ≤ cond t 0 (suc (clear bs))
        → filtered_by (replacement h) k (b ∷ bs) ≡ out_from h k (cond t ((b ∷ []) ∷ lines bs) (onto_first b (lines bs)))
    at ih true e zero le =
        let none : (l : List ℕ) → starts_run (b ∷ l) ≡ false = λ l. ap (λ c. starts_run (c ∷ l)) (eqb-true b 10 e) in
        ap (turn (replacement h) b bs) (none bs) ∙ ap (λ l. b ∷ l) (ih zero (omega arith) ∙ out-zero h (lines bs)) ∙ sym (ap (λ t. turn (replacement h) b [] t ++ output_of h (lines bs)) (none []))
    at ih true e (suc k) le = absurd (omega (arith, le))
    at ih false e zero le = turned h b bs ih e (starts_run (b ∷ bs)) refl
    at ih false e (suc k) le = ih k (omega (arith, le)) ∙ sym (out-onto_skip h k b (lines bs))

pub whole_is_lines : (h : Bool) (text : List ℕ) → filtered h text ≡ output_of h (lines text)
whole_is_lines h text = whole_from h text zero (omega arith) ∙ out-zero h (lines text)
