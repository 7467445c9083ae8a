-- Where runs start, and what they have.
use Rattle.std.proofs.Common.{◌≡◌, ℕ, zero, suc, ◌+◌, ◌-◌, ◌<◌, ◌≤◌, inl, inr, ◌&&◌, ◌||◌, Bool, true, false, eqb, eqb-true, cond, List, [], ◌∷◌, ◌++◌, length, take, drop, get_or, refl, sym, ap, subst, ◌∙◌, arith, length-drop, codes, nat_eq}
use Rattle.std.specs.List.{prefix_len, take_while, list_all, starts_with}
use Rattle.std.specs.Cmp.Lexicographic.{pointwise}
use Rattle.std.specs.Str.{IsUtf8}
use Rattle.std.proofs.lemmas.Str.{IsUtf8-from_ascii}
use Rattle.std.proofs.lemmas.List.{get_or_past, drop-drop}
use Rattle.std.proofs.lemmas.List.Sums.{take_while-cons}
use Rattle.std.proofs.lemmas.Bool.{true≢false}
use Rattle.demangle_value.specs.Filtered.{is_run_byte, starts_run, StartsOutsideRun}
use Rattle.demangle_value.proofs.Searches.{no_mark}
use Rattle.demangle_value.proofs.RunLemmas.{run_ascii, begins_with}

-- a text that starts a run does so whatever follows
pub begins_more : (s t : List ℕ) → starts_run s ≡ true → starts_run (s ++ t) ≡ true
begins_more s t some = elim ((begins_with s some).1) [
  | inl e ↦ ap (λ l. starts_run (l ++ t)) e
  | inr e ↦ ap (λ l. starts_run (l ++ t)) e
]

-- two bytes that start no run, and are not `_Z`
two : (c d : ℕ) (more : List ℕ) → starts_run (c ∷ d ∷ []) ≡ false → ((c ∷ d ∷ []) ≡ codes "_Z" → ⊥) → starts_run (c ∷ d ∷ more) ≡ false
two c d more none not = at (eqb 95 c) refl (eqb 90 d) refl (eqb 82 d) none
  where
    at : (x : Bool) → eqb 95 c ≡ x → (z : Bool) → eqb 90 d ≡ z → (r : Bool) → ((x && (z && false)) || (x && (r && true))) ≡ false
        → ((x && (z && starts_with nat_eq more (codes "N"))) || (x && (r && true))) ≡ false
    at false e z ez r h = refl
    at true e true ez r h = absurd (not (ap (λ k. k ∷ d ∷ []) (sym (eqb-true 95 c e)) ∙ ap (λ k. 95 ∷ k ∷ []) (sym (eqb-true 90 d ez))))
    at true e false ez true h = absurd (true≢false h)
    at true e false ez false h = refl

-- a text that starts no run, and is no prefix of such a start, starts none whatever follows
pub begins_never : (s more : List ℕ) → starts_run s ≡ false → (s ≡ [] → ⊥) → (s ≡ codes "_" → ⊥) → (s ≡ codes "_Z" → ⊥) → starts_run (s ++ more) ≡ false
begins_never [] more none a b d = absurd (a refl)
begins_never (c ∷ []) more none a b d = no_mark c more (λ e. b (ap (λ k. k ∷ []) (eqb-true c 95 e)))
begins_never (c ∷ x ∷ []) more none a b d = two c x more none d
begins_never (c ∷ x ∷ y ∷ s) more none a b d = none

-- the run bytes at its start start a run
pub begins_prefix : (s : List ℕ) → starts_run s ≡ true → starts_run (take_while is_run_byte s) ≡ true
begins_prefix s some = let w = begins_with s some in elim (w.1) [
  | inl e ↦ subst (λ l. starts_run (take_while is_run_byte l) ≡ true) (sym e) (zn w.0)
  | inr e ↦ subst (λ l. starts_run (take_while is_run_byte l) ≡ true) (sym e) (r w.0)
]
  where
    zn : (t : List ℕ) → starts_run (take_while is_run_byte (95 ∷ 90 ∷ 78 ∷ t)) ≡ true
    zn t = ap starts_run (take_while-cons is_run_byte 95 (90 ∷ 78 ∷ t) ∙ ap (λ l. 95 ∷ l) (take_while-cons is_run_byte 90 (78 ∷ t) ∙ ap (λ l. 90 ∷ l) (take_while-cons is_run_byte 78 t)))

    r : (t : List ℕ) → starts_run (take_while is_run_byte (95 ∷ 82 ∷ t)) ≡ true
    r t = ap starts_run (take_while-cons is_run_byte 95 (82 ∷ t) ∙ ap (λ l. 95 ∷ l) (take_while-cons is_run_byte 82 t))

pub and_left : (a b : Bool) → (a && b) ≡ true → a ≡ true
and_left true b h = refl
and_left false b h = h

pub and_right : (a b : Bool) → (a && b) ≡ true → b ≡ true
and_right true b h = h
and_right false b h = absurd (true≢false (sym h))

-- a text has only run bytes if its longest prefix of run bytes is all of it
pub all_of_prefix : (s : List ℕ) → prefix_len is_run_byte s ≡ length s → list_all is_run_byte s ≡ true
all_of_prefix [] e = refl
all_of_prefix (c ∷ s) e = at (all_of_prefix s) (is_run_byte c) e
  where
    at : (prefix_len is_run_byte s ≡ length s → list_all is_run_byte s ≡ true) → (b : Bool) → cond b (1 + prefix_len is_run_byte s) 0 ≡ suc (length s) → (b && list_all is_run_byte s) ≡ true
    at ih true e = ih (omega (arith, e))
    at ih false e = absurd (omega (arith, e))

-- the longest prefix of run bytes
pub all_prefix : (s : List ℕ) → list_all is_run_byte (take (prefix_len is_run_byte s) s) ≡ true
all_prefix [] = refl
all_prefix (c ∷ s) = at (all_prefix s) (is_run_byte c) refl
  where
    at : list_all is_run_byte (take (prefix_len is_run_byte s) s) ≡ true → (b : Bool) → is_run_byte c ≡ b → list_all is_run_byte (take (cond b (1 + prefix_len is_run_byte s) 0) (c ∷ s)) ≡ true
    at ih true e =
        let one : 1 + prefix_len is_run_byte s ≡ suc (prefix_len is_run_byte s) = omega arith in
        ap (λ n. list_all is_run_byte (take n (c ∷ s))) one ∙ ap (λ b. b && list_all is_run_byte (take (prefix_len is_run_byte s) s)) e ∙ ih
    at ih false e = refl

-- the bytes that are split off are run bytes
pub all_cut : (found bytes run : List ℕ) (n : ℕ) → bytes ≡ found → n ≡ prefix_len is_run_byte bytes → run ≡ take n found → list_all is_run_byte run ≡ true
all_cut found bytes run n same len prefix = ap (list_all is_run_byte) (prefix ∙ ap (λ k. take k found) (len ∙ ap (prefix_len is_run_byte) same)) ∙ all_prefix found

-- the longest such prefix of a text that has only run bytes
pub prefix_of_all : (s : List ℕ) → list_all is_run_byte s ≡ true → prefix_len is_run_byte s ≡ length s
prefix_of_all [] all = refl
prefix_of_all (c ∷ s) all = at (prefix_of_all s) (is_run_byte c) all
  where
    at : (list_all is_run_byte s ≡ true → prefix_len is_run_byte s ≡ length s) → (b : Bool) → (b && list_all is_run_byte s) ≡ true → cond b (1 + prefix_len is_run_byte s) 0 ≡ suc (length s)
    at ih true h = omega (arith, ih h)
    at ih false h = absurd (true≢false (sym h))

-- the byte after it
pub after_prefix : (s more : List ℕ) → prefix_len is_run_byte s < length s → StartsOutsideRun (drop (prefix_len is_run_byte s) s ++ more)
after_prefix [] more lt = absurd (omega (arith, lt))
after_prefix (c ∷ s) more lt = at (after_prefix s more) (is_run_byte c) refl lt
  where
    at : (prefix_len is_run_byte s < length s → StartsOutsideRun (drop (prefix_len is_run_byte s) s ++ more)) → (b : Bool) → is_run_byte c ≡ b → cond b (1 + prefix_len is_run_byte s) 0 < suc (length s) → StartsOutsideRun (drop (cond b (1 + prefix_len is_run_byte s) 0) (c ∷ s) ++ more)
    at ih true e lt =
        let one : suc (prefix_len is_run_byte s) ≡ 1 + prefix_len is_run_byte s = omega arith in
        subst (λ n. StartsOutsideRun (drop n (c ∷ s) ++ more)) one (ih (omega (arith, lt)))
    at ih false e lt = e

-- the byte after the longest prefix of run bytes
pub run_stops : (s : List ℕ) → StartsOutsideRun (drop (prefix_len is_run_byte s) s)
run_stops [] = tt
run_stops (c ∷ s) = at (run_stops s) (is_run_byte c) refl
  where
    at : StartsOutsideRun (drop (prefix_len is_run_byte s) s) → (b : Bool) → is_run_byte c ≡ b → StartsOutsideRun (drop (cond b (1 + prefix_len is_run_byte s) 0) (c ∷ s))
    at ih true e =
        let one : suc (prefix_len is_run_byte s) ≡ 1 + prefix_len is_run_byte s = omega arith in
        subst (λ n. StartsOutsideRun (drop n (c ∷ s))) one ih
    at ih false e = e

pub no_prefix : (s : List ℕ) → StartsOutsideRun s → prefix_len is_run_byte s ≡ 0
no_prefix [] h = refl
no_prefix (c ∷ s) h = ap (λ b. cond b (1 + prefix_len is_run_byte s) 0) h

-- the last bytes of a text determine whether a run may start in them
pub uncut_one : (text : List ℕ) → true ≡ pointwise nat_eq (codes "_") (drop (length text - 1) text) → ((k : ℕ) → k < length text → starts_run (drop k text) ≡ false)
    → (more : List ℕ) (k : ℕ) → k < length text - 1 → starts_run (drop k text ++ more) ≡ false
uncut_one text last none more k lt =
    let len : length (drop k text) ≡ length text - k = length-drop k text in
    begins_never (drop k text) more (none k (omega arith))
    (λ e. absurd (omega (arith, ap length e, len)))
    (λ e. absurd (omega (arith, ap length e, len)))
    (λ e. let at : length text - 1 ≡ k + 1 = omega (arith, ap length e, len) in
    true≢false (last ∙ ap (pointwise nat_eq (codes "_")) (ap (λ n. drop n text) at ∙ sym (drop-drop 1 k text) ∙ ap (drop 1) e)))

pub uncut_two : (text : List ℕ) → ((k : ℕ) → k < length text → starts_run (drop k text) ≡ false)
    → (more : List ℕ) (k : ℕ) → k < length text - 2 → starts_run (drop k text ++ more) ≡ false
uncut_two text none more k lt =
    let len : length (drop k text) ≡ length text - k = length-drop k text in
    begins_never (drop k text) more (none k (omega arith))
    (λ e. absurd (omega (arith, ap length e, len)))
    (λ e. absurd (omega (arith, ap length e, len)))
    (λ e. absurd (omega (arith, ap length e, len)))

pub uncut_none : (text : List ℕ) → false ≡ pointwise nat_eq (codes "_") (drop (length text - 1) text) → false ≡ pointwise nat_eq (codes "_Z") (drop (length text - 2) text)
    → ((k : ℕ) → k < length text → starts_run (drop k text) ≡ false)
    → (more : List ℕ) (k : ℕ) → k < length text - 0 → starts_run (drop k text ++ more) ≡ false
uncut_none text last both none more k lt =
    let len : length (drop k text) ≡ length text - k = length-drop k text in
    begins_never (drop k text) more (none k (omega arith))
    (λ e. absurd (omega (arith, ap length e, len)))
    (λ e. let at : k ≡ length text - 1 = omega (arith, ap length e, len) in
    true≢false (ap (pointwise nat_eq (codes "_")) (sym e ∙ ap (λ n. drop n text) at) ∙ sym last))
    (λ e. let at : k ≡ length text - 2 = omega (arith, ap length e, len) in
    true≢false (ap (pointwise nat_eq (codes "_Z")) (sym e ∙ ap (λ n. drop n text) at) ∙ sym both))

-- no run starts before the first one that was found, whatever follows
pub far : (available : List ℕ) (start : ℕ) → starts_run (drop start available) ≡ true → ((k : ℕ) → k < start → starts_run (drop k available) ≡ false)
    → (more : List ℕ) (k : ℕ) → k < start → starts_run (drop k available ++ more) ≡ false
far available start some none more k lt =
    let two : 2 ≤ length (drop start available) = elim ((begins_with (drop start available) some).1) [ inl e ↦ omega (arith, ap length e) | inr e ↦ omega (arith, ap length e) ] in
    let here : length (drop start available) ≡ length available - start = length-drop start available in
    let len : length (drop k available) ≡ length available - k = length-drop k available in
    begins_never (drop k available) more (none k lt)
    (λ e. absurd (omega (arith, ap length e, len, here, two)))
    (λ e. absurd (omega (arith, ap length e, len, here, two)))
    (λ e. absurd (omega (arith, ap length e, len, here, two)))

-- a run is ASCII
pub all_ascii : (s : List ℕ) → list_all is_run_byte s ≡ true → (i : ℕ) → get_or s i 0 < 128
all_ascii [] all i = let none : List ℕ = [] in let e : get_or none i 0 ≡ 0 = get_or_past none i 0 (omega arith) in omega (arith, e)
all_ascii (c ∷ s) all zero = run_ascii c (and_left (is_run_byte c) (list_all is_run_byte s) all)
all_ascii (c ∷ s) all (suc i) = all_ascii s (and_right (is_run_byte c) (list_all is_run_byte s) all) i

pub run_utf8 : (run : List ℕ) → list_all is_run_byte run ≡ true → IsUtf8 run
run_utf8 run all = IsUtf8-from_ascii run (all_ascii run all)
