-- The computed output of a line is the only text that its division into runs gives.
use Rattle.std.proofs.Common.{◌≡◌, ◌≢◌, ℕ, zero, suc, ◌+◌, ◌⊎◌, inl, inr, ◌&&◌, Bool, true, false, cond, List, [], ◌∷◌, ◌++◌, length, take, drop, get_or, refl, sym, ap, subst, ◌∙◌, arith, codes, Option, None, Some}
use Rattle.std.specs.Option.{option_map_or}
use Rattle.std.proofs.Math.Seq.{take-append_seam, drop-append_seam}
use Rattle.std.proofs.lemmas.List.{take-append-drop}
use Rattle.std.proofs.lemmas.List.Sums.{take_while-cons}
use Rattle.std.specs.List.{prefix_len, take_while, list_all, concat}
use Rattle.std.proofs.lemmas.Bool.{true≢false}
use Rattle.demangle_value.specs.Stripped.{stripped}
use Rattle.demangle_value.specs.Symbols.{IsSymbol, pieces_in, form_in, handed_in}
use Rattle.demangle_value.specs.declared.format.Format.{Format}
use Rattle.demangle_value.proofs.SymbolLemmas.{symbol-pieces, pieces-symbol}
use Rattle.demangle_value.specs.Filtered.{by_runs, is_run_byte, starts_run, HasNoStart, StartsOutsideRun, IsRun, IsReplacement, AreReplaced, IsFiltered, replacement_in, filtered_by, filtered_in}
use Rattle.demangle_value.proofs.RunStarts.{begins_prefix}
use Rattle.demangle_value.proofs.RunLemmas.{turn, filtered_other, filtered_run, filtered_all, begins_with, first_of_run, replacement_in-symbol, replacement_in-no_symbol}

pub cases : (b : Bool) → (b ≡ true) ⊎ (b ≡ false)
cases true = inl refl
cases false = inr refl

-- a text that starts a run does so if more follows it
begins_append : (s rest : List ℕ) → starts_run s ≡ true → starts_run (s ++ rest) ≡ true
begins_append s rest some = let w = begins_with s some in elim (w.1) [
  | inl e ↦ ap (λ l. starts_run (l ++ rest)) e
  | inr e ↦ ap (λ l. starts_run (l ++ rest)) e
]

pub shorter : (s rest : List ℕ) → starts_run (s ++ rest) ≡ false → starts_run s ≡ false
shorter s rest none = elim (cases (starts_run s)) [
  | inl some ↦ absurd (true≢false (sym (begins_append s rest some) ∙ none))
  | inr e ↦ e
]

pub none_in_none : HasNoStart []
none_in_none [] rest e = ap starts_run (sym e)
none_in_none (b ∷ before) rest e = cc

-- the text is empty, or starts a run
abbrev Starts : List ℕ → Type 0
Starts rest = (rest ≡ []) ⊎ (starts_run rest ≡ true)

not_inside : (b : ℕ) (t rest : List ℕ) → b ≢ 95 → rest ≡ b ∷ t → Starts rest → ⊥
not_inside b t rest ne e (inl none) = cc
not_inside b t rest ne e (inr some) = ne (ap (λ l. get_or l 0 0) (sym e) ∙ first_of_run rest some)

-- no run starts across the join of the two parts
over_seam : (c : ℕ) (p rest t : List ℕ) → Starts rest → (c ∷ p) ++ rest ≡ codes "_ZN" ++ t ⊎ (c ∷ p) ++ rest ≡ codes "_R" ++ t → starts_run (c ∷ p) ≡ true
over_seam c [] rest t starts (inl e) = absurd (not_inside 90 (78 ∷ t) rest (λ same. omega (arith, same)) (ap (drop 1) e) starts)
over_seam c [] rest t starts (inr e) = absurd (not_inside 82 t rest (λ same. omega (arith, same)) (ap (drop 1) e) starts)
over_seam c (d ∷ []) rest t starts (inl e) = absurd (not_inside 78 t rest (λ same. omega (arith, same)) (ap (drop 2) e) starts)
over_seam c (d ∷ p) rest t starts (inr e) =
    subst (λ x. starts_run (x ∷ d ∷ p) ≡ true) (sym (ap (λ l. get_or l 0 0) e)) (subst (λ x. starts_run (95 ∷ x ∷ p) ≡ true) (sym (ap (λ l. get_or l 1 0) e)) refl)
over_seam c (d ∷ f ∷ p) rest t starts (inl e) =
    subst (λ x. starts_run (x ∷ d ∷ f ∷ p) ≡ true) (sym (ap (λ l. get_or l 0 0) e))
    (subst (λ x. starts_run (95 ∷ x ∷ f ∷ p) ≡ true) (sym (ap (λ l. get_or l 1 0) e))
    (subst (λ x. starts_run (95 ∷ 90 ∷ x ∷ p) ≡ true) (sym (ap (λ l. get_or l 2 0) e)) refl))

pub no_start_append : (c : ℕ) (p rest : List ℕ) → starts_run (c ∷ p) ≡ false → Starts rest → starts_run ((c ∷ p) ++ rest) ≡ false
no_start_append c p rest none starts = elim (cases (starts_run ((c ∷ p) ++ rest))) [
  | inl some ↦ let w = begins_with ((c ∷ p) ++ rest) some in absurd (true≢false (sym (over_seam c p rest w.0 starts w.1) ∙ none))
  | inr e ↦ e
]

tail_no_start : (c : ℕ) (p : List ℕ) → HasNoStart (c ∷ p) → HasNoStart p
tail_no_start c p none = λ before rest e. none (c ∷ before) rest (ap (λ l. c ∷ l) e)

-- the plain text at the start
filtered-kept : (h : Format) (p rest : List ℕ) → HasNoStart p → Starts rest → filtered_in h (p ++ rest) ≡ p ++ filtered_in h rest
filtered-kept h [] rest none starts = refl
filtered-kept h (c ∷ p) rest none starts =
    filtered_other (replacement_in h) c (p ++ rest) (no_start_append c p rest (none [] (c ∷ p) refl) starts)
    ∙ ap (λ l. c ∷ l) (filtered-kept h p rest (tail_no_start c p none) starts)

-- the run at the start
run_len : (run following : List ℕ) → list_all is_run_byte run ≡ true → StartsOutsideRun following → prefix_len is_run_byte (run ++ following) ≡ length run
run_len [] [] all stop = refl
run_len [] (c ∷ following) all stop = ap (λ b. cond b (1 + prefix_len is_run_byte following) 0) stop
run_len (c ∷ run) following all stop = elim (cases (is_run_byte c)) [
  | inl is ↦ ap (λ b. cond b (1 + prefix_len is_run_byte (run ++ following)) 0) is
      ∙ ap (λ n. 1 + n) (run_len run following (sym (ap (λ b. b && list_all is_run_byte run) is) ∙ all) stop) ∙ omega arith
  | inr not ↦ absurd (true≢false (sym all ∙ ap (λ b. b && list_all is_run_byte run) not))
]

filtered-run : (h : Format) (run following : List ℕ) → IsRun run following → filtered_in h (run ++ following) ≡ replacement_in h run ++ filtered_in h following
filtered-run h run following is =
    let n = run_len run following is.all is.longest in
    filtered_run (replacement_in h) (run ++ following) (begins_append run following is.begins)
    ∙ ap (λ k. replacement_in h (take k (run ++ following)) ++ filtered_in h (drop k (run ++ following))) n
    ∙ ap (λ l. replacement_in h l ++ filtered_in h (drop (length run) (run ++ following))) (take-append_seam run following)
    ∙ ap (λ l. replacement_in h run ++ filtered_in h l) (drop-append_seam run following)

pub stands : (h : Format) (run text : List ℕ) → IsReplacement h run text → text ≡ replacement_in h run
stands h run text (inl s) = s.1 ∙ sym (replacement_in-symbol h run s.0)
stands h run text (inr s) = s.1 ∙ sym (replacement_in-no_symbol h run s.0)

starts_of : (h : Format) (parts : List (List ℕ × List ℕ)) (line out : List ℕ) → AreReplaced h parts line out → Starts line
starts_of h [] line out is = inl is.0
starts_of h ((run, kept) ∷ parts) line out is =
    inr (subst (λ l. starts_run l ≡ true) (sym is.3) (begins_append run (kept ++ is.0) is.5.begins))

runs_only : (h : Format) (parts : List (List ℕ × List ℕ)) (line out : List ℕ) → AreReplaced h parts line out → out ≡ filtered_in h line
unfolding by_runs
runs_only h [] line out is = is.1 ∙ sym (ap (filtered_in h) is.0)
runs_only h ((run, kept) ∷ parts) line out is =
    let rest_is : is.2 ≡ filtered_in h is.0 = runs_only h parts is.0 is.2 is.8 in
    let following : filtered_in h (kept ++ is.0) ≡ kept ++ filtered_in h is.0 = filtered-kept h kept is.0 is.7 (starts_of h parts is.0 is.2 is.8) in
    is.4 ∙ ap (λ l. l ++ (kept ++ is.2)) (stands h run is.1 is.6) ∙ ap (λ l. replacement_in h run ++ (kept ++ l)) rest_is
    ∙ ap (λ l. replacement_in h run ++ l) (sym following) ∙ sym (filtered-run h run (kept ++ is.0) is.5) ∙ sym (ap (filtered_in h) is.3)

pub filtered_only : (h : Format) (line out : List ℕ) → IsFiltered h line out → out ≡ filtered_in h line
filtered_only h line out is =
    is.output ∙ ap (λ l. is.kept ++ l) (runs_only h is.parts is.rest is.rest_out is.runs)
    ∙ sym (filtered-kept h is.kept is.rest is.no_start (starts_of h is.parts is.rest is.rest_out is.runs)) ∙ sym (ap (filtered_in h) is.whole)

-- the longest run at the start
pub run_all : (s : List ℕ) → list_all is_run_byte (take_while is_run_byte s) ≡ true
run_all [] = refl
run_all (c ∷ s) = elim (cases (is_run_byte c)) [
  | inl is ↦ ap (list_all is_run_byte) (take_while-cons is_run_byte c s ∙ ap (λ b. cond b (c ∷ take_while is_run_byte s) []) is)
      ∙ ap (λ b. b && list_all is_run_byte (take_while is_run_byte s)) is ∙ run_all s
  | inr not ↦ ap (list_all is_run_byte) (take_while-cons is_run_byte c s ∙ ap (λ b. cond b (c ∷ take_while is_run_byte s) []) not)
]

run_stops : (s : List ℕ) → StartsOutsideRun (drop (prefix_len is_run_byte s) s)
run_stops [] = tt
run_stops (c ∷ s) = elim (cases (is_run_byte c)) [
  | inl is ↦
      let count : prefix_len is_run_byte (c ∷ s) ≡ suc (prefix_len is_run_byte s) = ap (λ b. cond b (1 + prefix_len is_run_byte s) 0) is ∙ omega arith in
      subst (λ n. StartsOutsideRun (drop n (c ∷ s))) (sym count) (run_stops s)
  | inr not ↦ subst (λ n. StartsOutsideRun (drop n (c ∷ s))) (sym (ap (λ b. cond b (1 + prefix_len is_run_byte s) 0) not)) not
]

no_pieces : (h : Format) (text : List ℕ) → pieces_in (form_in h text) text ≡ None → IsSymbol text → ⊥
no_pieces h text none symbol = none≢some (sym none ∙ (pieces-symbol (form_in h text) text symbol).1)
  where
    none≢some : {x : List (List ℕ) × List ℕ} → None ≡ Some x → ⊥
    none≢some e = cc

pub replaced : (h : Format) (run : List ℕ) → IsReplacement h run (replacement_in h run)
replaced h run = at (pieces_in (form_in h (stripped run)) (stripped run)) refl
  where
    at : (read : Option (List (List ℕ) × List ℕ)) → pieces_in (form_in h (stripped run)) (stripped run) ≡ read
        → (IsSymbol (stripped run) × (option_map_or (λ _. concat (handed_in (stripped run) h)) read run ≡ concat (handed_in (stripped run) h)))
        ⊎ ((IsSymbol (stripped run) → ⊥) × (option_map_or (λ _. concat (handed_in (stripped run) h)) read run ≡ run))
    at None e = inr (no_pieces h (stripped run) e, refl)
    at (Some read) e = inl (symbol-pieces (form_in h (stripped run)) (stripped run) read e, refl)

nothing : (h : Format) → IsFiltered h [] []
nothing h = record { kept = []; rest = []; rest_out = []; parts = []; whole = refl; output = refl; no_start = none_in_none; runs = (refl, refl) }

-- a character at the start, if no run starts there
keep : (h : Format) (c : ℕ) (s out : List ℕ) → starts_run (c ∷ s) ≡ false → IsFiltered h s out → IsFiltered h (c ∷ s) (c ∷ out)
keep h c s out none is = record {
  kept = c ∷ is.kept;
  rest = is.rest;
  rest_out = is.rest_out;
  parts = is.parts;
  whole = ap (λ l. c ∷ l) is.whole;
  output = ap (λ l. c ∷ l) is.output;
  no_start = more;
  runs = is.runs;
}
  where
    more : HasNoStart (c ∷ is.kept)
    more [] rest e = ap starts_run (sym e) ∙ shorter (c ∷ is.kept) is.rest (ap (λ l. starts_run (c ∷ l)) (sym is.whole) ∙ none)
    more (b ∷ before) rest e = is.no_start before rest (ap (drop 1) e)

-- a run at the start, and the text after it
pub run_at : (c : ℕ) (s : List ℕ) → starts_run (c ∷ s) ≡ true → IsRun (c ∷ take_while is_run_byte s) (drop (prefix_len is_run_byte s) s)
run_at c s some = record {
  begins = ap starts_run (sym prefix) ∙ begins_prefix (c ∷ s) some;
  all = ap (list_all is_run_byte) (sym prefix) ∙ run_all (c ∷ s);
  longest = run_stops s;
}
  where
    prefix : take_while is_run_byte (c ∷ s) ≡ c ∷ take_while is_run_byte s
    prefix = take_while-cons is_run_byte c s ∙ ap (λ b. cond b (c ∷ take_while is_run_byte s) []) (ap is_run_byte (first_of_run (c ∷ s) some))

replace : (h : Format) (c : ℕ) (s out : List ℕ) → starts_run (c ∷ s) ≡ true → IsFiltered h (drop (prefix_len is_run_byte s) s) out
    → IsFiltered h (c ∷ s) (replacement_in h (c ∷ take_while is_run_byte s) ++ out)
replace h c s out some is = record {
  kept = [];
  rest = c ∷ s;
  rest_out = replacement_in h run ++ out;
  parts = (run, is.kept) ∷ is.parts;
  whole = refl;
  output = refl;
  no_start = none_in_none;
  runs = (
    is.rest,
    replacement_in h run,
    is.rest_out,
    ap (λ l. c ∷ l) (sym (take-append-drop (prefix_len is_run_byte s) s) ∙ ap (λ l. take_while is_run_byte s ++ l) is.whole),
    ap (λ l. replacement_in h run ++ l) is.output,
    subst (IsRun run) is.whole (run_at c s some),
    replaced h run,
    is.no_start,
    is.runs,
  );
}
  where
    run : List ℕ
    run = c ∷ take_while is_run_byte s

from : (h : Format) (skip : ℕ) (s : List ℕ) → IsFiltered h (drop skip s) (filtered_by (replacement_in h) skip s)
unfolding by_runs
from h zero [] = nothing h
from h (suc skip) [] = nothing h
from h (suc skip) (c ∷ s) = from h skip s
from h zero (c ∷ s) = elim (cases (starts_run (c ∷ s))) [
  | inl some ↦ subst (IsFiltered h (c ∷ s)) (sym (ap (turn (replacement_in h) c s) some)) (replace h c s (filtered_by (replacement_in h) (prefix_len is_run_byte s) s) some (from h (prefix_len is_run_byte s) s))
  | inr none ↦ subst (IsFiltered h (c ∷ s)) (sym (ap (turn (replacement_in h) c s) none)) (keep h c s (filtered_by (replacement_in h) zero s) none (from h zero s))
]

-- the computed text is that of the division, and no other text is
pub filtered_is : (h : Format) (line out : List ℕ) → ((out ≡ filtered_in h line) → IsFiltered h line out) × (IsFiltered h line out → out ≡ filtered_in h line)
filtered_is h line out = (λ e. subst (IsFiltered h line) (sym e) (from h zero line), filtered_only h line out)

-- a text without a run is unchanged
pub passes : (h : Format) (line : List ℕ) → HasNoStart line → filtered_in h line ≡ line
passes h line none = filtered_all (replacement_in h) line (λ k lt. none (take k line) (drop k line) (sym (take-append-drop k line)))
