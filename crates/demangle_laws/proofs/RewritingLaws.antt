-- The computed output of a text is the only text that its division into runs gives.
use Rattle.std.proofs.Common.{◌≡◌, ℕ, zero, suc, ◌+◌, ◌-◌, ◌<◌, ◌⊎◌, inl, inr, ◌&&◌, ◌||◌, Bool, true, false, eqb, eqb-true, cond, List, [], ◌∷◌, ◌++◌, length, take, drop, get_or, refl, sym, ap, subst, ◌∙◌, arith, append_assoc, append-nil, length-append, length-drop, codes}
use Rattle.std.proofs.Math.Seq.{drop-cons, drop-append_seam}
use Rattle.std.proofs.lemmas.List.{take-append-drop, drop-append-le, drop_all}
use Rattle.std.proofs.lemmas.Bool.{true≢false}
use Rattle.std.specs.Prelude.{nat_eq, flat_map}
use Rattle.std.specs.List.{starts_with, prefix_len, take_while, list_all, concat}
use Rattle.std.proofs.lemmas.List.Folds.{list_all-append}
use Rattle.rustc_demangle.specs.Lines.{lines, line_feeds, AreLines}
use Rattle.rustc_demangle.specs.ByteStream.{SplitsNoCandidate}
use Rattle.demangle_value.specs.Filtered.{is_run_byte, starts_run, HasNoStart, StartsOutsideRun, IsRun, replacement_in}
use Rattle.rustc_demangle.specs.Rewritten.{before_of, before_after, starts_candidate, names_crate, stays, replacement_of, rewritten_by, rewritten_in, EndsSingle, EndsOutside, IsReplacementAfter, AreRewritten, IsRewritten}
use Rattle.demangle_value.specs.declared.format.Format.{Format}
use Rattle.rustc_demangle.specs.declared.byte_before.ByteBefore.{ByteBefore}
use Rattle.rustc_demangle.specs.declared.byte_before.ByteBefore.TheVariants.{Outside, Inside}
use Rattle.demangle_value.proofs.RunStarts.{begins_more, all_prefix, and_right}
use Rattle.rustc_demangle.proofs.CandidateLemmas.{candidate_turn, or_false, before_after-append, last_before, first_of_candidate, rewritten_nothing, single_of, single_parts, candidate_of, run_candidate, rewritten_candidate, rewritten_split, rewritten_plain, rewritten_outside, HasNoCandidate, cuts_plain, plain_of}
use Rattle.rustc_demangle.proofs.ByteStreamLemmas.{seam}
use Rattle.rustc_demangle.proofs.SliceLemmas.{rewritten_all}
use Rattle.rustc_demangle.proofs.LineDivision.{lines_join}
use Rattle.demangle_laws.proofs.LineLaws.{only_lines}
use Rattle.demangle_laws.proofs.LineFeeds.{line_feeds-append}
use Rattle.demangle_laws.proofs.LineFeedLaws.{line_feeds-run, line_feeds-replacement_in}
use Rattle.demangle_laws.proofs.FilterLaws.{cases, shorter, none_in_none, no_start_append, replaced, stands, run_at}

-- What the last byte of a text is for the text after it.

inside_is_not : Inside ≡ Outside → ⊥
inside_is_not e = cc

outside_of : (c : ℕ) → before_of c ≡ Outside → is_run_byte c ≡ false
outside_of c e = at (is_run_byte c) e
  where
    at : (r : Bool) → cond r Inside Outside ≡ Outside → r ≡ false
    at true h = absurd (inside_is_not h)
    at false h = refl

of_outside : (c : ℕ) → is_run_byte c ≡ false → before_of c ≡ Outside
of_outside c other = ap (λ r. cond r Inside Outside) other

-- a text by its last byte
at_last : (s : List ℕ) → 0 < length s → s ≡ take (length s - 1) s ++ get_or s (length s - 1) 0 ∷ []
at_last s some =
    let n = length s - 1 in
    let gone : drop (suc n) s ≡ [] = drop_all (suc n) s (omega (arith, some)) in
    sym (take-append-drop n s) ∙ ap (λ l. take n s ++ l) (drop-cons s n 0 (omega (arith, some)) ∙ ap (λ l. get_or s n 0 ∷ l) gone)

before_outside : (s : List ℕ) → EndsOutside s → before_after Outside s ≡ Outside
before_outside s (inl e) = ap (before_after Outside) e
before_outside s (inr (t, c, e, other)) = ap (before_after Outside) e ∙ before_after-append Outside t (c ∷ []) ∙ of_outside c other

outside_before : (s : List ℕ) → before_after Outside s ≡ Outside → EndsOutside s
outside_before [] e = inl refl
outside_before (x ∷ s) e =
    let some : 0 < length (x ∷ s) = omega arith in
    inr (take (length (x ∷ s) - 1) (x ∷ s), get_or (x ∷ s) (length (x ∷ s) - 1) 0, at_last (x ∷ s) some, outside_of (get_or (x ∷ s) (length (x ∷ s) - 1) 0) (sym (last_before Outside (x ∷ s) some) ∙ e))

is_out : (b : ByteBefore) → (b ≡ Outside) ⊎ (b ≡ Outside → ⊥)
is_out Outside = inl refl
is_out Inside = inr inside_is_not

is_single : (s : List ℕ) → EndsSingle Outside s ⊎ (EndsSingle Outside s → ⊥)
is_single [] = inr (λ w. omega (arith, (single_parts Outside [] w).0))
is_single (x ∷ s) = at (eqb (get_or (x ∷ s) (length (x ∷ s) - 1) 0) 95) refl (is_out (before_after Outside (take (length (x ∷ s) - 1) (x ∷ s))))
  where
    at : (t : Bool) → eqb (get_or (x ∷ s) (length (x ∷ s) - 1) 0) 95 ≡ t → (before_after Outside (take (length (x ∷ s) - 1) (x ∷ s)) ≡ Outside) ⊎ (before_after Outside (take (length (x ∷ s) - 1) (x ∷ s)) ≡ Outside → ⊥)
        → EndsSingle Outside (x ∷ s) ⊎ (EndsSingle Outside (x ∷ s) → ⊥)
    at true e (inl out) = inl (single_of Outside (x ∷ s) (omega arith) (eqb-true _ 95 e) out)
    at true e (inr not) = inr (λ w. not (single_parts Outside (x ∷ s) w).2)
    at false e o = inr (λ w. true≢false (sym (ap (λ k. eqb k 95) (single_parts Outside (x ∷ s) w).1) ∙ e))

-- One run, and the plain text before it.

-- no run starts in plain text, if one starts after it
none_before : (plain left : List ℕ) → HasNoStart plain → starts_run left ≡ true → (k : ℕ) → k < length plain → starts_run (drop k (plain ++ left)) ≡ false
none_before plain left none some k lt = ap starts_run (drop-append-le k plain left (omega (arith, lt))) ∙ at (drop k plain) refl
  where
    size : (t : List ℕ) → drop k plain ≡ t → length t ≡ length plain - k
    size t e = ap length (sym e) ∙ length-drop k plain

    at : (t : List ℕ) → drop k plain ≡ t → starts_run (t ++ left) ≡ false
    at [] e = absurd (omega (arith, lt, size [] e))
    at (c ∷ t) e = no_start_append c t left (none (take k plain) (c ∷ t) (sym (take-append-drop k plain) ∙ ap (λ l. take k plain ++ l) e)) (inr some)

-- plain text that stays, a candidate and the rest
joined : (f : List ℕ → List ℕ) (kept word rest : List ℕ) → HasNoCandidate Outside kept (word ++ rest) → starts_candidate (before_after Outside kept) word ≡ true → list_all is_run_byte word ≡ true → StartsOutsideRun rest
    → rewritten_by f zero Outside (kept ++ (word ++ rest)) ≡ kept ++ (f word ++ rewritten_by f zero Outside rest)
joined f kept word rest none some all stop =
    let before = before_after Outside kept in
    rewritten_split f Outside kept (word ++ rest) (cuts_plain Outside kept (word ++ rest) none)
    ∙ ap (λ l. l ++ rewritten_by f zero before (word ++ rest)) (rewritten_plain f Outside kept (word ++ rest) none)
    ∙ ap (λ l. kept ++ l) (rewritten_split f before word rest (λ p c e l a b. stop)
    ∙ ap (λ l. l ++ rewritten_by f zero (before_after before word) rest) (rewritten_candidate f before word some all)
    ∙ ap (λ l. f word ++ l) (rewritten_outside f (before_after before word) Outside rest stop))

run_begins : (run rest : List ℕ) → IsRun run rest → starts_run (run ++ rest) ≡ true
run_begins run rest is = begins_more run rest is.begins

-- after other text than a single `_`
joined_run : (f : List ℕ → List ℕ) (plain run rest : List ℕ) → HasNoStart plain → IsRun run rest → (EndsSingle Outside plain → ⊥)
    → rewritten_by f zero Outside (plain ++ (run ++ rest)) ≡ plain ++ (f run ++ rewritten_by f zero Outside rest)
joined_run f plain run rest none is not =
    joined f plain run rest (plain_of Outside plain (run ++ rest) (none_before plain (run ++ rest) none (run_begins run rest is)) (λ w. absurd (not w)))
    (run_candidate (before_after Outside plain) run is.begins) is.all is.longest

-- after a single `_`
joined_single : (f : List ℕ → List ℕ) (kept run rest : List ℕ) → HasNoStart (kept ++ codes "_") → IsRun run rest → before_after Outside kept ≡ Outside
    → rewritten_by f zero Outside ((kept ++ codes "_") ++ (run ++ rest)) ≡ kept ++ (f (codes "_" ++ run) ++ rewritten_by f zero Outside rest)
joined_single f kept run rest none is out =
    let word : List ℕ = codes "_" ++ run in
    let whole : (kept ++ codes "_") ++ (run ++ rest) ≡ kept ++ (word ++ rest) = append_assoc kept (codes "_") (run ++ rest) in
    let longer : length (kept ++ codes "_") ≡ length kept + 1 = length-append kept (codes "_") in
    let clear : (k : ℕ) → k < length (kept ++ codes "_") → starts_run (drop k (kept ++ (word ++ rest))) ≡ false =
    λ k lt. ap (λ l. starts_run (drop k l)) (sym whole) ∙ none_before (kept ++ codes "_") (run ++ rest) none (run_begins run rest is) k lt in
    let here : starts_run (word ++ rest) ≡ false = ap starts_run (sym (drop-append_seam kept (word ++ rest))) ∙ clear (length kept) (omega (arith, longer)) in
    let some : starts_candidate (before_after Outside kept) word ≡ true = candidate_of (before_after Outside kept) word (inr (out, run, refl, is.begins)) in
    ap (rewritten_by f zero Outside) whole
    ∙ joined f kept word rest (plain_of Outside kept (word ++ rest) (λ k lt. clear k (omega (arith, lt, longer))) (λ w. here)) some is.all is.longest

-- The relation determines the text.

-- a run with and without a `_` before it stays if it begins with `_RC`
run_stays : (run : List ℕ) → starts_run run ≡ true → stays run ≡ names_crate run
run_stays [] some = refl
run_stays (c ∷ []) some = at (eqb 95 c)
  where
    at : (a : Bool) → ((a && false) || (a && false)) ≡ (a && false)
    at true = refl
    at false = refl
run_stays (c ∷ d ∷ s) some = at (eqb 95 c) (eqb 95 d) refl
  where
    second : d ≡ 95 → ⊥
    second e = none (eqb 95 c) (ap (λ n. starts_run (c ∷ n ∷ s)) (sym e) ∙ some)
      where
        none : (a : Bool) → ((a && false) || (a && false)) ≡ true → ⊥
        none true h = true≢false (sym h)
        none false h = true≢false (sym h)

    or_nothing : (a : Bool) → (a || false) ≡ a
    or_nothing true = refl
    or_nothing false = refl

    at : (a b : Bool) → eqb 95 d ≡ b → ((a && starts_with nat_eq (d ∷ s) (codes "RC")) || (a && (b && starts_with nat_eq s (codes "RC")))) ≡ (a && starts_with nat_eq (d ∷ s) (codes "RC"))
    at true true e = absurd (second (sym (eqb-true 95 d e)))
    at true false e = or_nothing (starts_with nat_eq (d ∷ s) (codes "RC"))
    at false b e = refl

underscored_stays : (run : List ℕ) → starts_run run ≡ true → stays (codes "_" ++ run) ≡ names_crate run
underscored_stays [] some = refl
underscored_stays (c ∷ s) some =
    ap (λ n. (eqb 82 n && starts_with nat_eq s (codes "C")) || names_crate (c ∷ s)) (first_of_candidate Outside (c ∷ s) (run_candidate Outside (c ∷ s) some))

kept_of : (format : Format) (word : List ℕ) → stays word ≡ true → replacement_of format word ≡ word
kept_of format word is = ap (λ b. cond b word (replacement_in format word)) is

replaced_of : (format : Format) (word : List ℕ) → stays word ≡ false → replacement_of format word ≡ replacement_in format word
replaced_of format word not = ap (λ b. cond b word (replacement_in format word)) not

pub plain_all : (format : Format) (text : List ℕ) → HasNoStart text → rewritten_in format text ≡ text
plain_all format text none = rewritten_all (replacement_of format) text (λ k lt. none (take k text) (drop k text) (sym (take-append-drop k text)))

-- one run, replaced
one_only : (format : Format) (plain run rest kept text : List ℕ) → HasNoStart plain → IsRun run rest → IsReplacementAfter format plain run kept text
    → rewritten_in format (plain ++ (run ++ rest)) ≡ kept ++ (text ++ rewritten_in format rest)
one_only format plain run rest kept text none is (inl (named, same, alike)) = at (is_single plain)
  where
    at : EndsSingle Outside plain ⊎ (EndsSingle Outside plain → ⊥) → rewritten_in format (plain ++ (run ++ rest)) ≡ kept ++ (text ++ rewritten_in format rest)
    at (inl (s, e, out)) =
        ap (λ l. rewritten_in format (l ++ (run ++ rest))) e
        ∙ joined_single (replacement_of format) s run rest (subst HasNoStart e none) is out
        ∙ ap (λ l. s ++ (l ++ rewritten_in format rest)) (kept_of format (codes "_" ++ run) (underscored_stays run is.begins ∙ named))
        ∙ sym (append_assoc s (codes "_") (run ++ rewritten_in format rest)) ∙ ap (λ l. l ++ (run ++ rewritten_in format rest)) (sym (same ∙ e))
        ∙ ap (λ l. kept ++ (l ++ rewritten_in format rest)) (sym alike)
    at (inr not) =
        joined_run (replacement_of format) plain run rest none is not
        ∙ ap (λ l. plain ++ (l ++ rewritten_in format rest)) (kept_of format run (run_stays run is.begins ∙ named))
        ∙ ap (λ l. l ++ (run ++ rewritten_in format rest)) (sym same) ∙ ap (λ l. kept ++ (l ++ rewritten_in format rest)) (sym alike)
one_only format plain run rest kept text none is (inr (inl (other, whole, ends, by))) =
    ap (λ l. rewritten_in format (l ++ (run ++ rest))) whole
    ∙ joined_single (replacement_of format) kept run rest (subst HasNoStart whole none) is (before_outside kept ends)
    ∙ ap (λ l. kept ++ (l ++ rewritten_in format rest)) (replaced_of format (codes "_" ++ run) (underscored_stays run is.begins ∙ other) ∙ sym (stands format (codes "_" ++ run) text by))
one_only format plain run rest kept text none is (inr (inr (other, single, same, by))) =
    joined_run (replacement_of format) plain run rest none is (λ w. single w.0 w.1 (outside_before w.0 w.2))
    ∙ ap (λ l. plain ++ (l ++ rewritten_in format rest)) (replaced_of format run (run_stays run is.begins ∙ other))
    ∙ ap (λ l. l ++ (replacement_in format run ++ rewritten_in format rest)) (sym same) ∙ ap (λ l. kept ++ (l ++ rewritten_in format rest)) (sym (stands format run text by))

only : (format : Format) (parts : List (List ℕ × List ℕ)) (text out : List ℕ) → AreRewritten format parts text out → out ≡ rewritten_in format text
only format [] text out (none, same) = same ∙ sym (plain_all format text none)
only format ((plain, run) ∷ parts) text out (rest, kept, word, rest_out, whole, written, none, is, by, later) =
    written ∙ ap (λ l. kept ++ (word ++ l)) (only format parts rest rest_out later)
    ∙ sym (one_only format plain run rest kept word none is by) ∙ sym (ap (rewritten_in format) whole)

-- Each text has such a division.

abbrev IsDivided : List (List ℕ × List ℕ) → List ℕ → Type 0
IsDivided [] text = HasNoStart text
IsDivided ((plain, run) ∷ parts) text = (rest : List ℕ) × (text ≡ plain ++ (run ++ rest)) × HasNoStart plain × IsRun run rest × IsDivided parts rest

abbrev Divided : List ℕ → Type 0
Divided text = (parts : List (List ℕ × List ℕ)) × IsDivided parts text

more_plain : (c : ℕ) (plain left : List ℕ) → starts_run (c ∷ (plain ++ left)) ≡ false → HasNoStart plain → HasNoStart (c ∷ plain)
more_plain c plain left none is [] rest e = ap starts_run (sym e) ∙ shorter (c ∷ plain) left none
more_plain c plain left none is (b ∷ before) rest e = is before rest (ap (drop 1) e)

divide_byte : (c : ℕ) (s : List ℕ) → starts_run (c ∷ s) ≡ false → Divided s → Divided (c ∷ s)
divide_byte c s none ([], is) = ([], more_plain c s [] (ap (λ l. starts_run (c ∷ l)) (append-nil s) ∙ none) is)
divide_byte c s none ((plain, run) ∷ parts, (rest, whole, plain_none, is, later)) =
    ((c ∷ plain, run) ∷ parts, (rest, ap (λ l. c ∷ l) whole, more_plain c plain (run ++ rest) (ap (λ l. starts_run (c ∷ l)) (sym whole) ∙ none) plain_none, is, later))

divide_run : (c : ℕ) (s : List ℕ) → starts_run (c ∷ s) ≡ true → Divided (drop (prefix_len is_run_byte s) s) → Divided (c ∷ s)
divide_run c s some (parts, is) = (
  ([], c ∷ take_while is_run_byte s) ∷ parts,
  (drop (prefix_len is_run_byte s) s, ap (λ l. c ∷ l) (sym (take-append-drop (prefix_len is_run_byte s) s)), none_in_none, run_at c s some, is),
)

divide : (skip : ℕ) (s : List ℕ) → Divided (drop skip s)
divide zero [] = ([], none_in_none)
divide (suc skip) [] = ([], none_in_none)
divide (suc skip) (c ∷ s) = divide skip s
divide zero (c ∷ s) = elim (cases (starts_run (c ∷ s))) [
  | inl some ↦ divide_run c s some (divide (prefix_len is_run_byte s) s)
  | inr none ↦ divide_byte c s none (divide zero s)
]

-- the replacement of one run
chosen : (format : Format) (plain run : List ℕ) → (kept : List ℕ) × (text : List ℕ) × IsReplacementAfter format plain run kept text
chosen format plain run = at (cases (names_crate run)) (is_single plain)
  where
    at : (names_crate run ≡ true) ⊎ (names_crate run ≡ false) → EndsSingle Outside plain ⊎ (EndsSingle Outside plain → ⊥)
        → (kept : List ℕ) × (text : List ℕ) × IsReplacementAfter format plain run kept text
    at (inl named) o = (plain, run, inl (named, refl, refl))
    at (inr other) (inl (s, e, out)) = (s, replacement_in format (codes "_" ++ run), inr (inl (other, e, outside_before s out, replaced format (codes "_" ++ run))))
    at (inr other) (inr not) = (plain, replacement_in format run, inr (inr (other, λ s e w. not (s, e, before_outside s w), refl, replaced format run)))

built : (format : Format) (parts : List (List ℕ × List ℕ)) (text : List ℕ) → IsDivided parts text → AreRewritten format parts text (rewritten_in format text)
built format [] text none = (none, plain_all format text none)
built format ((plain, run) ∷ parts) text (rest, whole, none, is, later) =
    let w = chosen format plain run in
    (rest, w.0, w.1, rewritten_in format rest, whole, ap (rewritten_in format) whole ∙ one_only format plain run rest w.0 w.1 none is w.2, none, is, w.2, built format parts rest later)

-- the computed text is that of the division, and no other text is
pub rewritten_is : (format : Format) (text out : List ℕ) → ((out ≡ rewritten_in format text) → IsRewritten format text out) × (IsRewritten format text out → out ≡ rewritten_in format text)
rewritten_is format text out = (
  λ e. let d = divide zero text in (d.0, subst (AreRewritten format d.0 text) (sym e) (built format d.0 text d.1)),
  λ w. only format w.0 text out w.1,
)

-- Rewriting in parts.

-- text that ends with a byte that is not of a run splits no candidate
ended : (prefix rest : List ℕ) (c : ℕ) → is_run_byte c ≡ false → SplitsNoCandidate Outside (prefix ++ c ∷ []) rest
ended prefix rest c other = λ plain word e some all begins. absurd (elim (seam prefix (c ∷ []) plain word e) [
  | inl p ↦ true≢false (sym (and_right (list_all is_run_byte p.0) (is_run_byte c && true) (sym (list_all-append is_run_byte p.0 (c ∷ [])) ∙ ap (list_all is_run_byte) (sym p.2) ∙ all)) ∙ ap (λ b. b && true) other)
  | inr p ↦ first p.0 word some all p.1
])
  where
    first : (y word : List ℕ) → 0 < length word → list_all is_run_byte word ≡ true → c ∷ [] ≡ y ++ word → ⊥
    first [] word some all e = true≢false (sym all ∙ ap (list_all is_run_byte) (sym e) ∙ ap (λ b. b && true) other)
    first (d ∷ y) word some all e = omega (arith, ap length e, length-append y word, some)

pub divided_anew : (f : List ℕ → List ℕ) (prefix rest : List ℕ) (c : ℕ) → is_run_byte c ≡ false
    → rewritten_by f zero Outside (prefix ++ c ∷ rest) ≡ rewritten_by f zero Outside (prefix ++ c ∷ []) ++ rewritten_by f zero Outside rest
divided_anew f prefix rest c other =
    ap (rewritten_by f zero Outside) (sym (append_assoc prefix (c ∷ []) rest))
    ∙ rewritten_split f Outside (prefix ++ c ∷ []) rest (ended prefix rest c other)
    ∙ ap (λ (b : ByteBefore). rewritten_by f zero Outside (prefix ++ c ∷ []) ++ rewritten_by f zero b rest) (before_after-append Outside prefix (c ∷ []) ∙ of_outside c other)

-- rewritten bytes are their lines, each rewritten
pub rewritten_lines : (format : Format) (text : List ℕ) → rewritten_in format text ≡ flat_map (rewritten_in format) (lines text)
rewritten_lines format text = ap (rewritten_in format) (sym (lines_join text)) ∙ each (lines text) (only_lines text).are
  where
    f : List ℕ → List ℕ
    f = replacement_of format

    each : (parts : List (List ℕ)) → AreLines parts → rewritten_in format (concat parts) ≡ flat_map (rewritten_in format) parts
    each [] are = rewritten_nothing f Outside zero
    each (line ∷ []) are = ap (rewritten_in format) (append-nil line) ∙ sym (append-nil (rewritten_in format line))
    each (line ∷ next ∷ rest) are =
        let end = are.0 in
        ap (λ l. rewritten_in format (l ++ concat (next ∷ rest))) end.1
        ∙ ap (rewritten_in format) (append_assoc end.0 (10 ∷ []) (concat (next ∷ rest)))
        ∙ divided_anew f end.0 (concat (next ∷ rest)) 10 refl
        ∙ ap (λ l. rewritten_in format l ++ rewritten_in format (concat (next ∷ rest))) (sym end.1)
        ∙ ap (λ l. rewritten_in format line ++ l) (each (next ∷ rest) are.1)

-- they have as many line feeds as before
line_feeds-candidate : (format : Format) (run : List ℕ) → line_feeds run ≡ 0 → line_feeds (replacement_of format run) ≡ 0
line_feeds-candidate format run none = at (stays run)
  where
    at : (b : Bool) → line_feeds (cond b run (replacement_in format run)) ≡ 0
    at true = none
    at false = line_feeds-replacement_in format run none

line_feeds-from : (format : Format) (skip : ℕ) (before : ByteBefore) (s : List ℕ) → line_feeds (rewritten_by (replacement_of format) skip before s) ≡ line_feeds (drop skip s)
unfolding rewritten_by
line_feeds-from format zero before [] = refl
line_feeds-from format (suc skip) before [] = refl
line_feeds-from format (suc skip) before (c ∷ s) = line_feeds-from format skip (before_of c) s
line_feeds-from format zero before (c ∷ s) = elim (cases (starts_candidate before (c ∷ s))) [
  | inl some ↦
      let f = replacement_of format in
      let run = c ∷ take_while is_run_byte s in
      let n = prefix_len is_run_byte s in
      let clean : line_feeds run ≡ 0 = line_feeds-run run (ap (λ b. b && list_all is_run_byte (take_while is_run_byte s)) (ap is_run_byte (first_of_candidate before (c ∷ s) some)) ∙ all_prefix s) in
      let whole : line_feeds (c ∷ s) ≡ line_feeds run + line_feeds (drop n s) = ap (λ l. line_feeds (c ∷ l)) (sym (take-append-drop n s)) ∙ line_feeds-append run (drop n s) in
      ap (λ b. line_feeds (candidate_turn f before c s b)) some ∙ line_feeds-append (f run) (rewritten_by f n (before_of c) s)
      ∙ omega (arith, whole, clean, line_feeds-candidate format run clean, line_feeds-from format n (before_of c) s)
  | inr none ↦ ap (λ b. line_feeds (candidate_turn (replacement_of format) before c s b)) none ∙ omega (arith, line_feeds-from format zero (before_of c) s)
]

pub line_feeds-rewritten : (format : Format) (text : List ℕ) → line_feeds (rewritten_in format text) ≡ line_feeds text
line_feeds-rewritten format text = line_feeds-from format zero Outside text
