-- Candidates of a text, and a text that is rewritten in parts.
use Rattle.std.proofs.Common.{◌≡◌, ℕ, zero, suc, ◌+◌, ◌-◌, ◌<◌, ◌≤◌, ◌⊎◌, inl, inr, ◌&&◌, ◌||◌, Bool, true, false, eqb, eqb-true, cond, List, [], ◌∷◌, ◌++◌, length, take, drop, get_or, refl, sym, ap, subst, ◌∙◌, arith, append_assoc, append-nil, length-append, take_all, codes}
use Rattle.std.specs.List.{prefix_len, take_while, list_all}
use Rattle.std.proofs.Math.Seq.{drop-cons, take-append_seam}
use Rattle.std.proofs.lemmas.List.{take-append-le, take-append-drop, drop_all}
use Rattle.std.proofs.lemmas.List.Sums.{prefix_len-le-length, take_while-cons}
use Rattle.std.proofs.lemmas.List.Folds.{prefix_len-append}
use Rattle.std.proofs.lemmas.Bool.{true≢false}
use Rattle.demangle_value.specs.Filtered.{is_run_byte, starts_run, StartsOutsideRun}
use Rattle.rustc_demangle.specs.Rewritten.{before_of, before_after, starts_underscored_run, starts_candidate, rewritten_by, EndsSingle}
use Rattle.rustc_demangle.specs.ByteStream.{SplitsNoCandidate}
use Rattle.rustc_demangle.specs.declared.byte_before.ByteBefore.{ByteBefore}
use Rattle.rustc_demangle.specs.declared.byte_before.ByteBefore.TheVariants.{Outside, Inside}
use Rattle.demangle_value.proofs.RunLemmas.{first_of_run, run_some}
use Rattle.demangle_value.proofs.RunStarts.{begins_more, begins_prefix, all_of_prefix, prefix_of_all, no_prefix, and_left, and_right}

or_true : (b : Bool) → (b || true) ≡ true
or_true true = refl
or_true false = refl

pub or_false : (a b : Bool) → (a || b) ≡ false → (a ≡ false) × (b ≡ false)
or_false true b h = absurd (true≢false h)
or_false false b h = (refl, h)

-- a run is a candidate
pub run_candidate : (before : ByteBefore) (s : List ℕ) → starts_run s ≡ true → starts_candidate before s ≡ true
run_candidate before s some = ap (λ b. b || starts_underscored_run before s) some

-- so is a `_` and a run
pub underscored_candidate : (t : List ℕ) → starts_run t ≡ true → starts_candidate Outside (95 ∷ t) ≡ true
underscored_candidate t some = ap (λ b. starts_run (95 ∷ t) || b) some ∙ or_true (starts_run (95 ∷ t))

-- the parts of a candidate
abbrev pub IsCandidate : ByteBefore → List ℕ → Type 0
IsCandidate before s = (starts_run s ≡ true) ⊎ ((before ≡ Outside) × (t : List ℕ) × (s ≡ 95 ∷ t) × (starts_run t ≡ true))

underscored : (before : ByteBefore) (s : List ℕ) → starts_underscored_run before s ≡ true → (before ≡ Outside) × (t : List ℕ) × (s ≡ 95 ∷ t) × (starts_run t ≡ true)
underscored Outside [] h = absurd (true≢false (sym h))
underscored Outside (c ∷ s) h = (refl, s, ap (λ k. k ∷ s) (eqb-true c 95 (and_left (eqb c 95) (starts_run s) h)), and_right (eqb c 95) (starts_run s) h)
underscored Inside s h = absurd (true≢false (sym h))

pub candidate_cases : (before : ByteBefore) (s : List ℕ) → starts_candidate before s ≡ true → IsCandidate before s
candidate_cases before s some = at (starts_run s) refl some
  where
    at : (b : Bool) → starts_run s ≡ b → (b || starts_underscored_run before s) ≡ true → IsCandidate before s
    at true e h = inl e
    at false e h = inr (underscored before s h)

pub candidate_of : (before : ByteBefore) (s : List ℕ) → IsCandidate before s → starts_candidate before s ≡ true
candidate_of before s (inl some) = run_candidate before s some
candidate_of before s (inr (same, t, e, some)) = subst (λ (b : ByteBefore). starts_candidate b s ≡ true) (sym same) (subst (λ l. starts_candidate Outside l ≡ true) (sym e) (underscored_candidate t some))

-- the first byte of a candidate
pub first_of_candidate : (before : ByteBefore) (s : List ℕ) → starts_candidate before s ≡ true → get_or s 0 0 ≡ 95
first_of_candidate before s some = elim (candidate_cases before s some) [
  | inl e ↦ first_of_run s e
  | inr w ↦ ap (λ l. get_or l 0 0) w.2
]

-- a candidate starts so whatever follows
pub candidate_more : (before : ByteBefore) (s t : List ℕ) → starts_candidate before s ≡ true → starts_candidate before (s ++ t) ≡ true
candidate_more before s t some = elim (candidate_cases before s some) [
  | inl e ↦ run_candidate before (s ++ t) (begins_more s t e)
  | inr w ↦ candidate_of before (s ++ t) (inr (w.0, w.1 ++ t, ap (λ l. l ++ t) w.2, begins_more w.1 t w.3))
]

pub candidate_less : (before : ByteBefore) (s t : List ℕ) → starts_candidate before (s ++ t) ≡ false → starts_candidate before s ≡ false
candidate_less before s t none = at (starts_candidate before s) refl
  where
    at : (b : Bool) → starts_candidate before s ≡ b → starts_candidate before s ≡ false
    at true e = absurd (true≢false (sym (candidate_more before s t e) ∙ none))
    at false e = e

-- its run bytes alone start one
pub candidate_prefix : (before : ByteBefore) (s : List ℕ) → starts_candidate before s ≡ true → starts_candidate before (take_while is_run_byte s) ≡ true
candidate_prefix before s some = elim (candidate_cases before s some) [
  | inl e ↦ run_candidate before (take_while is_run_byte s) (begins_prefix s e)
  | inr w ↦ candidate_of before (take_while is_run_byte s)
      (inr (w.0, take_while is_run_byte w.1, ap (take_while is_run_byte) w.2 ∙ take_while-cons is_run_byte 95 w.1, begins_prefix w.1 w.3))
]

-- it has at least its first byte
pub candidate_some : (before : ByteBefore) (s : List ℕ) → starts_candidate before s ≡ true → (0 < length s) × (0 < prefix_len is_run_byte s)
candidate_some before s some = elim (candidate_cases before s some) [
  | inl e ↦ run_some s e
  | inr w ↦ subst (λ l. (0 < length l) × (0 < prefix_len is_run_byte l)) (sym w.2) (omega arith, omega arith)
]

-- no candidate starts at a byte that is not a run byte
pub outside_none : (before : ByteBefore) (s : List ℕ) → StartsOutsideRun s → starts_candidate before s ≡ false
outside_none before s stop = at (starts_candidate before s) refl
  where
    inside : (s : List ℕ) → StartsOutsideRun s → 0 < prefix_len is_run_byte s → ⊥
    inside s stop some = omega (arith, some, no_prefix s stop)

    at : (b : Bool) → starts_candidate before s ≡ b → starts_candidate before s ≡ false
    at true e = absurd (inside s stop (candidate_some before s e).1)
    at false e = e

pub before_after-append : (before : ByteBefore) (a b : List ℕ) → before_after before (a ++ b) ≡ before_after (before_after before a) b
before_after-append before [] b = refl
before_after-append before (c ∷ a) b = before_after-append (before_of c) a b

-- the last byte of a text is what is before the text after it
pub last_before : (before : ByteBefore) (s : List ℕ) → 0 < length s → before_after before s ≡ before_of (get_or s (length s - 1) 0)
last_before before [] some = absurd (omega (arith, some))
last_before before (c ∷ []) some = refl
last_before before (c ∷ d ∷ s) some =
    let one : suc (length (d ∷ s) - 1) ≡ length (c ∷ d ∷ s) - 1 = omega arith in
    last_before (before_of c) (d ∷ s) (omega arith) ∙ ap (λ n. before_of (get_or (c ∷ d ∷ s) n 0)) one

-- a text that ends with a single `_`, by its last byte and what is before that
pub single_of : (before : ByteBefore) (text : List ℕ) → 0 < length text → get_or text (length text - 1) 0 ≡ 95 → before_after before (take (length text - 1) text) ≡ Outside → EndsSingle before text
single_of before text some last out =
    let n = length text - 1 in
    let gone : drop (suc n) text ≡ [] = drop_all (suc n) text (omega (arith, some)) in
    let end : drop n text ≡ codes "_" = drop-cons text n 0 (omega (arith, some)) ∙ ap (λ k. k ∷ drop (suc n) text) last ∙ ap (λ l. 95 ∷ l) gone in
    (take n text, sym (take-append-drop n text) ∙ ap (λ l. take n text ++ l) end, out)

pub single_parts : (before : ByteBefore) (text : List ℕ) → EndsSingle before text → (0 < length text) × (get_or text (length text - 1) 0 ≡ 95) × (before_after before (take (length text - 1) text) ≡ Outside)
single_parts before text (s, e, out) =
    let len : length text ≡ length s + 1 = ap length e ∙ length-append s (codes "_") in
    let n : length text - 1 ≡ length s = omega (arith, len) in (
      omega (arith, len),
      ap (λ k. get_or text k 0) n ∙ ap (λ l. get_or l (length s) 0) e ∙ at s,
      ap (λ k. before_after before (take k text)) n ∙ ap (λ l. before_after before (take (length s) l)) e ∙ ap (before_after before) (take-append_seam s (codes "_")) ∙ out,
    )
  where
    at : (s : List ℕ) → get_or (s ++ codes "_") (length s) 0 ≡ 95
    at [] = refl
    at (c ∷ s) = at s

-- a run byte is before the text after run bytes
pub inside_after : (before : ByteBefore) (s : List ℕ) → 0 < length s → list_all is_run_byte s ≡ true → before_after before s ≡ Inside
inside_after before [] some all = absurd (omega (arith, some))
inside_after before (c ∷ []) some all = ap (λ b. cond b Inside Outside) (and_left (is_run_byte c) true all)
inside_after before (c ∷ d ∷ s) some all = inside_after (before_of c) (d ∷ s) (omega arith) (and_right (is_run_byte c) (list_all is_run_byte (d ∷ s)) all)

-- Rewriting.

-- one iteration, by whether a candidate starts
abbrev pub candidate_turn : (List ℕ → List ℕ) → ByteBefore → ℕ → List ℕ → Bool → List ℕ
candidate_turn f before c s b = elim b [
  | true ↦ f (c ∷ take_while is_run_byte s) ++ rewritten_by f (prefix_len is_run_byte s) (before_of c) s
  | false ↦ c ∷ rewritten_by f zero (before_of c) s
]

-- if no candidate starts, the byte is unchanged
pub rewritten_other : (f : List ℕ → List ℕ) (before : ByteBefore) (c : ℕ) (s : List ℕ) → starts_candidate before (c ∷ s) ≡ false
    → rewritten_by f zero before (c ∷ s) ≡ c ∷ rewritten_by f zero (before_of c) s
unfolding rewritten_by
rewritten_other f before c s none = ap (candidate_turn f before c s) none

pub rewritten_nothing : (f : List ℕ → List ℕ) (before : ByteBefore) (k : ℕ) → rewritten_by f k before [] ≡ []
unfolding rewritten_by
rewritten_nothing f before k = refl

-- skipped bytes are omitted
pub rewritten_skip : (f : List ℕ → List ℕ) (before : ByteBefore) (n : ℕ) (s : List ℕ) → rewritten_by f n before s ≡ rewritten_by f zero (before_after before (take n s)) (drop n s)
unfolding rewritten_by
rewritten_skip f before zero [] = refl
rewritten_skip f before (suc n) [] = refl
rewritten_skip f before zero (c ∷ s) = refl
rewritten_skip f before (suc n) (c ∷ s) = rewritten_skip f (before_of c) n s

-- a candidate that is the whole text is replaced
pub rewritten_candidate : (f : List ℕ → List ℕ) (before : ByteBefore) (run : List ℕ) → starts_candidate before run ≡ true → list_all is_run_byte run ≡ true
    → rewritten_by f zero before run ≡ f run
unfolding rewritten_by
rewritten_candidate f before [] some all = absurd (omega (arith, (candidate_some before [] some).0))
rewritten_candidate f before (c ∷ s) some all =
    let n = prefix_len is_run_byte s in
    let full : n ≡ length s = prefix_of_all s (and_right (is_run_byte c) (list_all is_run_byte s) all) in
    ap (candidate_turn f before c s) some
    ∙ ap (λ l. f (c ∷ take n s) ++ l) (rewritten_skip f (before_of c) n s ∙ ap (rewritten_by f zero (before_after (before_of c) (take n s))) (drop_all n s (omega (arith, full))) ∙ rewritten_nothing f (before_after (before_of c) (take n s)) zero)
    ∙ append-nil (f (c ∷ take n s))
    ∙ ap (λ l. f (c ∷ l)) (take_all n s (omega (arith, full)))

-- what is before a text does not matter if it starts outside of runs
pub rewritten_outside : (f : List ℕ → List ℕ) (a b : ByteBefore) (s : List ℕ) → StartsOutsideRun s → rewritten_by f zero a s ≡ rewritten_by f zero b s
rewritten_outside f a b [] stop = rewritten_nothing f a zero ∙ sym (rewritten_nothing f b zero)
rewritten_outside f a b (c ∷ s) stop = rewritten_other f a c s (outside_none a (c ∷ s) stop) ∙ sym (rewritten_other f b c s (outside_none b (c ∷ s) stop))

run_first : (before : ByteBefore) (c : ℕ) (s : List ℕ) → starts_candidate before (c ∷ s) ≡ true → is_run_byte c ≡ true
run_first before c s some = ap is_run_byte (first_of_candidate before (c ∷ s) some)

-- a candidate that is not split has the same length
same_len : (before : ByteBefore) (c : ℕ) (a b : List ℕ) → SplitsNoCandidate before (c ∷ a) b → starts_candidate before (c ∷ (a ++ b)) ≡ true → prefix_len is_run_byte (a ++ b) ≡ prefix_len is_run_byte a
same_len before c a b cut some = prefix_len-append is_run_byte a b ∙ at (eqb (prefix_len is_run_byte a) (length a)) refl
  where
    at : (t : Bool) → eqb (prefix_len is_run_byte a) (length a) ≡ t → cond t (length a + prefix_len is_run_byte b) (prefix_len is_run_byte a) ≡ prefix_len is_run_byte a
    at true e =
        let full : prefix_len is_run_byte a ≡ length a = eqb-true _ _ e in
        let all : list_all is_run_byte (c ∷ a) ≡ true = ap (λ t. t && list_all is_run_byte a) (run_first before c (a ++ b) some) ∙ all_of_prefix a full in
        let none : prefix_len is_run_byte b ≡ 0 = no_prefix b (cut [] (c ∷ a) refl (omega arith) all some) in
        omega (arith, full, none)
    at false e = refl

-- it starts in the first part, without the second
same_begin : (before : ByteBefore) (c : ℕ) (a b : List ℕ) → SplitsNoCandidate before (c ∷ a) b → starts_candidate before (c ∷ (a ++ b)) ≡ true → starts_candidate before (c ∷ a) ≡ true
same_begin before c a b cut some =
    let m = prefix_len is_run_byte a in
    let first : c ≡ 95 = first_of_candidate before (c ∷ (a ++ b)) some in
    let word : take_while is_run_byte (c ∷ (a ++ b)) ≡ c ∷ take m a =
    take_while-cons is_run_byte c (a ++ b) ∙ ap (λ t. cond t (c ∷ take_while is_run_byte (a ++ b)) []) (ap is_run_byte first)
    ∙ ap (λ n. c ∷ take n (a ++ b)) (same_len before c a b cut some) ∙ ap (λ l. c ∷ l) (take-append-le m a b (prefix_len-le-length is_run_byte a)) in
    subst (λ l. starts_candidate before (c ∷ l) ≡ true) (take-append-drop m a)
    (candidate_more before (c ∷ take m a) (drop m a) (subst (λ l. starts_candidate before l ≡ true) word (candidate_prefix before (c ∷ (a ++ b)) some)))

tail : (before : ByteBefore) (c : ℕ) (a b : List ℕ) → SplitsNoCandidate before (c ∷ a) b → SplitsNoCandidate (before_of c) a b
tail before c a b cut = λ plain run e some all begins. cut (c ∷ plain) run (ap (λ l. c ∷ l) e) some all begins

-- a text that is rewritten in two parts, of which the first splits no candidate
split_from : (f : List ℕ → List ℕ) (before : ByteBefore) (a b : List ℕ) (k : ℕ) → k ≤ length a → SplitsNoCandidate before a b
    → rewritten_by f k before (a ++ b) ≡ rewritten_by f k before a ++ rewritten_by f zero (before_after before a) b
unfolding rewritten_by
split_from f before [] b zero le cut = refl
split_from f before [] b (suc k) le cut = absurd (omega (arith, le))
split_from f before (c ∷ a) b (suc k) le cut = split_from f (before_of c) a b k (omega (arith, le)) (tail before c a b cut)
split_from f before (c ∷ a) b zero le cut = at (λ k le. split_from f (before_of c) a b k le (tail before c a b cut)) (starts_candidate before (c ∷ (a ++ b))) refl
  where
    at : ((k : ℕ) → k ≤ length a → rewritten_by f k (before_of c) (a ++ b) ≡ rewritten_by f k (before_of c) a ++ rewritten_by f zero (before_after (before_of c) a) b)
        → (r : Bool) → starts_candidate before (c ∷ (a ++ b)) ≡ r
        → candidate_turn f before c (a ++ b) (starts_candidate before (c ∷ (a ++ b))) ≡ candidate_turn f before c a (starts_candidate before (c ∷ a)) ++ rewritten_by f zero (before_after (before_of c) a) b
    at ih true e =
        let m = prefix_len is_run_byte a in
        let len : prefix_len is_run_byte (a ++ b) ≡ m = same_len before c a b cut e in
        let within : m ≤ length a = prefix_len-le-length is_run_byte a in
        let word : take (prefix_len is_run_byte (a ++ b)) (a ++ b) ≡ take m a = ap (λ n. take n (a ++ b)) len ∙ take-append-le m a b within in
        ap (candidate_turn f before c (a ++ b)) e
        ∙ ap (λ l. f (c ∷ l) ++ rewritten_by f (prefix_len is_run_byte (a ++ b)) (before_of c) (a ++ b)) word
        ∙ ap (λ n. f (c ∷ take m a) ++ rewritten_by f n (before_of c) (a ++ b)) len
        ∙ ap (λ l. f (c ∷ take m a) ++ l) (ih m within)
        ∙ sym (append_assoc (f (c ∷ take m a)) (rewritten_by f m (before_of c) a) (rewritten_by f zero (before_after (before_of c) a) b))
        ∙ sym (ap (λ t. candidate_turn f before c a t ++ rewritten_by f zero (before_after (before_of c) a) b) (same_begin before c a b cut e))
    at ih false e =
        ap (candidate_turn f before c (a ++ b)) e
        ∙ ap (λ l. c ∷ l) (ih zero (omega arith))
        ∙ sym (ap (λ t. candidate_turn f before c a t ++ rewritten_by f zero (before_after (before_of c) a) b) (candidate_less before (c ∷ a) b e))

pub rewritten_split : (f : List ℕ → List ℕ) (before : ByteBefore) (a b : List ℕ) → SplitsNoCandidate before a b
    → rewritten_by f zero before (a ++ b) ≡ rewritten_by f zero before a ++ rewritten_by f zero (before_after before a) b
rewritten_split f before a b cut = split_from f before a b zero (omega arith) cut

-- Plain text.

-- no candidate starts in `s`, if `left` follows it
abbrev pub HasNoCandidate : ByteBefore → List ℕ → List ℕ → Type 0
HasNoCandidate before [] left = Unit {0}
HasNoCandidate before (c ∷ s) left = (starts_candidate before (c ∷ (s ++ left)) ≡ false) × HasNoCandidate (before_of c) s left

-- it is unchanged
pub rewritten_plain : (f : List ℕ → List ℕ) (before : ByteBefore) (s left : List ℕ) → HasNoCandidate before s left → rewritten_by f zero before s ≡ s
rewritten_plain f before [] left none = rewritten_nothing f before zero
rewritten_plain f before (c ∷ s) left none =
    rewritten_other f before c s (candidate_less before (c ∷ s) left none.0) ∙ ap (λ l. c ∷ l) (rewritten_plain f (before_of c) s left none.1)

none_at : (before : ByteBefore) (s left plain run : List ℕ) → HasNoCandidate before s left → s ≡ plain ++ run → 0 < length run → starts_candidate (before_after before plain) (run ++ left) ≡ false
none_at before [] left plain run none e some = absurd (omega (arith, ap length e, length-append plain run))
none_at before (c ∷ s) left [] run none e some = subst (λ l. starts_candidate before (l ++ left) ≡ false) e none.0
none_at before (c ∷ s) left (d ∷ plain) run none e some =
    let same : c ≡ d = cc in
    let rest : s ≡ plain ++ run = cc in
    subst (λ k. starts_candidate (before_after (before_of k) plain) (run ++ left) ≡ false) same (none_at (before_of c) s left plain run none.1 rest some)

-- it splits no candidate
pub cuts_plain : (before : ByteBefore) (s left : List ℕ) → HasNoCandidate before s left → SplitsNoCandidate before s left
cuts_plain before s left none = λ plain run e some all begins. absurd (true≢false (sym begins ∙ none_at before s left plain run none e some))

-- if no run starts in it, and no run takes in its last byte, no candidate starts in it
pub plain_of : (before : ByteBefore) (s left : List ℕ) → ((k : ℕ) → k < length s → starts_run (drop k (s ++ left)) ≡ false)
    → (EndsSingle before s → starts_run left ≡ false) → HasNoCandidate before s left
plain_of before [] left none last = tt
plain_of before (c ∷ s) left none last = (
  ap (λ b. b || starts_underscored_run before (c ∷ (s ++ left))) (none zero (omega arith)) ∙ at before s none last,
  plain_of (before_of c) s left (λ k lt. none (suc k) (omega (arith, lt))) (λ e. last (c ∷ e.0, ap (λ l. c ∷ l) e.1, e.2)),
)
  where
    marked : (t : Bool) → eqb c 95 ≡ t → (c ≡ 95 → starts_run left ≡ false) → (t && starts_run left) ≡ false
    marked true e h = h (eqb-true c 95 e)
    marked false e h = refl

    no_run : (t r : Bool) → r ≡ false → (t && r) ≡ false
    no_run true r e = e
    no_run false r e = refl

    at : (b : ByteBefore) (s : List ℕ) → ((k : ℕ) → k < length (c ∷ s) → starts_run (drop k ((c ∷ s) ++ left)) ≡ false)
        → (EndsSingle b (c ∷ s) → starts_run left ≡ false) → starts_underscored_run b (c ∷ (s ++ left)) ≡ false
    at Outside [] none last = marked (eqb c 95) refl (λ e. last ([], ap (λ k. k ∷ []) e, refl))
    at Outside (d ∷ s) none last = no_run (eqb c 95) (starts_run (d ∷ (s ++ left))) (none 1 (omega arith))
    at Inside s none last = refl
