-- Any bytes, filtered in parts.
use Rattle.std.proofs.Common.{◌≡◌, ℕ, zero, ◌+◌, ◌-◌, ◌*◌, ◌<◌, ◌≤◌, ◌⊎◌, inl, inr, ◌&&◌, ◌||◌, Bool, true, false, eqb, eqb-true, eq-eqb, List, [], ◌∷◌, ◌++◌, length, take, drop, get_or, take_all, None, Some, IfSome, refl, sym, ap, subst, ◌∙◌, arith, append_assoc, append-nil, length-drop, length-append, codes}
use Rattle.std.specs.List.{prefix_len, list_all}
use Rattle.std.specs.Bool.{⊤}
use Rattle.std.specs.declared.option.Option.{Option}
use Rattle.std.specs.declared.io.Error.{Error}
use Rattle.std.specs.declared.io.ErrorKind.TheVariants.{OutOfMemory}
use Rattle.std.specs.IoError.{error_kind}
use Rattle.std.specs.Io.{StartsWith}
use Rattle.std.specs.Io.KnownBytes.{Appends, Consumes}
use Rattle.std.proofs.KnownBytes.{Appends-trans, Appends-nil, starts_with_rest}
use Rattle.std.proofs.lemmas.Option.{MatchOption-at_some}
use Rattle.std.proofs.Math.Seq.{take-append_seam, drop-append_seam}
use Rattle.std.proofs.lemmas.List.{append_cancel_left, drop-append-le, take-append-le, take-append-drop, drop-drop, drop_all, length-take-le}
use Rattle.std.proofs.lemmas.List.Folds.{list_all-append}
use Rattle.std.proofs.lemmas.Bool.{true≢false}
use Rattle.std.proofs.lemmas.Bool.Decides.{nat_tests}
use Rattle.demangle_value.specs.Filtered.{is_run_byte, starts_run, StartsOutsideRun}
use Rattle.rustc_demangle.specs.Rewritten.{before_after, starts_underscored_run, starts_candidate, rewritten_by, IsPlainLen}
use Rattle.rustc_demangle.specs.ByteStream.{Unwritten, unwritten, from_start, followed_by, SplitsNoCandidate, IsPartialRun, IsPartialCandidate, FilteredPrefix, StepFiltered, StepFinished, StepFailed, BytesStopped}
use Rattle.rustc_demangle.specs.declared.byte_before.ByteBefore.{ByteBefore}
use Rattle.rustc_demangle.specs.declared.byte_before.ByteBefore.TheVariants.{Outside, Inside}
use Rattle.rustc_demangle.specs.declared.stream.fault.StreamFault.{StreamFault}
use Rattle.rustc_demangle.specs.declared.stream.fault.StreamFault.TheVariants.{Read, NotUtf8, Write, Memory}
use Rattle.demangle_value.proofs.Searches.{no_mark}
use Rattle.demangle_value.proofs.RunStarts.{all_prefix, all_of_prefix, after_prefix, far, and_left, and_right}
use Rattle.rustc_demangle.proofs.CandidateLemmas.{or_false, candidate_more, candidate_cases, candidate_of, candidate_some, candidate_prefix, run_candidate, inside_after, before_after-append, rewritten_nothing, rewritten_candidate, rewritten_split, rewritten_plain, HasNoCandidate, cuts_plain, plain_of}

-- nothing was filtered
pub passed_none : (f : List ℕ → List ℕ) (held left : Unwritten) (old : Option (List ℕ)) → held ≡ left → FilteredPrefix (rewritten_by f zero) held left old old
passed_none f held left old e = record {
  prefix = [];
  whole = ap (λ (h : Unwritten). h.bytes) e;
  last = ap (λ (h : Unwritten). h.before) (sym e);
  uncut = λ plain run none some all begins. absurd (omega (arith, ap length none, length-append plain run));
  wrote = subst (Appends old old) (sym (rewritten_nothing f held.before zero)) (Appends-nil old);
}

-- two parts that are joined, and a division in the first or in the second
pub seam : (a b before run : List ℕ) → a ++ b ≡ before ++ run
    → ((x : List ℕ) × (a ≡ before ++ x) × (run ≡ x ++ b)) ⊎ ((y : List ℕ) × (b ≡ y ++ run) × (before ≡ a ++ y))
seam [] b before run e = inr (before, e, refl)
seam (c ∷ a) b [] run e = inl (c ∷ a, refl, sym e)
seam (c ∷ a) b (d ∷ before) run e = elim (seam a b before run (cc)) [
  | inl p ↦ inl (p.0, (let first : c ≡ d = cc in ap (λ k. k ∷ a) first ∙ ap (λ l. d ∷ l) p.1), p.2)
  | inr p ↦ inr (p.0, p.1, (let first : d ≡ c = cc in ap (λ k. k ∷ before) first ∙ ap (λ l. c ∷ l) p.2))
]

no_first : (a b : List ℕ) → StartsOutsideRun (a ++ b) → StartsOutsideRun a
no_first [] b h = tt
no_first (c ∷ a) b h = h

past_all : (a b : List ℕ) → list_all is_run_byte a ≡ true → StartsOutsideRun (a ++ b) → StartsOutsideRun b
past_all [] b all h = h
past_all (c ∷ a) b all h = absurd (true≢false (sym (and_left (is_run_byte c) (list_all is_run_byte a) all) ∙ h))

-- two prefixes, of which the second follows the first
cuts_both : (start : ByteBefore) (a b left : List ℕ) → SplitsNoCandidate start a (b ++ left) → SplitsNoCandidate (before_after start a) b left → SplitsNoCandidate start (a ++ b) left
cuts_both start a b left first second = λ before run e some all begins. elim (seam a b before run e) [
  | inl p ↦ at before run some all begins p.0 p.1 p.2
  | inr p ↦ second p.0 run p.1 some all
      (subst (λ (k : ByteBefore). starts_candidate k (run ++ left) ≡ true) (ap (before_after start) p.2 ∙ before_after-append start a p.0) begins)
]
  where
    at : (before run : List ℕ) → 0 < length run → list_all is_run_byte run ≡ true → starts_candidate (before_after start before) (run ++ left) ≡ true → (x : List ℕ) → a ≡ before ++ x → run ≡ x ++ b → StartsOutsideRun left
    at before run some all begins [] ea er =
        let same : before_after start before ≡ before_after start a = ap (before_after start) (sym (ea ∙ append-nil before)) in
        second [] run (sym er) some all (subst (λ (k : ByteBefore). starts_candidate k (run ++ left) ≡ true) same begins)
    at before run some all begins (c ∷ x) ea er =
        let both = sym (list_all-append is_run_byte (c ∷ x) b) ∙ ap (list_all is_run_byte) (sym er) ∙ all in
        let here : starts_candidate (before_after start before) ((c ∷ x) ++ (b ++ left)) ≡ true = ap (starts_candidate (before_after start before)) (sym (append_assoc (c ∷ x) b left) ∙ ap (λ l. l ++ left) (sym er)) ∙ begins in
        past_all b left (and_right (list_all is_run_byte (c ∷ x)) (list_all is_run_byte b) both)
        (first before (c ∷ x) ea (omega arith) (and_left (list_all is_run_byte (c ∷ x)) (list_all is_run_byte b) both) here)

cuts_first : (start : ByteBefore) (a b left : List ℕ) → SplitsNoCandidate start a (b ++ left) → SplitsNoCandidate start a b
cuts_first start a b left cut = λ before run e some all begins.
    no_first b left (cut before run e some all (ap (starts_candidate (before_after start before)) (sym (append_assoc run b left)) ∙ candidate_more (before_after start before) (run ++ b) left begins))

pub passed_trans : (f : List ℕ → List ℕ) (held mid left : Unwritten) (old between new : Option (List ℕ)) → FilteredPrefix (rewritten_by f zero) held mid old between → FilteredPrefix (rewritten_by f zero) mid left between new → FilteredPrefix (rewritten_by f zero) held left old new
passed_trans f held mid left old between new p q =
    let cut = subst (SplitsNoCandidate held.before p.prefix) q.whole p.uncut in
    record {
      prefix = p.prefix ++ q.prefix;
      whole = p.whole ∙ ap (λ l. p.prefix ++ l) q.whole ∙ sym (append_assoc p.prefix q.prefix left.bytes);
      last = q.last ∙ ap (λ (k : ByteBefore). before_after k q.prefix) p.last ∙ sym (before_after-append held.before p.prefix q.prefix);
      uncut = cuts_both held.before p.prefix q.prefix left.bytes cut (subst (λ (k : ByteBefore). SplitsNoCandidate k q.prefix left.bytes) p.last q.uncut);
      wrote = subst (Appends old new) (sym (rewritten_split f held.before p.prefix q.prefix (cuts_first held.before p.prefix q.prefix left.bytes cut)))
          (Appends-trans old between new _ _ p.wrote (subst (λ (k : ByteBefore). Appends between new (rewritten_by f zero k q.prefix)) p.last q.wrote));
    }

-- plain text is unchanged
pub passed_plain : (f : List ℕ → List ℕ) (held left : Unwritten) (plain : List ℕ) (old new : Option (List ℕ)) → held.bytes ≡ plain ++ left.bytes → left.before ≡ before_after held.before plain
    → HasNoCandidate held.before plain left.bytes → Appends old new plain → FilteredPrefix (rewritten_by f zero) held left old new
passed_plain f held left plain old new e last none wrote = record {
  prefix = plain;
  whole = e;
  last = last;
  uncut = cuts_plain held.before plain left.bytes none;
  wrote = subst (Appends old new) (sym (rewritten_plain f held.before plain left.bytes none)) wrote;
}

-- a prefix after which no run continues is filtered
pub passed_prefix : (f : List ℕ → List ℕ) (held left : Unwritten) (prefix : List ℕ) (old new : Option (List ℕ)) → held.bytes ≡ prefix ++ left.bytes → left.before ≡ before_after held.before prefix → StartsOutsideRun left.bytes
    → Appends old new (rewritten_by f zero held.before prefix) → FilteredPrefix (rewritten_by f zero) held left old new
passed_prefix f held left prefix old new e last stop wrote = record {
  prefix = prefix;
  whole = e;
  last = last;
  uncut = λ plain run same some all begins. stop;
  wrote = wrote;
}

partial_all : (s : List ℕ) → IsPartialRun s → list_all is_run_byte s ≡ true
partial_all s (inl e) = ap (list_all is_run_byte) e
partial_all s (inr (inl e)) = ap (list_all is_run_byte) e
partial_all s (inr (inr (inl e))) = ap (list_all is_run_byte) e
partial_all s (inr (inr (inr run))) = run.1

-- they are run bytes
pub partial_run_bytes : (held : Unwritten) → IsPartialCandidate held → list_all is_run_byte held.bytes ≡ true
partial_run_bytes held (inl is) = partial_all held.bytes is
partial_run_bytes held (inr (out, run, e, is)) = ap (list_all is_run_byte) e ∙ partial_all run is

pub finished_candidate : (f : List ℕ → List ℕ) (held : Unwritten) → IsPartialCandidate held → starts_candidate held.before held.bytes ≡ true
    → f held.bytes ≡ rewritten_by f zero held.before held.bytes
finished_candidate f held is some = sym (rewritten_candidate f held.before held.bytes some (partial_run_bytes held is))

not_inside : Inside ≡ Outside → ⊥
not_inside e = cc

-- a partial candidate that is none is plain text
kept_run : (before : ByteBefore) (s : List ℕ) → IsPartialRun s → starts_candidate before s ≡ false → HasNoCandidate before s []
kept_run before s (inl e) none = subst (λ l. HasNoCandidate before l []) (sym e) tt
kept_run before s (inr (inl e)) none = subst (λ l. HasNoCandidate before l []) (sym e) (single before, tt)
  where
    single : (before : ByteBefore) → starts_candidate before (codes "_") ≡ false
    single Outside = refl
    single Inside = refl
kept_run before s (inr (inr (inl e))) none = subst (λ l. HasNoCandidate before l []) (sym e) (first before, (refl, tt))
  where
    first : (before : ByteBefore) → starts_candidate before (codes "_Z") ≡ false
    first Outside = refl
    first Inside = refl
kept_run before s (inr (inr (inr run))) none = absurd (true≢false (sym (run_candidate before s run.0) ∙ none))

kept_partial : (held : Unwritten) → IsPartialCandidate held → starts_candidate held.before held.bytes ≡ false → HasNoCandidate held.before held.bytes []
kept_partial held (inl is) none = kept_run held.before held.bytes is none
kept_partial held (inr (out, run, e, is)) none =
    let here : starts_candidate Outside (95 ∷ run) ≡ false = subst (λ (k : ByteBefore). starts_candidate k (95 ∷ run) ≡ false) out (ap (starts_candidate held.before) (sym e) ∙ none) in
    subst (λ l. HasNoCandidate held.before l []) (sym e) (subst (λ (k : ByteBefore). HasNoCandidate k (95 ∷ run) []) (sym out)
    (ap (starts_candidate Outside) (ap (λ l. 95 ∷ l) (append-nil run)) ∙ here, kept_run Inside run is (no_run run is here)))
  where
    no_run : (run : List ℕ) → IsPartialRun run → starts_candidate Outside (95 ∷ run) ≡ false → starts_candidate Inside run ≡ false
    no_run run is none = at (starts_candidate Inside run) refl
      where
        at : (b : Bool) → starts_candidate Inside run ≡ b → starts_candidate Inside run ≡ false
        at true e = elim (candidate_cases Inside run e) [
          | inl some ↦ absurd (true≢false (sym (candidate_of Outside (95 ∷ run) (inr (refl, run, refl, some))) ∙ none))
          | inr w ↦ absurd (not_inside w.0)
        ]
        at false e = e

pub finished_kept : (f : List ℕ → List ℕ) (held : Unwritten) → IsPartialCandidate held → starts_candidate held.before held.bytes ≡ false
    → held.bytes ≡ rewritten_by f zero held.before held.bytes
finished_kept f held is none = sym (rewritten_plain f held.before held.bytes [] (kept_partial held is none))

-- the used bytes follow the pending text
pub moved : (a b available more : List ℕ) (n : ℕ) → b ≡ a ++ take n available → a ++ (available ++ more) ≡ b ++ (drop n available ++ more)
moved a b available more n e =
    ap (λ l. a ++ (l ++ more)) (sym (take-append-drop n available))
    ∙ ap (λ l. a ++ l) (append_assoc (take n available) (drop n available) more)
    ∙ sym (append_assoc a (take n available) (drop n available ++ more))
    ∙ ap (λ l. l ++ (drop n available ++ more)) (sym e)

-- used bytes that become pending
pub passed_moved : (f : List ℕ → List ℕ) (before next : ByteBefore) (a b available : List ℕ) (n : ℕ) (old : Option (List ℕ)) → next ≡ before → b ≡ a ++ take n available
    → (more : List ℕ) → FilteredPrefix (rewritten_by f zero) (followed_by (unwritten before a) (available ++ more)) (followed_by (unwritten next b) (drop n available ++ more)) old old
passed_moved f before next a b available n old same e more =
    passed_none f _ _ old (ap (λ l. unwritten before l) (moved a b available more n e) ∙ ap (λ (k : ByteBefore). unwritten k (b ++ (drop n available ++ more))) (sym same))

-- a candidate is one of the partial ones
pub open_candidate : (before : ByteBefore) (s : List ℕ) → starts_candidate before s ≡ true → list_all is_run_byte s ≡ true → IsPartialCandidate (unwritten before s)
open_candidate before s some all = elim (candidate_cases before s some) [
  | inl e ↦ inl (inr (inr (inr (e, all))))
  | inr w ↦ inr (w.0, w.1, w.2, inr (inr (inr (w.3, sym (ap (list_all is_run_byte) w.2) ∙ all))))
]

-- a candidate that is continued is a candidate
pub more_candidate : (before next : ByteBefore) (a s : List ℕ) (n : ℕ) → next ≡ before → starts_candidate before a ≡ true → list_all is_run_byte a ≡ true → n ≡ prefix_len is_run_byte s → (b : List ℕ) → b ≡ a ++ take n s
    → IsPartialCandidate (unwritten next b)
more_candidate before next a s n same some all count b e =
    let last : list_all is_run_byte (take n s) ≡ true = ap (λ m. list_all is_run_byte (take m s)) count ∙ all_prefix s in
    let every : list_all is_run_byte b ≡ true = ap (list_all is_run_byte) e ∙ list_all-append is_run_byte a (take n s) ∙ ap (λ t. t && list_all is_run_byte (take n s)) all ∙ last in
    let begins : starts_candidate next b ≡ true = subst (λ (k : ByteBefore). starts_candidate k b ≡ true) (sym same) (ap (starts_candidate before) e ∙ candidate_more before a (take n s) some) in
    open_candidate next b begins every

-- a pending candidate that ends in the available bytes
pub candidate_ended : (f : List ℕ → List ℕ) (before next : ByteBefore) (a b nb available : List ℕ) (n : ℕ) (old new : Option (List ℕ)) → b ≡ a ++ take n available → n ≡ prefix_len is_run_byte available → n < length available
    → nb ≡ [] → next ≡ before_after before b → Appends old new (rewritten_by f zero before b)
    → (more : List ℕ) → FilteredPrefix (rewritten_by f zero) (followed_by (unwritten before a) (available ++ more)) (followed_by (unwritten next nb) (drop n available ++ more)) old new
candidate_ended f before next a b nb available n old new e count lt none last wrote more =
    let stop : StartsOutsideRun (drop n available ++ more) = subst (λ m. StartsOutsideRun (drop m available ++ more)) (sym count) (after_prefix available more (omega (arith, count))) in
    passed_prefix f _ _ b old new (moved a b available more n e ∙ ap (λ l. b ++ (l ++ (drop n available ++ more))) (sym none)) last
    (subst (λ l. StartsOutsideRun (l ++ (drop n available ++ more))) (sym none) stop) wrote

-- The partial candidates that are none, by what may continue them.
abbrev pub IsPrefix : ByteBefore → List ℕ → Type 0
IsPrefix before s = (s ≡ codes "_") ⊎ (s ≡ codes "_Z") ⊎ ((before ≡ Outside) × (s ≡ codes "__")) ⊎ ((before ≡ Outside) × (s ≡ codes "__Z"))

pub prefix_of : (before : ByteBefore) (s : List ℕ) → IsPartialCandidate (unwritten before s) → 0 < length s → starts_candidate before s ≡ false → IsPrefix before s
prefix_of before s (inl (inl e)) some none = absurd (omega (arith, ap length e, some))
prefix_of before s (inl (inr (inl e))) some none = inl e
prefix_of before s (inl (inr (inr (inl e)))) some none = inr (inl e)
prefix_of before s (inl (inr (inr (inr run)))) some none = absurd (true≢false (sym (run_candidate before s run.0) ∙ none))
prefix_of before s (inr (out, run, e, inl n)) some none = inl (e ∙ ap (λ l. 95 ∷ l) n)
prefix_of before s (inr (out, run, e, inr (inl n))) some none = inr (inr (inl (out, e ∙ ap (λ l. 95 ∷ l) n)))
prefix_of before s (inr (out, run, e, inr (inr (inl n)))) some none = inr (inr (inr (out, e ∙ ap (λ l. 95 ∷ l) n)))
prefix_of before s (inr (out, run, e, inr (inr (inr is)))) some none = absurd (true≢false (sym (candidate_of before s (inr (out, run, e, is.0))) ∙ none))

-- its last byte
abbrev pub last_byte : List ℕ → ℕ
last_byte s = get_or s (length s - 1) 0

-- a byte that continues no such text
pub record StopsPrefix (before : ByteBefore) (s : List ℕ) (c : ℕ) : Type 0 where
  pub no_n : last_byte s ≡ 90 → c ≡ 78 → ⊥
  pub no_r : last_byte s ≡ 95 → c ≡ 82 → ⊥
  pub no_z : last_byte s ≡ 95 → c ≡ 90 → ⊥
  pub no_single : length s ≡ 1 → before ≡ Outside → c ≡ 95 → ⊥

unmarked : (c : ℕ) (more : List ℕ) → (c ≡ 82 → ⊥) → (c ≡ 90 → ⊥) → starts_run (95 ∷ c ∷ more) ≡ false
unmarked c more r z =
    let a : eqb 90 c ≡ false = grind (arith, nat_tests) in
    let b : eqb 82 c ≡ false = grind (arith, nat_tests) in
    rw (a, b) refl

unnamed : (c : ℕ) (more : List ℕ) → (c ≡ 78 → ⊥) → starts_run (95 ∷ 90 ∷ c ∷ more) ≡ false
unnamed c more n =
    let a : eqb 78 c ≡ false = grind (arith, nat_tests) in
    rw a refl

not_underscored : (before : ByteBefore) (c : ℕ) (s : List ℕ) → (before ≡ Outside → starts_run s ≡ false) → starts_run (c ∷ s) ≡ false → starts_candidate before (c ∷ s) ≡ false
not_underscored before c s none first = ap (λ b. b || starts_underscored_run before (c ∷ s)) first ∙ at before none
  where
    both : (t r : Bool) → r ≡ false → (t && r) ≡ false
    both true r e = e
    both false r e = refl

    at : (before : ByteBefore) → (before ≡ Outside → starts_run s ≡ false) → starts_underscored_run before (c ∷ s) ≡ false
    at Outside none = both (eqb c 95) (starts_run s) (none refl)
    at Inside none = refl

pub stopped_prefix : (before : ByteBefore) (s : List ℕ) (c : ℕ) → IsPrefix before s → StopsPrefix before s c → (more : List ℕ) → HasNoCandidate before s (c ∷ more)
stopped_prefix before s c (inl e) stops more =
    let last : last_byte s ≡ 95 = ap last_byte e in
    let one : length s ≡ 1 = ap length e in
    subst (λ l. HasNoCandidate before l (c ∷ more)) (sym e)
    (not_underscored before 95 (c ∷ more) (λ out. no_mark c more (λ t. stops.no_single one out (eqb-true c 95 t))) (unmarked c more (stops.no_r last) (stops.no_z last)), tt)
stopped_prefix before s c (inr (inl e)) stops more =
    subst (λ l. HasNoCandidate before l (c ∷ more)) (sym e)
    (not_underscored before 95 (90 ∷ c ∷ more) (λ out. refl) (unnamed c more (stops.no_n (ap last_byte e))), (refl, tt))
stopped_prefix before s c (inr (inr (inl p))) stops more =
    let last : last_byte s ≡ 95 = ap last_byte p.1 in
    let none : starts_run (95 ∷ c ∷ more) ≡ false = unmarked c more (stops.no_r last) (stops.no_z last) in
    subst (λ l. HasNoCandidate before l (c ∷ more)) (sym p.1)
    (not_underscored before 95 (95 ∷ c ∷ more) (λ out. none) refl, (not_underscored Inside 95 (c ∷ more) (λ m. absurd (not_inside m)) none, tt))
stopped_prefix before s c (inr (inr (inr p))) stops more =
    let none : starts_run (95 ∷ 90 ∷ c ∷ more) ≡ false = unnamed c more (stops.no_n (ap last_byte p.1)) in
    subst (λ l. HasNoCandidate before l (c ∷ more)) (sym p.1)
    (not_underscored before 95 (95 ∷ 90 ∷ c ∷ more) (λ out. none) refl, (not_underscored Inside 95 (90 ∷ c ∷ more) (λ m. refl) none, (refl, tt)))

-- it ends with `Z`, and another byte than `N` follows
pub stops_name : (before : ByteBefore) (s : List ℕ) (c : ℕ) → IsPrefix before s → last_byte s ≡ 90 → eqb c 78 ≡ false → StopsPrefix before s c
stops_name before s c shape last off = record {
  no_n = λ l e. true≢false (sym (eq-eqb c 78 e) ∙ off);
  no_r = λ l e. absurd (omega (arith, last, l));
  no_z = λ l e. absurd (omega (arith, last, l));
  no_single = λ one out e. single shape one;
}
  where
    single : IsPrefix before s → length s ≡ 1 → ⊥
    single (inl e) one = omega (arith, last, ap last_byte e)
    single (inr (inl e)) one = omega (arith, one, ap length e)
    single (inr (inr (inl p))) one = omega (arith, one, ap length p.1)
    single (inr (inr (inr p))) one = omega (arith, one, ap length p.1)

-- it ends with `_`, and neither `R` nor `Z` follows, nor a `_` that the text may take in
pub stops_mark : (before : ByteBefore) (s : List ℕ) (c : ℕ) (out : Bool) → (last_byte s ≡ 90 → ⊥) → ((eqb c 82 || eqb c 90) || ((eqb c 95 && eqb (length s) 1) && out)) ≡ false → (out ≡ false → before ≡ Outside → ⊥)
    → StopsPrefix before s c
stops_mark before s c out last none not =
    let parts = or_false (eqb c 82 || eqb c 90) ((eqb c 95 && eqb (length s) 1) && out) none in
    let marks = or_false (eqb c 82) (eqb c 90) parts.0 in
    record {
      no_n = λ l e. absurd (last l);
      no_r = λ l e. true≢false (sym (eq-eqb c 82 e) ∙ marks.0);
      no_z = λ l e. true≢false (sym (eq-eqb c 90 e) ∙ marks.1);
      no_single = λ one is e. not (sym (ap (λ t. t && out) (ap (λ t. t && eqb (length s) 1) (eq-eqb c 95 e) ∙ eq-eqb (length s) 1 one)) ∙ parts.1) is;
    }

-- Text before a run.

-- it is plain text, without the `_` that the run takes in
pub front_plain : (before : ByteBefore) (text left : List ℕ) (n : ℕ) → IsPlainLen before text n → ((k : ℕ) → k < length text → starts_run (drop k (text ++ left)) ≡ false)
    → HasNoCandidate before (take n text) (drop n text ++ left)
front_plain before text left n (inl (all, not)) none =
    let same : take n text ≡ text = take_all n text (omega (arith, all)) in
    let gone : drop n text ≡ [] = drop_all n text (omega (arith, all)) in
    subst (λ l. HasNoCandidate before l (drop n text ++ left)) (sym same) (subst (λ l. HasNoCandidate before text (l ++ left)) (sym gone)
    (plain_of before text left none (λ e. absurd (not e))))
front_plain before text left n (inr (one, (s, e, out))) none =
    let len : n ≡ length s = omega (arith, one, ap length e, length-append s (codes "_")) in
    let first : take n text ≡ s = ap (take n) e ∙ ap (λ k. take k (s ++ codes "_")) len ∙ take-append_seam s (codes "_") in
    let last : drop n text ≡ codes "_" = ap (drop n) e ∙ ap (λ k. drop k (s ++ codes "_")) len ∙ drop-append_seam s (codes "_") in
    let whole : text ++ left ≡ s ++ (95 ∷ left) = ap (λ l. l ++ left) e ∙ append_assoc s (codes "_") left in
    let at : (k : ℕ) → k < length text → starts_run (drop k (s ++ (95 ∷ left))) ≡ false = λ k lt. ap (λ l. starts_run (drop k l)) (sym whole) ∙ none k lt in
    let here : starts_run (95 ∷ left) ≡ false = ap starts_run (sym (drop-append_seam s (95 ∷ left))) ∙ at (length s) (omega (arith, one, len)) in
    subst (λ l. HasNoCandidate before l (drop n text ++ left)) (sym first) (subst (λ l. HasNoCandidate before s (l ++ left)) (sym last)
    (plain_of before s (95 ∷ left) (λ k lt. at k (omega (arith, one, len))) (λ w. here)))

-- the rest of it, and what may start a run after it
pub front_partial : (before : ByteBefore) (text rest : List ℕ) (n : ℕ) → IsPlainLen before text n → IsPartialRun rest → IsPartialCandidate (unwritten (before_after before (take n text)) (drop n text ++ rest))
front_partial before text rest n (inl (all, not)) is =
    let gone : drop n text ≡ [] = drop_all n text (omega (arith, all)) in
    inl (subst (λ l. IsPartialRun (l ++ rest)) (sym gone) is)
front_partial before text rest n (inr (one, (s, e, out))) is =
    let len : n ≡ length s = omega (arith, one, ap length e, length-append s (codes "_")) in
    let first : take n text ≡ s = ap (take n) e ∙ ap (λ k. take k (s ++ codes "_")) len ∙ take-append_seam s (codes "_") in
    let last : drop n text ≡ codes "_" = ap (drop n) e ∙ ap (λ k. drop k (s ++ codes "_")) len ∙ drop-append_seam s (codes "_") in
    inr (ap (before_after before) first ∙ out, rest, ap (λ l. l ++ rest) last, is)

-- the rest of it, and the run, are a candidate
pub front_candidate : (before : ByteBefore) (text run : List ℕ) (n : ℕ) → IsPlainLen before text n → starts_run run ≡ true → starts_candidate (before_after before (take n text)) (drop n text ++ run) ≡ true
front_candidate before text run n (inl (all, not)) some =
    let gone : drop n text ≡ [] = drop_all n text (omega (arith, all)) in
    ap (λ l. starts_candidate (before_after before (take n text)) (l ++ run)) gone ∙ run_candidate (before_after before (take n text)) run some
front_candidate before text run n (inr (one, (s, e, out))) some =
    let len : n ≡ length s = omega (arith, one, ap length e, length-append s (codes "_")) in
    let first : take n text ≡ s = ap (take n) e ∙ ap (λ k. take k (s ++ codes "_")) len ∙ take-append_seam s (codes "_") in
    let last : drop n text ≡ codes "_" = ap (drop n) e ∙ ap (λ k. drop k (s ++ codes "_")) len ∙ drop-append_seam s (codes "_") in
    candidate_of (before_after before (take n text)) (drop n text ++ run) (inr (ap (before_after before) first ∙ out, run, ap (λ l. l ++ run) last, some))

pub plain_within : (before : ByteBefore) (text : List ℕ) (n : ℕ) → IsPlainLen before text n → n ≤ length text
plain_within before text n (inl (all, not)) = omega (arith, all)
plain_within before text n (inr (one, single)) = omega (arith, one)

-- the parts of the available bytes, of which the first ends where a run may start
pub parts : (before : ByteBefore) (available : List ℕ) (start n : ℕ) → start ≤ length available → IsPlainLen before (take start available) n
    → (take n (take start available) ≡ take n available) × (drop n (take start available) ++ drop start available ≡ drop n available)
parts before available start n le plain =
    let len : length (take start available) ≡ start = length-take-le start available le in
    let within : n ≤ length (take start available) = plain_within before (take start available) n plain in
    let joined : take start available ++ drop start available ≡ available = take-append-drop start available in (
      sym (take-append-le n (take start available) (drop start available) within) ∙ ap (take n) joined,
      sym (drop-append-le n (take start available) (drop start available) within) ∙ ap (drop n) joined,
    )

pub found_plain : (before : ByteBefore) (available more : List ℕ) (start n : ℕ) → start ≤ length available → IsPlainLen before (take start available) n
    → ((k : ℕ) → k < start → starts_run (drop k available ++ more) ≡ false) → HasNoCandidate before (take n available) (drop n available ++ more)
found_plain before available more start n le plain none =
    let p = parts before available start n le plain in
    let len : length (take start available) ≡ start = length-take-le start available le in
    let whole : take start available ++ (drop start available ++ more) ≡ available ++ more = sym (append_assoc (take start available) (drop start available) more) ∙ ap (λ l. l ++ more) (take-append-drop start available) in
    let at : (k : ℕ) → k < length (take start available) → starts_run (drop k (take start available ++ (drop start available ++ more))) ≡ false =
    λ k lt. ap (λ l. starts_run (drop k l)) whole ∙ ap starts_run (drop-append-le k available more (omega (arith, lt, len, le))) ∙ none k (omega (arith, lt, len)) in
    subst (λ l. HasNoCandidate before l (drop n available ++ more)) p.0
    (subst (λ l. HasNoCandidate before (take n (take start available)) l) (sym (append_assoc (drop n (take start available)) (drop start available) more) ∙ ap (λ l. l ++ more) p.1)
    (front_plain before (take start available) (drop start available ++ more) n plain at))

pub found_partial : (before : ByteBefore) (available : List ℕ) (start n : ℕ) → start ≤ length available → IsPlainLen before (take start available) n → IsPartialRun (drop start available)
    → IsPartialCandidate (unwritten (before_after before (take n available)) (drop n available))
found_partial before available start n le plain is =
    let p = parts before available start n le plain in
    subst (λ l. IsPartialCandidate (unwritten (before_after before (take n available)) l)) p.1
    (subst (λ l. IsPartialCandidate (unwritten (before_after before l) (drop n (take start available) ++ drop start available))) p.0
    (front_partial before (take start available) (drop start available) n plain is))

pub found_candidate : (before : ByteBefore) (available : List ℕ) (start n : ℕ) → start ≤ length available → IsPlainLen before (take start available) n → starts_run (drop start available) ≡ true
    → starts_candidate (before_after before (take n available)) (drop n available) ≡ true
found_candidate before available start n le plain some =
    let p = parts before available start n le plain in
    subst (λ l. starts_candidate (before_after before (take n available)) l ≡ true) p.1
    (subst (λ l. starts_candidate (before_after before l) (drop n (take start available) ++ drop start available) ≡ true) p.0
    (front_candidate before (take start available) (drop start available) n plain some))

-- a candidate that was found is not empty
pub found_some : (before : ByteBefore) (available found : List ℕ) (start n : ℕ) → found ≡ drop n available → start ≤ length available → IsPlainLen before (take start available) n → starts_run (drop start available) ≡ true
    → (0 < length found) × (0 < prefix_len is_run_byte found)
found_some before available found start n back le plain some =
    subst (λ l. (0 < length l) × (0 < prefix_len is_run_byte l)) (sym back) (candidate_some (before_after before (take n available)) (drop n available) (found_candidate before available start n le plain some))

pub first_byte : (s : List ℕ) → 0 < length s → take 1 s ≡ get_or s 0 0 ∷ []
first_byte [] some = absurd (omega (arith, some))
first_byte (c ∷ s) some = refl

-- Chunks.

-- plain text up to a place, if the text after the place becomes pending
pub text_kept : (f : List ℕ → List ℕ) (before next : ByteBefore) (a available kept found nb : List ℕ) (start n : ℕ) (old new : Option (List ℕ)) → a ≡ [] → kept ≡ take n available → found ≡ drop n available
    → nb ≡ a ++ found → next ≡ before_after before kept → start ≤ length available → IsPlainLen before (take start available) n
    → ((more : List ℕ) (k : ℕ) → k < start → starts_run (drop k available ++ more) ≡ false) → Appends old new kept
    → (more : List ℕ) → FilteredPrefix (rewritten_by f zero) (followed_by (unwritten before a) (available ++ more)) (followed_by (unwritten next nb) (drop (length available) available ++ more)) old new
text_kept f before next a available kept found nb start n old new nil front back pending last le plain none wrote more =
    let rest : nb ++ (drop (length available) available ++ more) ≡ drop n available ++ more =
    ap (λ l. nb ++ (l ++ more)) (drop_all (length available) available (omega arith)) ∙ ap (λ l. l ++ more) (pending ∙ ap (λ l. l ++ found) nil ∙ back) in
    passed_plain f _ _ kept old new
    (ap (λ l. l ++ (available ++ more)) nil ∙ ap (λ l. l ++ more) (sym (take-append-drop n available)) ∙ append_assoc (take n available) (drop n available) more ∙ ap (λ l. l ++ (drop n available ++ more)) (sym front) ∙ ap (λ l. kept ++ l) (sym rest))
    last
    (subst (λ l. HasNoCandidate before kept l) (sym rest) (subst (λ l. HasNoCandidate before l (drop n available ++ more)) (sym front) (found_plain before available more start n le plain (none more))))
    wrote

-- a candidate that ends in the available bytes, and the text before it
pub text_run : (f : List ℕ → List ℕ) (before mid next : ByteBefore) (a available kept found run : List ℕ) (start n len used : ℕ) (old between new : Option (List ℕ)) → a ≡ [] → kept ≡ take n available → found ≡ drop n available
    → run ≡ take len found → len ≡ prefix_len is_run_byte found → len < length found → mid ≡ before_after before kept → next ≡ Inside → used ≡ length kept + len → IsPlainLen before (take start available) n
    → (start < length available) × (starts_run (drop start available) ≡ true) × ((k : ℕ) → k < start → starts_run (drop k available) ≡ false)
    → Appends old between kept → Appends between new (f run)
    → (more : List ℕ) → FilteredPrefix (rewritten_by f zero) (followed_by (unwritten before a) (available ++ more)) (followed_by (unwritten next a) (drop used available ++ more)) old new
text_run f before mid next a available kept found run start n len used old between new nil front back is count lt middle last total plain at first second more =
    let le : start ≤ length available = omega (arith, at.0) in
    let within : n ≤ length available = omega (arith, plain_within before (take start available) n plain, length-take-le start available le, le) in
    let size : length kept ≡ n = ap length front ∙ length-take-le n available within in
    let one : FilteredPrefix (rewritten_by f zero) (followed_by (unwritten before a) (available ++ more)) (unwritten mid (found ++ more)) old between =
    passed_plain f _ _ kept old between
    (ap (λ l. l ++ (available ++ more)) nil ∙ ap (λ l. l ++ more) (sym (take-append-drop n available)) ∙ append_assoc (take n available) (drop n available) more ∙ ap (λ l. l ++ (drop n available ++ more)) (sym front) ∙ ap (λ l. kept ++ (l ++ more)) (sym back))
    middle
    (subst (λ l. HasNoCandidate before kept (l ++ more)) (sym back) (subst (λ l. HasNoCandidate before l (drop n available ++ more)) (sym front) (found_plain before available more start n le plain (far available start at.1 at.2 more))))
    first in
    let begins : starts_candidate mid found ≡ true = subst (λ (k : ByteBefore). starts_candidate k found ≡ true) (ap (before_after before) (sym front) ∙ sym middle) (subst (λ l. starts_candidate (before_after before (take n available)) l ≡ true) (sym back) (found_candidate before available start n le plain at.1)) in
    let all : list_all is_run_byte run ≡ true = ap (list_all is_run_byte) (is ∙ ap (λ n. take n found) count) ∙ all_prefix found in
    let some : starts_candidate mid run ≡ true = ap (starts_candidate mid) (is ∙ ap (λ n. take n found) count) ∙ candidate_prefix mid found begins in
    let left : a ++ (drop used available ++ more) ≡ drop len found ++ more =
    ap (λ l. l ++ (drop used available ++ more)) nil ∙ ap (λ l. l ++ more) (ap (λ m. drop m available) (total ∙ ap (λ m. m + len) size) ∙ sym (drop-drop len n available) ∙ ap (drop len) (sym back)) in
    let stop : StartsOutsideRun (drop len found ++ more) = subst (λ m. StartsOutsideRun (drop m found ++ more)) (sym count) (after_prefix found more (omega (arith, count))) in
    passed_trans f _ (unwritten mid (found ++ more)) _ old between new one
    (passed_prefix f (unwritten mid (found ++ more)) _ run between new
    (ap (λ l. l ++ more) (sym (take-append-drop len found)) ∙ append_assoc (take len found) (drop len found) more ∙ ap (λ l. l ++ (drop len found ++ more)) (sym is) ∙ ap (λ l. run ++ l) (sym left))
    (last ∙ sym (inside_after mid run (candidate_some mid run some).0 all))
    (subst StartsOutsideRun (sym left) stop)
    (subst (Appends between new) (sym (rewritten_candidate f mid run some all)) second))

-- a candidate that reaches the end of the available bytes
pub found_open : (before next : ByteBefore) (a available kept found nb : List ℕ) (start n len : ℕ) → a ≡ [] → kept ≡ take n available → found ≡ drop n available → nb ≡ a ++ found → next ≡ before_after before kept → start ≤ length available
    → IsPlainLen before (take start available) n → starts_run (drop start available) ≡ true → len ≡ prefix_len is_run_byte found → len ≡ length found → IsPartialCandidate (unwritten next nb)
found_open before next a available kept found nb start n len nil front back pending last le plain some count full =
    let same : nb ≡ found = pending ∙ ap (λ l. l ++ found) nil in
    let mid : next ≡ before_after before (take n available) = last ∙ ap (before_after before) front in
    subst (λ l. IsPartialCandidate (unwritten next l)) (sym same)
    (subst (λ (k : ByteBefore). IsPartialCandidate (unwritten k found)) (sym mid)
    (open_candidate (before_after before (take n available)) found (ap (starts_candidate (before_after before (take n available))) back ∙ found_candidate before available start n le plain some) (all_of_prefix found (sym count ∙ full))))

-- the start of a candidate at the end of the available bytes
pub found_beginning : (before next : ByteBefore) (a available kept found nb : List ℕ) (start n : ℕ) → a ≡ [] → kept ≡ take n available → found ≡ drop n available → nb ≡ a ++ found → next ≡ before_after before kept → start ≤ length available
    → IsPlainLen before (take start available) n → IsPartialRun (drop start available) → IsPartialCandidate (unwritten next nb)
found_beginning before next a available kept found nb start n nil front back pending last le plain is =
    let same : nb ≡ drop n available = pending ∙ ap (λ l. l ++ found) nil ∙ back in
    let mid : next ≡ before_after before (take n available) = last ∙ ap (before_after before) front in
    subst (λ l. IsPartialCandidate (unwritten next l)) (sym same)
    (subst (λ (k : ByteBefore). IsPartialCandidate (unwritten k (drop n available))) (sym mid) (found_partial before available start n le plain is))

-- one step, by the available bytes and the number of those that were used
pub step_took : (f : List ℕ → List ℕ) (a next : Unwritten) (available : List ℕ) (n : ℕ) (left rest old new : Option (List ℕ)) → n ≤ length available → length next.bytes < length a.bytes + 2 * n → IfSome left (λ xs. StartsWith xs available)
    → Consumes left rest (take n available) → ((more : List ℕ) → FilteredPrefix (rewritten_by f zero) (followed_by a (available ++ more)) (followed_by next (drop n available ++ more)) old new)
    → StepFiltered (rewritten_by f zero) a next left rest old new
step_took f a next available n None rest old new le less prefix took passed = tt
step_took f a next available n (Some xs) None old new le less prefix took passed = absurd took
step_took f a next available n (Some xs) (Some ys) old new le less prefix took passed =
    let more = drop (length available) xs in
    let whole : xs ≡ available ++ more = starts_with_rest xs available prefix in
    let rest : ys ≡ drop n available ++ more = append_cancel_left (take n available) ys (drop n available ++ more)
    (sym took ∙ whole ∙ ap (λ l. l ++ more) (sym (take-append-drop n available)) ∙ append_assoc (take n available) (drop n available) more) in
    let progress : length next.bytes + 2 * length ys < length a.bytes + 2 * length xs =
    omega (arith, le, less, ap length whole, ap length rest, length-append available more, length-append (drop n available) more, length-drop n available) in
    (ys, refl, subst (λ l. FilteredPrefix (rewritten_by f zero) (followed_by a l) (followed_by next ys) old new) (sym whole) (subst (λ l. FilteredPrefix (rewritten_by f zero) (followed_by a (available ++ more)) (followed_by next l) old new) (sym rest) (passed more)), progress)

-- the prefix of the input that was filtered, the pending text, and the rest of the input
abbrev pub Passing : (List ℕ → List ℕ) → Option (List ℕ) → Unwritten → Option (List ℕ) → Option (List ℕ) → Option (List ℕ) → Type 0
Passing f held pending left old new = IfSome held (λ text. (rest : List ℕ) × (left ≡ Some rest) × FilteredPrefix (rewritten_by f zero) (from_start text) (followed_by pending rest) old new)

pub passing_init : (f : List ℕ → List ℕ) (held : Option (List ℕ)) (pending : Unwritten) (old : Option (List ℕ)) → pending ≡ from_start [] → Passing f held pending held old old
passing_init f None pending old none = tt
passing_init f (Some text) pending old none = (text, refl, passed_none f (from_start text) _ old (ap (λ (h : Unwritten). followed_by h text) (sym none)))

pub passing_known : (f : List ℕ → List ℕ) (held : Option (List ℕ)) (pending : Unwritten) (left old new : Option (List ℕ)) → Passing f held pending left old new → IfSome held (λ _. (xs : List ℕ) × (left ≡ Some xs))
passing_known f None pending left old new p = tt
passing_known f (Some text) pending left old new p = (p.0, p.1)

pub passing_step : (f : List ℕ → List ℕ) (held : Option (List ℕ)) (pending next : Unwritten) (left rest old mid new : Option (List ℕ)) → Passing f held pending left old mid
    → StepFiltered (rewritten_by f zero) pending next left rest mid new → Passing f held next rest old new
passing_step f None pending next left rest old mid new p took = tt
passing_step f (Some text) pending next left rest old mid new p took =
    let q = MatchOption-at_some ⊤ (λ xs. (ys : List ℕ) × (rest ≡ Some ys) × FilteredPrefix (rewritten_by f zero) (followed_by pending xs) (followed_by next ys) mid new × (length next.bytes + 2 * length ys < length pending.bytes + 2 * length xs)) p.0 p.1 took in
    (q.0, q.1, passed_trans f (from_start text) (followed_by pending p.0) _ old mid new p.2 q.2)

pub passing_end : (f : List ℕ → List ℕ) (held : Option (List ℕ)) (pending next : Unwritten) (left rest old mid new : Option (List ℕ)) → Passing f held pending left old mid
    → StepFinished (rewritten_by f zero) pending next left rest mid new → IfSome held (λ text. (rest ≡ Some []) × Appends old new (rewritten_by f zero Outside text))
passing_end f None pending next left rest old mid new p ended = tt
passing_end f (Some text) pending next left rest old mid new p ended =
    let none = MatchOption-at_some ⊤ (λ xs. (xs ≡ []) × (rest ≡ Some [])) p.0 p.1 ended.0 in
    let passed = p.2 in
    let last : pending.bytes ++ p.0 ≡ pending.bytes = ap (λ l. pending.bytes ++ l) none.0 ∙ append-nil pending.bytes in
    let whole : rewritten_by f zero Outside text ≡ rewritten_by f zero Outside passed.prefix ++ rewritten_by f zero pending.before pending.bytes =
    ap (rewritten_by f zero Outside) passed.whole ∙ rewritten_split f Outside passed.prefix (pending.bytes ++ p.0) passed.uncut
    ∙ ap (λ l. rewritten_by f zero Outside passed.prefix ++ rewritten_by f zero (before_after Outside passed.prefix) l) last
    ∙ ap (λ (k : ByteBefore). rewritten_by f zero Outside passed.prefix ++ rewritten_by f zero k pending.bytes) (sym passed.last) in
    (none.1, subst (Appends old new) (sym whole) (Appends-trans old mid new _ _ passed.wrote ended.2))

stopped : (f : List ℕ → List ℕ) (text : List ℕ) (pending : Unwritten) (left old mid new : Option (List ℕ)) → Passing f (Some text) pending left old mid → new ≡ mid
    → (rest : Unwritten) × FilteredPrefix (rewritten_by f zero) (from_start text) rest old new
stopped f text pending left old mid new p same = (followed_by pending p.0, subst (FilteredPrefix (rewritten_by f zero) (from_start text) (followed_by pending p.0) old) (sym same) p.2)

pub passing_err : (fault : StreamFault) (f : List ℕ → List ℕ) (held : Option (List ℕ)) (pending next : Unwritten) (left rest old mid new : Option (List ℕ)) → Passing f held pending left old mid
    → StepFailed fault pending next left rest mid new → IfSome held (λ text. BytesStopped (rewritten_by f zero) fault (from_start text) old new)
passing_err fault f None pending next left rest old mid new p refused = tt
passing_err (Read e) f (Some text) pending next left rest old mid new p refused = let w = stopped f text pending left old mid new p refused.3 in (refused.0, w.0, w.1)
passing_err NotUtf8 f (Some text) pending next left rest old mid new p refused = absurd refused
passing_err (Write e) f (Some text) pending next left rest old mid new p refused = tt
passing_err Memory f (Some text) pending next left rest old mid new p refused = stopped f text pending left old mid new p refused.2

-- if there are too many steps, for the writer after the branches join
pub passing_full : {W : Type 0} (contents : W → Option (List ℕ)) (e : Error) (f : List ℕ → List ℕ) (held : Option (List ℕ)) (pending : Unwritten) (left : Option (List ℕ)) (old new next : W)
    → Passing f held pending left (contents old) (contents new) → (error_kind e ≡ OutOfMemory → ⊥) → next ≡ new
    → IfSome held (λ text. BytesStopped (rewritten_by f zero) (Read e) (from_start text) (contents old) (contents next))
passing_full contents e f None pending left old new next p kind same = tt
passing_full contents e f (Some text) pending left old new next p kind same = let w = stopped f text pending left (contents old) (contents new) (contents next) p (ap contents same) in (kind, w.0, w.1)
