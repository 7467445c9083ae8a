-- Bytes that are written to memory in sequence.
use Rattle.std.proofs.Common.{◌≡◌, ℕ, zero, ◌<◌, ◌≤◌, List, [], ◌∷◌, ◌++◌, length, take, drop, cond, Result, Ok, Err, IsOk, IsErr, OnOk, OnErr, true, false, refl, sym, ap, subst, ◌∙◌, arith, append_assoc, append-nil}
use Rattle.std.specs.List.{concat, prefix_len, list_all}
use Rattle.std.proofs.lemmas.Bool.{false≢true}
use Rattle.std.proofs.lemmas.List.{take-append-drop}
use Rattle.std.proofs.lemmas.List.Folds.{concat-append}
use Rattle.demangle_sink.specs.declared.TextSink.{Ghosts}
use Rattle.demangle_sink.specs.declared.slice_sink.SliceSink.{SliceSink}
use Rattle.demangle_sink.specs.declared.SinkRefused.{SinkRefused}
use Rattle.demangle_sink.specs.contracts.slice_sink.SliceSinkTextSink.TheImpl.{ghosts}
use Rattle.demangle_sink.specs.Sink.{IsWithin, room_after}
use Rattle.demangle_sink.specs.PutsPieces.{PutsPieces}
use Rattle.demangle_sink.specs.Slice.{WrittenPart-nothing, WrittenPart-joined}
use Rattle.demangle_sink.specs.Writes.{Writes}
use Rattle.demangle_sink.proofs.PutsPiecesLemmas.{puts_put, puts_then, puts_stop}
use Rattle.demangle_sink.proofs.Writing.{puts_writes}
use Rattle.demangle_value.specs.Filtered.{is_run_byte, replacement_in, starts_run, StartsOutsideRun}
use Rattle.rustc_demangle.specs.Rewritten.{before_after, starts_candidate, stays, replacement_of, rewritten_by, IsPlainLen}
use Rattle.rustc_demangle.specs.TextPieces.{run_pieces}
use Rattle.rustc_demangle.specs.PutsText.{PutsText}
use Rattle.demangle_value.specs.declared.format.Format.{Format}
use Rattle.rustc_demangle.specs.declared.byte_before.ByteBefore.TheVariants.{Outside}
use Rattle.demangle_value.proofs.RunStarts.{all_prefix, run_stops, far}
use Rattle.rustc_demangle.proofs.CandidateLemmas.{candidate_prefix, rewritten_candidate, rewritten_split, rewritten_plain, rewritten_outside, HasNoCandidate, cuts_plain, plain_of}
use Rattle.rustc_demangle.proofs.ByteStreamLemmas.{found_plain, found_candidate}
use Rattle.rustc_demangle.proofs.PieceLemmas.{concat-run}
use Rattle.demangle_value.proofs.SymbolLaws.{length-concat}

-- by the contract of `put_bytes`
pub slice_puts : (old : SliceSink) (s : List ℕ) (result : Result (Unit {0}) SinkRefused) (new : SliceSink)
    → OnOk result (ghosts.took old s new)
    → OnOk result (ghosts.failed new ≡ false)
    → OnErr result (ghosts.failed new ≡ true)
    → OnErr result (ghosts.took old [] new × (ghosts.room new ≡ ghosts.room old))
    → (IsWithin (length s) (ghosts.room old) → IsOk result × (ghosts.room new ≡ room_after (length s) (ghosts.room old)))
    → PutsPieces ghosts old (s ∷ []) result new
slice_puts old s (Ok u) new taken not_failed refused kept fits = puts_put ghosts old s (Ok u) new taken not_failed refused tt fits
slice_puts old s (Err e) new taken not_failed refused kept fits = puts_put ghosts old s (Err e) new taken not_failed refused (λ _. kept) fits

-- the pieces of a run join to its replacement
pub pieces_put : {S : Type 0} (sink : Ghosts S) (format : Format) (old : S) (run : List ℕ) (result : Result (Unit {0}) SinkRefused) (new : S) → PutsPieces sink old (run_pieces format run) result new
    → PutsText sink old (replacement_in format run) result new
pieces_put sink format old run result new p = (run_pieces format run, concat-run format run, p)

-- the replacement of a run is that of a candidate, unless it begins with `_RC`
pub candidate_puts : {S : Type 0} (sink : Ghosts S) (format : Format) (old : S) (run : List ℕ) (result : Result (Unit {0}) SinkRefused) (new : S) → stays run ≡ false
    → PutsText sink old (replacement_in format run) result new → PutsText sink old (replacement_of format run) result new
candidate_puts sink format old run result new not p = subst (λ l. PutsText sink old l result new) (sym (ap (λ b. cond b run (replacement_in format run)) not)) p

-- a candidate that is its own replacement is put as it is
pub kept_puts : {S : Type 0} (sink : Ghosts S) (format : Format) (old : S) (run : List ℕ) (result : Result (Unit {0}) SinkRefused) (new : S) → replacement_of format run ≡ run
    → PutsPieces sink old (run ∷ []) result new → PutsText sink old (replacement_of format run) result new
kept_puts sink format old run result new is p = (run ∷ [], append-nil run ∙ sym is, p)

-- a run that was found, and the text before it
abbrev pub FoundCandidate : List ℕ → List ℕ → List ℕ → List ℕ → List ℕ → ℕ → ℕ → ℕ → Type 0
FoundCandidate rest kept found run following start n m =
    ((start < length rest) × (starts_run (drop start rest) ≡ true) × ((k : ℕ) → k < start → starts_run (drop k rest) ≡ false))
    × IsPlainLen Outside (take start rest) n × (kept ≡ take n rest) × (found ≡ drop n rest) × (m ≡ prefix_len is_run_byte found) × (run ≡ take m found) × (following ≡ drop m found)

-- the text before it, its replacement, and the rest
pub rewritten_found : (f : List ℕ → List ℕ) (rest kept found run following : List ℕ) (start n m : ℕ) → FoundCandidate rest kept found run following start n m
    → rewritten_by f zero Outside rest ≡ kept ++ (f run ++ rewritten_by f zero Outside following)
rewritten_found f rest kept found run following start n m (at, plain, front, back, count, is, after) =
    let le : start ≤ length rest = omega (arith, at.0) in
    let before = before_after Outside kept in
    let none : HasNoCandidate Outside kept found =
    subst (λ l. HasNoCandidate Outside kept l) (append-nil (drop n rest) ∙ sym back)
    (subst (λ l. HasNoCandidate Outside l (drop n rest ++ [])) (sym front) (found_plain Outside rest [] start n le plain (far rest start at.1 at.2 []))) in
    let begins : starts_candidate before found ≡ true =
    ap (starts_candidate before) back ∙ ap (λ l. starts_candidate (before_after Outside l) (drop n rest)) front ∙ found_candidate Outside rest start n le plain at.1 in
    let all : list_all is_run_byte run ≡ true = ap (list_all is_run_byte) (is ∙ ap (λ k. take k found) count) ∙ all_prefix found in
    let some : starts_candidate before run ≡ true = ap (starts_candidate before) (is ∙ ap (λ k. take k found) count) ∙ candidate_prefix before found begins in
    let stop : StartsOutsideRun following = subst StartsOutsideRun (sym (after ∙ ap (λ k. drop k found) count)) (run_stops found) in
    let whole : rest ≡ kept ++ found = sym (take-append-drop n rest) ∙ ap (λ l. l ++ drop n rest) (sym front) ∙ ap (λ l. kept ++ l) (sym back) in
    let parts : found ≡ run ++ following = sym (take-append-drop m found) ∙ ap (λ l. l ++ drop m found) (sym is) ∙ ap (λ l. run ++ l) (sym after) in
    ap (rewritten_by f zero Outside) whole
    ∙ rewritten_split f Outside kept found (cuts_plain Outside kept found none)
    ∙ ap (λ l. l ++ rewritten_by f zero before found) (rewritten_plain f Outside kept found none)
    ∙ ap (λ l. kept ++ l) (ap (rewritten_by f zero before) parts ∙ rewritten_split f before run following (λ p c e l a b. stop)
    ∙ ap (λ l. l ++ rewritten_by f zero (before_after before run) following) (rewritten_candidate f before run some all)
    ∙ ap (λ l. f run ++ l) (rewritten_outside f (before_after before run) Outside following stop))

-- a text in which no run starts is unchanged
pub rewritten_all : (f : List ℕ → List ℕ) (rest : List ℕ) → ((k : ℕ) → k < length rest → starts_run (drop k rest) ≡ false) → rewritten_by f zero Outside rest ≡ rest
rewritten_all f rest none =
    rewritten_plain f Outside rest [] (plain_of Outside rest [] (λ k lt. ap (λ l. starts_run (drop k l)) (append-nil rest) ∙ none k lt) (λ e. refl))

-- the pieces of a text that were put, and the rest of the text
abbrev pub Rewriting : {S : Type 0} → Ghosts S → (List ℕ → List ℕ) → List ℕ → S → S → List ℕ → Type 0
Rewriting sink f text old new rest = (done : List (List ℕ)) × PutsPieces sink old done (Ok tt) new × (rewritten_by f zero Outside text ≡ concat done ++ rewritten_by f zero Outside rest)

puts_ok : {S : Type 0} (sink : Ghosts S) (old new : S) (list : List (List ℕ)) (r : Result (Unit {0}) SinkRefused) → PutsPieces sink old list r new → IsOk r → PutsPieces sink old list (Ok tt) new
puts_ok sink old new list (Ok u) p ok = record { all = λ _. p.all refl; refused = λ e. absurd (false≢true e); fits = p.fits }
puts_ok sink old new list (Err e) p ok = absurd (false≢true ok)

-- the text before the run and the replacement of the candidate were put
pub rewriting_step : {S : Type 0} (sink : Ghosts S) (f : List ℕ → List ℕ) (text rest kept found run following : List ℕ) (start n m : ℕ) (old new mid end : S) (r r' : Result (Unit {0}) SinkRefused)
    → Rewriting sink f text old new rest → FoundCandidate rest kept found run following start n m
    → PutsPieces sink new (kept ∷ []) r mid → IsOk r → PutsText sink mid (f run) r' end → IsOk r' → Rewriting sink f text old end following
rewriting_step sink f text rest kept found run following start n m old new mid end r r' p w first ok second ok' = (
  p.0 ++ kept ∷ second.0,
  puts_then sink old new end p.0 (kept ∷ second.0) (Ok tt) (Ok tt) p.1 refl
      (puts_then sink new mid end (kept ∷ []) second.0 r (Ok tt) first ok (puts_ok sink mid end second.0 r' second.2 ok')),
  p.2 ∙ ap (λ l. concat p.0 ++ l) (rewritten_found f rest kept found run following start n m w
      ∙ ap (λ l. kept ++ (l ++ rewritten_by f zero Outside following)) (sym second.1)
      ∙ sym (append_assoc kept (concat second.0) (rewritten_by f zero Outside following)))
      ∙ sym (append_assoc (concat p.0) (kept ++ concat second.0) (rewritten_by f zero Outside following))
      ∙ ap (λ l. l ++ rewritten_by f zero Outside following) (sym (concat-append p.0 (kept ∷ second.0))),
)

-- pieces that join to the rest of the text, after those that were put
whole : {S : Type 0} (sink : Ghosts S) (f : List ℕ → List ℕ) (text rest : List ℕ) (old new : S) (p : Rewriting sink f text old new rest) (ps : List (List ℕ))
    → concat ps ≡ rewritten_by f zero Outside rest → concat (p.0 ++ ps) ≡ rewritten_by f zero Outside text
whole sink f text rest old new p ps e = concat-append p.0 ps ∙ ap (λ l. concat p.0 ++ l) e ∙ sym p.2

-- the text before the run was rejected
pub rewriting_kept : {S : Type 0} (sink : Ghosts S) (f : List ℕ → List ℕ) (text rest kept found run following : List ℕ) (start n m : ℕ) (old new end : S) (r result : Result (Unit {0}) SinkRefused)
    → Rewriting sink f text old new rest → FoundCandidate rest kept found run following start n m
    → PutsPieces sink new (kept ∷ []) r end → IsErr r → IsErr result → PutsText sink old (rewritten_by f zero Outside text) result end
rewriting_kept sink f text rest kept found run following start n m old new end r result p w first err err' =
    let later : List (List ℕ) = (f run ++ rewritten_by f zero Outside following) ∷ [] in (
      p.0 ++ kept ∷ later,
      whole sink f text rest old new p (kept ∷ later) (ap (λ l. kept ++ l) (append-nil _) ∙ sym (rewritten_found f rest kept found run following start n m w)),
      puts_then sink old new end p.0 (kept ∷ later) (Ok tt) result p.1 refl (puts_stop sink new end (kept ∷ []) later r result first err err'),
    )

-- the replacement of the candidate was rejected
pub rewriting_run : {S : Type 0} (sink : Ghosts S) (f : List ℕ → List ℕ) (text rest kept found run following : List ℕ) (start n m : ℕ) (old new mid end : S) (r r' result : Result (Unit {0}) SinkRefused)
    → Rewriting sink f text old new rest → FoundCandidate rest kept found run following start n m
    → PutsPieces sink new (kept ∷ []) r mid → IsOk r → PutsText sink mid (f run) r' end → IsErr r' → IsErr result
    → PutsText sink old (rewritten_by f zero Outside text) result end
rewriting_run sink f text rest kept found run following start n m old new mid end r r' result p w first ok second err err' =
    let later : List (List ℕ) = rewritten_by f zero Outside following ∷ [] in (
      p.0 ++ kept ∷ (second.0 ++ later),
      whole sink f text rest old new p (kept ∷ (second.0 ++ later))
          (ap (λ l. kept ++ l) (concat-append second.0 later ∙ ap (λ l. concat second.0 ++ l) (append-nil _) ∙ ap (λ l. l ++ rewritten_by f zero Outside following) second.1)
          ∙ sym (rewritten_found f rest kept found run following start n m w)),
      puts_then sink old new end p.0 (kept ∷ (second.0 ++ later)) (Ok tt) result p.1 refl
          (puts_then sink new mid end (kept ∷ []) (second.0 ++ later) r result first ok (puts_stop sink mid end second.0 later r' result second.2 err err')),
    )

-- the rest, if no run starts in it
pub rewriting_end : {S : Type 0} (sink : Ghosts S) (f : List ℕ → List ℕ) (text rest : List ℕ) (old new end : S) (result : Result (Unit {0}) SinkRefused)
    → Rewriting sink f text old new rest → ((k : ℕ) → k < length rest → starts_run (drop k rest) ≡ false)
    → PutsPieces sink new (rest ∷ []) result end → PutsText sink old (rewritten_by f zero Outside text) result end
rewriting_end sink f text rest old new end result p none last = (
  p.0 ++ rest ∷ [],
  whole sink f text rest old new p (rest ∷ []) (append-nil rest ∙ sym (rewritten_all f rest none)),
  puts_then sink old new end p.0 (rest ∷ []) (Ok tt) result p.1 refl last,
)

-- what the caller's memory has after the text was put
pub slice_writes : (old new : SliceSink) (list : List (List ℕ)) (result : Result (Unit {0}) SinkRefused) → PutsPieces ghosts old list result new → Writes ghosts old list result new
slice_writes old new list result h =
    puts_writes ghosts old new list result
    (λ s. (refl, refl, WrittenPart-nothing s.start s.out.now s.len))
    (λ s t u xs ys one two. (two.0 ∙ one.0, two.1 ∙ one.1, WrittenPart-joined _ _ _ _ _ _ _ _ xs ys one.1 one.2 two.2))
    h

-- what was put, as one text
pub slice_text : (old new : SliceSink) (text : List ℕ) (result : Result (Unit {0}) SinkRefused) → PutsText ghosts old text result new → OnOk result (ghosts.took old text new)
slice_text old new text (Ok u) p = subst (λ t. ghosts.took old t new) p.1 (slice_writes old new p.0 (Ok u) p.2).text
slice_text old new text (Err e) p = tt

pub slice_fits : (old new : SliceSink) (text : List ℕ) (result : Result (Unit {0}) SinkRefused) → PutsText ghosts old text result new → IsWithin (length text) (ghosts.room old) → IsOk result
slice_fits old new text result p within =
    (slice_writes old new p.0 result p.2).fits (subst (λ n. IsWithin n (ghosts.room old)) (sym (ap length p.1) ∙ length-concat p.0) within)
