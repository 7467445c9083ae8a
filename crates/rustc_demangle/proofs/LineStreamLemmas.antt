-- The stream, one line at a time.
use Rattle.std.proofs.Common.{zero, suc, eqb, ◌≡◌, ℕ, ◌<◌, Bool, cond, List, [], ◌∷◌, ◌++◌, All, IsUtf8, None, Some, IfSome, Ok, Err, true, false, length, take, get_or, refl, sym, ap, subst, ◌∙◌, arith, append_assoc, append-nil}
use Rattle.std.specs.Bool.{⊤}
use Rattle.std.proofs.lemmas.List.Elements.{All-append, All-nil, All-cons}
use Rattle.std.proofs.lemmas.List.Concat.{flat_map-append}
use Rattle.std.proofs.Math.Seq.{take-append_seam, get_or-append_seam}
use Rattle.std.proofs.lemmas.Option.{MatchOption-at_some}
use Rattle.std.specs.declared.option.Option.{Option}
use Rattle.std.specs.declared.io.Error.{Error}
use Rattle.std.specs.declared.io.ErrorKind.TheVariants.{OutOfMemory}
use Rattle.std.specs.IoError.{error_kind}
use Rattle.std.specs.Io.KnownBytes.{Appends}
use Rattle.std.specs.Io.BufRead.{take_through, drop_through, DropsThrough}
use Rattle.std.proofs.KnownBytes.{Appends-trans, Appends-nil}
use Rattle.std.proofs.BufReadLemmas.{take_through_nonempty}
use Rattle.demangle_value.specs.Filtered.{filtered}
use Rattle.rustc_demangle.specs.Lines.{lines}
use Rattle.rustc_demangle.specs.LineStream.{output_of, WroteLines, Finished, StreamStopped, LineCopied, IsReaderFault}
use Rattle.rustc_demangle.specs.declared.stream.fault.StreamFault.{StreamFault}
use Rattle.rustc_demangle.specs.declared.stream.fault.StreamFault.TheVariants.{Read, NotUtf8, Write, Memory}
use Rattle.rustc_demangle.proofs.LineDivision.{lines_step, utf8_by_lines}

-- the lines that were written, and the rest of the input
abbrev pub Streaming : Bool → Option (List ℕ) → Option (List ℕ) → Option (List ℕ) → Option (List ℕ) → Type 0
Streaming h held left old new = IfSome held (λ text. (done : List (List ℕ)) × (rest : List ℕ) × (left ≡ Some rest)
    × (lines text ≡ done ++ lines rest) × All IsUtf8 done × Appends old new (output_of h done))

pub streaming_init : (h : Bool) (held old : Option (List ℕ)) → Streaming h held held old old
streaming_init h None old = tt
streaming_init h (Some text) old = ([], text, refl, refl, All-nil IsUtf8, Appends-nil old)

output_more : (h : Bool) (done : List (List ℕ)) (line : List ℕ) → output_of h (done ++ line ∷ []) ≡ output_of h done ++ filtered h line
output_more h done line =
    flat_map-append (filtered h) done (line ∷ []) ∙ ap (λ l. output_of h done ++ l) (append-nil (filtered h line))

step : (h : Bool) (held left next old mid new : Option (List ℕ)) → Streaming h held left old mid
    → LineCopied (Ok true) h left next mid new → Streaming h held next old new
step h None left next old mid new p copied = tt
step h (Some text) left next old mid new p copied =
    let line = take_through 10 p.1 in
    let read = MatchOption-at_some ⊤ (λ xs. (0 < length xs) × IsUtf8 (take_through 10 xs)
    × Appends mid new (filtered h (take_through 10 xs))) p.1 p.2 copied.1 in (
      p.0 ++ line ∷ [],
      drop_through 10 p.1,
      MatchOption-at_some ⊤ (λ xs. next ≡ Some (drop_through 10 xs)) p.1 p.2 copied.0,
      p.3 ∙ ap (λ l. p.0 ++ l) (lines_step p.1 read.0) ∙ sym (append_assoc p.0 (line ∷ []) _),
      All-append IsUtf8 p.0 (line ∷ []) p.4 (All-cons IsUtf8 line [] read.1 (All-nil IsUtf8)),
      subst (Appends old new) (sym (output_more h p.0 line)) (Appends-trans old mid new _ _ p.5 read.2),
    )

pub streaming_step : (h b : Bool) (held left next old mid new : Option (List ℕ)) → Streaming h held left old mid
    → LineCopied (Ok b) h left next mid new → b ≡ true → Streaming h held next old new
streaming_step h b held left next old mid new p copied is =
    step h held left next old mid new p (subst (λ t. LineCopied (Ok t) h left next mid new) is copied)

end : (h : Bool) (held left next old mid new : Option (List ℕ)) → Streaming h held left old mid
    → LineCopied (Ok false) h left next mid new
    → IfSome held (λ text. Finished text h next old new)
unfolding lines
end h None left next old mid new p last = tt
end h (Some text) left next old mid new p last =
    let none = MatchOption-at_some ⊤ (λ xs. (xs ≡ []) × (next ≡ Some [])) p.1 p.2 last.0 in
    let all : p.0 ≡ lines text = sym (p.3 ∙ ap (λ l. p.0 ++ lines l) none.0 ∙ append-nil p.0) in
    record {
      utf8 = utf8_by_lines text (subst (All IsUtf8) all p.4);
      wrote = subst (λ o. Appends old o (output_of h (lines text))) (sym last.1) (subst (λ l. Appends old mid (output_of h l)) all p.5);
      at_end = none.1;
    }

pub streaming_end : (h b : Bool) (held left next old mid new : Option (List ℕ)) → Streaming h held left old mid
    → LineCopied (Ok b) h left next mid new → b ≡ false → IfSome held (λ text. Finished text h next old new)
streaming_end h b held left next old mid new p copied is =
    end h held left next old mid new p (subst (λ t. LineCopied (Ok t) h left next mid new) is copied)

-- the lines that were written, if nothing more was
written : (h : Bool) (text : List ℕ) (left old mid new : Option (List ℕ)) → Streaming h (Some text) left old mid → new ≡ mid
    → (k : ℕ) × WroteLines text h old new k
written h text left old mid new p same =
    let all : p.0 ≡ take (length p.0) (lines text) = sym (ap (take (length p.0)) p.3 ∙ take-append_seam p.0 (lines p.1)) in (
      length p.0,
      record {
        utf8 = subst (All IsUtf8) all p.4;
        wrote = subst (λ o. Appends old o (output_of h (take (length p.0) (lines text)))) (sym same) (subst (λ l. Appends old mid (output_of h l)) all p.5);
      },
    )

stop_read : (e : Error) (h : Bool) (held left old mid new : Option (List ℕ)) → Streaming h held left old mid → (error_kind e ≡ OutOfMemory → ⊥) → new ≡ mid
    → IfSome held (λ text. StreamStopped (Read e) text h old new)
stop_read e h None left old mid new p kind same = tt
stop_read e h (Some text) left old mid new p kind same = let w = written h text left old mid new p same in (kind, w.0, w.1)

stop_memory : (h : Bool) (held left old mid new : Option (List ℕ)) → Streaming h held left old mid → new ≡ mid
    → IfSome held (λ text. StreamStopped Memory text h old new)
stop_memory h None left old mid new p same = tt
stop_memory h (Some text) left old mid new p same = written h text left old mid new p same

stop_text : (h : Bool) (held left next old mid new : Option (List ℕ)) → Streaming h held left old mid
    → LineCopied (Err NotUtf8) h left next mid new → IfSome held (λ text. StreamStopped NotUtf8 text h old new)
unfolding written
stop_text h None left next old mid new p refused = tt
stop_text h (Some text) left next old mid new p refused =
    let bad = MatchOption-at_some ⊤ (λ xs. (0 < length xs) × (IsUtf8 (take_through 10 xs) → ⊥)) p.1 p.2 refused.0 in
    let stop = written h text left old mid new p refused.1 in
    let at : get_or (lines text) (length p.0) [] ≡ take_through 10 p.1 =
    ap (λ l. get_or l (length p.0) []) (p.3 ∙ ap (λ l. p.0 ++ l) (lines_step p.1 bad.0)) ∙ get_or-append_seam p.0 (take_through 10 p.1) (lines (drop_through 10 p.1)) [] in
    (stop.0, stop.1, λ good. bad.1 (subst IsUtf8 at good))

-- if the stream stops
pub streaming_err : (fault : StreamFault) (h : Bool) (held left next old mid new : Option (List ℕ)) → Streaming h held left old mid
    → LineCopied (Err fault) h left next mid new → IfSome held (λ text. StreamStopped fault text h old new)
streaming_err (Read e) h held left next old mid new p stop = stop_read e h held left old mid new p stop.0 stop.1
streaming_err NotUtf8 h held left next old mid new p stop = stop_text h held left next old mid new p stop
streaming_err (Write e) h None left next old mid new p stop = tt
streaming_err (Write e) h (Some text) left next old mid new p stop = tt
streaming_err Memory h held left next old mid new p stop = stop_memory h held left old mid new p stop

-- if there are too many lines, for the writer after the branches join
pub streaming_full : {W : Type 0} (contents : W → Option (List ℕ)) (e : Error) (h : Bool) (held left : Option (List ℕ)) (old new next : W)
    → Streaming h held left (contents old) (contents new) → (error_kind e ≡ OutOfMemory → ⊥) → next ≡ new
    → IfSome held (λ text. StreamStopped (Read e) text h (contents old) (contents next))
streaming_full contents e h held left old new next p kind same =
    stop_read e h held left (contents old) (contents new) (contents next) p kind (ap contents same)

-- a read into an empty buffer read the line
taken : (rest before after bytes : List ℕ) → after ≡ before ++ take_through 10 rest → before ≡ [] → bytes ≡ after → bytes ≡ take_through 10 rest
taken rest before after bytes read none same = same ∙ read ∙ ap (λ l. l ++ take_through 10 rest) none

pub line_refused : (left : Option (List ℕ)) (before after bytes : List ℕ) → IfSome left (λ xs. after ≡ before ++ take_through 10 xs) → before ≡ []
    → bytes ≡ after → 0 < length after → (IsUtf8 bytes → ⊥) → IfSome left (λ text. (0 < length text) × (IsUtf8 (take_through 10 text) → ⊥))
line_refused None before after bytes read none same some bad = tt
line_refused (Some rest) before after bytes read none same some bad =
    let e = taken rest before after bytes read none same in
    (take_through_nonempty 10 rest (subst (λ l. 0 < length l) (sym same ∙ e) some), λ good. bad (subst IsUtf8 (sym e) good))

pub line_copied : (h : Bool) (left old new : Option (List ℕ)) (before after bytes text : List ℕ) → IfSome left (λ xs. after ≡ before ++ take_through 10 xs) → before ≡ []
    → bytes ≡ after → text ≡ bytes → 0 < length after → IsUtf8 bytes → Appends old new (filtered h text)
    → IfSome left (λ text. (0 < length text) × IsUtf8 (take_through 10 text) × Appends old new (filtered h (take_through 10 text)))
line_copied h None old new before after bytes text read none same available some good wrote = tt
line_copied h (Some rest) old new before after bytes text read none same available some good wrote =
    let e = taken rest before after bytes read none same in (
      take_through_nonempty 10 rest (subst (λ l. 0 < length l) (sym same ∙ e) some),
      subst IsUtf8 e good,
      subst (λ l. Appends old new (filtered h l)) (available ∙ e) wrote,
    )

-- no line was read
pub line_unread : (fault : StreamFault) (h : Bool) (left next old : Option (List ℕ)) → IsReaderFault fault → LineCopied (Err fault) h left next old old
line_unread (Read e) h left next old is = (is, refl)
line_unread NotUtf8 h left next old is = absurd is
line_unread (Write e) h left next old is = absurd is
line_unread Memory h left next old is = refl

-- the items of a vector, by `is_empty`
pub some_items : (n : ℕ) (xs : List ℕ) → false ≡ (eqb n 0) → n ≡ length xs → 0 < length xs
some_items zero xs h e = absurd (grind (arith, h))
some_items (suc n) xs h e = omega (arith, e)

-- a read that returned no byte was at the end
none_taken : (rest : List ℕ) → take_through 10 rest ≡ [] → rest ≡ []
none_taken [] e = refl
none_taken (b ∷ bs) e = at (eqb b 10) e
  where
    at : (t : Bool) → cond t (b ∷ []) (b ∷ take_through 10 bs) ≡ [] → (b ∷ bs) ≡ []
    at true e = cc
    at false e = cc

no_items : (n : ℕ) (xs : List ℕ) → true ≡ (eqb n 0) → n ≡ length xs → xs ≡ []
no_items zero [] h e = refl
no_items zero (x ∷ xs) h e = absurd (omega (arith, e))
no_items (suc n) xs h e = absurd (grind (arith, h))

pub line_ended : (left next : Option (List ℕ)) (n : ℕ) (before after : List ℕ) → IfSome left (λ xs. after ≡ before ++ take_through 10 xs) → DropsThrough left next 10
    → before ≡ [] → true ≡ (eqb n 0) → n ≡ length after → IfSome left (λ text. (text ≡ []) × (next ≡ Some []))
line_ended None next n before after read rest none is count = tt
line_ended (Some xs) next n before after read rest none is count =
    let e : xs ≡ [] = none_taken xs (sym (taken xs before after after read none refl) ∙ no_items n after is count) in
    (e, rest ∙ ap (λ l. Some (drop_through 10 l)) e)
