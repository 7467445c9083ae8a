-- The pieces of a text, in the order in which they are put into a sink.
use Rattle.std.proofs.Common.{◌≡◌, ℕ, zero, suc, ◌+◌, ◌<◌, ◌≤◌, Bool, true, false, cond, List, [], ◌∷◌, ◌++◌, length, take, drop, Option, None, Some, Result, Ok, Err, IsOk, IsErr, refl, sym, ap, subst, ◌∙◌, arith, append_assoc, append-nil}
use Rattle.std.specs.List.{concat, prefix_len, take_while}
use Rattle.std.specs.Option.{option_map_or}
use Rattle.std.proofs.lemmas.Bool.{false≢true}
use Rattle.std.proofs.lemmas.List.Folds.{concat-append}
use Rattle.demangle_sink.specs.declared.TextSink.{Ghosts}
use Rattle.demangle_sink.specs.declared.SinkRefused.{SinkRefused}
use Rattle.demangle_sink.specs.PutsPieces.{PutsPieces}
use Rattle.demangle_sink.proofs.PutsPiecesLemmas.{puts_nothing, puts_then, puts_stop}
use Rattle.demangle_value.specs.Stripped.{stripped}
use Rattle.demangle_value.specs.Symbols.{IsSymbol, form_in, pieces_in, handed_in, unfolded}
use Rattle.demangle_value.specs.declared.format.Format.{Format}
use Rattle.rustc_demangle.specs.Lines.{onto_first}
use Rattle.demangle_value.specs.Filtered.{by_runs, is_run_byte, starts_run, replacement_in, filtered_by, filtered_in, filtered_within}
use Rattle.rustc_demangle.specs.TextPieces.{run_pieces, filtered_pieces_from, filtered_pieces_in, filtered_pieces}
use Rattle.demangle_value.proofs.SymbolLemmas.{pieces-symbol, symbol-pieces}
use Rattle.demangle_value.proofs.RunLemmas.{turn, first_of_run, run_some}

-- skipped bytes are omitted
pieces_skip : (format : Format) (n : ℕ) (s : List ℕ) → filtered_pieces_from format n s ≡ filtered_pieces_in format (drop n s)
unfolding by_runs
pieces_skip format zero [] = refl
pieces_skip format (suc n) [] = refl
pieces_skip format zero (c ∷ s) = refl
pieces_skip format (suc n) (c ∷ s) = pieces_skip format n s

-- one iteration, by whether a run starts
abbrev pieces_turn : Format → ℕ → List ℕ → Bool → List (List ℕ)
pieces_turn format c s b = elim b [
  | true ↦ [] ∷ (run_pieces format (c ∷ take_while is_run_byte s) ++ filtered_pieces_from format (prefix_len is_run_byte s) s)
  | false ↦ onto_first c (filtered_pieces_from format zero s)
]

-- if no run starts, the character is unchanged
pieces_other : (format : Format) (c : ℕ) (s : List ℕ) → starts_run (c ∷ s) ≡ false → filtered_pieces_in format (c ∷ s) ≡ onto_first c (filtered_pieces_in format s)
unfolding by_runs
pieces_other format c s none = ap (pieces_turn format c s) none

-- if a run starts, the text before it is empty
pieces_run : (format : Format) (s : List ℕ) → starts_run s ≡ true
    → filtered_pieces_in format s ≡ [] ∷ (run_pieces format (take (prefix_len is_run_byte s) s) ++ filtered_pieces_in format (drop (prefix_len is_run_byte s) s))
unfolding by_runs
pieces_run format [] some = absurd (omega (arith, (run_some [] some).0))
pieces_run format (c ∷ s) some =
    let first : c ≡ 95 = first_of_run (c ∷ s) some in
    let count : prefix_len is_run_byte (c ∷ s) ≡ suc (prefix_len is_run_byte s) = ap (λ b. cond b (1 + prefix_len is_run_byte s) 0) (ap is_run_byte first) ∙ omega arith in
    ap (pieces_turn format c s) some
    ∙ ap (λ ps. [] ∷ (run_pieces format (c ∷ take_while is_run_byte s) ++ ps)) (pieces_skip format (prefix_len is_run_byte s) s)
    ∙ ap (λ n. [] ∷ (run_pieces format (take n (c ∷ s)) ++ filtered_pieces_in format (drop n (c ∷ s)))) (sym count)

-- if the next run starts at a place, the text before that place is the first piece
pieces_kept : (format : Format) (n : ℕ) (s : List ℕ) → n ≤ length s → ((k : ℕ) → k < n → starts_run (drop k s) ≡ false) → starts_run (drop n s) ≡ true
    → filtered_pieces_in format s ≡ take n s ∷ (run_pieces format (take (prefix_len is_run_byte (drop n s)) (drop n s)) ++ filtered_pieces_in format (drop (prefix_len is_run_byte (drop n s)) (drop n s)))
pieces_kept format zero s le none some = pieces_run format s some
pieces_kept format (suc n) [] le none some = absurd (omega (arith, le))
pieces_kept format (suc n) (c ∷ s) le none some =
    pieces_other format c s (none 0 (omega arith))
    ∙ ap (onto_first c) (pieces_kept format n s (omega (arith, le)) (λ k lt. none (suc k) (omega (arith, lt))) some)

-- a text in which no run starts is one piece
pieces_all : (format : Format) (s : List ℕ) → ((k : ℕ) → k < length s → starts_run (drop k s) ≡ false) → filtered_pieces_in format s ≡ s ∷ []
unfolding by_runs
pieces_all format [] none = refl
pieces_all format (c ∷ s) none =
    pieces_other format c s (none 0 (omega arith)) ∙ ap (onto_first c) (pieces_all format s (λ k lt. none (suc k) (omega (arith, lt))))

-- the pieces of a run that is a symbol are those of the symbol
pub run_pieces-symbol : (format : Format) (run : List ℕ) → IsSymbol (stripped run) → handed_in (stripped run) format ≡ run_pieces format run
run_pieces-symbol format run symbol =
    sym (ap (λ read. option_map_or (λ (_ : List (List ℕ) × List ℕ). handed_in (stripped run) format) read (run ∷ [])) (pieces-symbol (form_in format (stripped run)) (stripped run) symbol).1)

-- any other run is its own piece
pub run_pieces-no_symbol : (format : Format) (run : List ℕ) → (IsSymbol (stripped run) → ⊥) → run ∷ [] ≡ run_pieces format run
run_pieces-no_symbol format run none = at (pieces_in (form_in format (stripped run)) (stripped run)) refl
  where
    at : (read : Option (List (List ℕ) × List ℕ)) → pieces_in (form_in format (stripped run)) (stripped run) ≡ read → run ∷ [] ≡ option_map_or (λ _. handed_in (stripped run) format) read (run ∷ [])
    at None e = refl
    at (Some read) e = absurd (none (symbol-pieces (form_in format (stripped run)) (stripped run) read e))

-- the replacement of a run is its pieces, joined
pub concat-run : (format : Format) (run : List ℕ) → concat (run_pieces format run) ≡ replacement_in format run
concat-run format run = at (pieces_in (form_in format (stripped run)) (stripped run))
  where
    at : (read : Option (List (List ℕ) × List ℕ)) → concat (option_map_or (λ _. handed_in (stripped run) format) read (run ∷ [])) ≡ option_map_or (λ _. concat (handed_in (stripped run) format)) read run
    at None = append-nil run
    at (Some read) = refl

concat-onto : (c : ℕ) (ps : List (List ℕ)) → concat (onto_first c ps) ≡ c ∷ concat ps
concat-onto c [] = refl
concat-onto c (p ∷ ps) = refl

join_from : (format : Format) (k : ℕ) (s : List ℕ) → concat (filtered_pieces_from format k s) ≡ filtered_by (replacement_in format) k s
unfolding by_runs
join_from format zero [] = refl
join_from format (suc k) [] = refl
join_from format (suc k) (c ∷ s) = join_from format k s
join_from format zero (c ∷ s) = at (λ k. join_from format k s) (starts_run (c ∷ s))
  where
    at : ((k : ℕ) → concat (filtered_pieces_from format k s) ≡ filtered_by (replacement_in format) k s) → (b : Bool) → concat (pieces_turn format c s b) ≡ turn (replacement_in format) c s b
    at ih true =
        let run = c ∷ take_while is_run_byte s in
        concat-append (run_pieces format run) (filtered_pieces_from format (prefix_len is_run_byte s) s)
        ∙ ap (λ t. t ++ concat (filtered_pieces_from format (prefix_len is_run_byte s) s)) (concat-run format run)
        ∙ ap (λ t. replacement_in format run ++ t) (ih (prefix_len is_run_byte s))
    at ih false = concat-onto c (filtered_pieces_from format zero s) ∙ ap (λ t. c ∷ t) (ih zero)

-- the pieces join to the filtered text
pub pieces_join_in : (format : Format) (text : List ℕ) → concat (filtered_pieces_in format text) ≡ filtered_in format text
pieces_join_in format text = join_from format zero text

pub pieces_join : (h : Bool) (l : ℕ) (text : List ℕ) → concat (filtered_pieces h l text) ≡ filtered_within h l text
pieces_join h l text = pieces_join_in (unfolded h l) text

-- the pieces of a text that were put, and the rest of the text
abbrev pub Feeding : {S : Type 0} → Ghosts S → Format → List ℕ → S → S → List ℕ → Type 0
Feeding sink format text old new rest = (done : List (List ℕ)) × PutsPieces sink old done (Ok tt) new × (filtered_pieces_in format text ≡ done ++ filtered_pieces_in format rest)

pub feeding_init : {S : Type 0} (sink : Ghosts S) (format : Format) (text : List ℕ) (old : S) → sink.failed old ≡ false → Feeding sink format text old old text
feeding_init sink format text old not_failed = ([], puts_nothing sink old not_failed, refl)

-- a run that was found, and the text before it, by the values of the code
abbrev pub Found : List ℕ → List ℕ → List ℕ → List ℕ → List ℕ → List ℕ → List ℕ → ℕ → ℕ → Type 0
Found rest bytes kept found bytes' run following n m = (bytes ≡ rest)
    × ((n < length bytes) × (starts_run (drop n bytes) ≡ true) × ((k : ℕ) → k < n → starts_run (drop k bytes) ≡ false))
    × (kept ≡ take n rest) × (found ≡ drop n rest) × (bytes' ≡ found) × (m ≡ prefix_len is_run_byte bytes') × (run ≡ take m found) × (following ≡ drop m found)

pieces_found : (format : Format) (rest bytes kept found bytes' run following : List ℕ) (n m : ℕ) → Found rest bytes kept found bytes' run following n m
    → filtered_pieces_in format rest ≡ kept ∷ (run_pieces format run ++ filtered_pieces_in format following)
pieces_found format rest bytes kept found bytes' run following n m f =
    let start = subst (λ s. (n < length s) × (starts_run (drop n s) ≡ true) × ((k : ℕ) → k < n → starts_run (drop k s) ≡ false)) f.0 f.1 in
    let count : m ≡ prefix_len is_run_byte (drop n rest) = f.5 ∙ ap (prefix_len is_run_byte) (f.4 ∙ f.3) in
    pieces_kept format n rest (omega (arith, start.0)) start.2 start.1
    ∙ ap (λ j. take n rest ∷ (run_pieces format (take j (drop n rest)) ++ filtered_pieces_in format (drop j (drop n rest)))) (sym count)
    ∙ ap (λ s. take n rest ∷ (run_pieces format (take m s) ++ filtered_pieces_in format (drop m s))) (sym f.3)
    ∙ ap (λ s. s ∷ (run_pieces format (take m found) ++ filtered_pieces_in format (drop m found))) (sym f.2)
    ∙ ap (λ s. kept ∷ (run_pieces format s ++ filtered_pieces_in format (drop m found))) (sym f.6)
    ∙ ap (λ s. kept ∷ (run_pieces format run ++ filtered_pieces_in format s)) (sym f.7)

puts_ok : {S : Type 0} (sink : Ghosts S) (old new : S) (list : List (List ℕ)) (r : Result (Unit {0}) SinkRefused) → PutsPieces sink old list r new → IsOk r → PutsPieces sink old list (Ok tt) new
puts_ok sink old new list (Ok u) p ok = record { all = λ _. p.all refl; refused = λ e. absurd (false≢true e); fits = p.fits }
puts_ok sink old new list (Err e) p ok = absurd (false≢true ok)

-- the plain text and the replacement of the run after it were put
pub feeding_step : {S : Type 0} (sink : Ghosts S) (format : Format) (text rest bytes kept found bytes' run following : List ℕ) (n m : ℕ) (old new mid end : S) (r r' : Result (Unit {0}) SinkRefused)
    → Feeding sink format text old new rest → Found rest bytes kept found bytes' run following n m
    → PutsPieces sink new (kept ∷ []) r mid → IsOk r → PutsPieces sink mid (run_pieces format run) r' end → IsOk r' → Feeding sink format text old end following
feeding_step sink format text rest bytes kept found bytes' run following n m old new mid end r r' p f first ok second ok' = (
  p.0 ++ kept ∷ run_pieces format run,
  puts_then sink old new end p.0 (kept ∷ run_pieces format run) (Ok tt) (Ok tt) p.1 refl
      (puts_then sink new mid end (kept ∷ []) (run_pieces format run) r (Ok tt) first ok (puts_ok sink mid end (run_pieces format run) r' second ok')),
  p.2 ∙ ap (λ ps. p.0 ++ ps) (pieces_found format rest bytes kept found bytes' run following n m f)
      ∙ sym (append_assoc p.0 (kept ∷ run_pieces format run) (filtered_pieces_in format following)),
)

whole : {S : Type 0} (sink : Ghosts S) (format : Format) (text rest : List ℕ) (old new : S) (p : Feeding sink format text old new rest) (ps : List (List ℕ))
    → filtered_pieces_in format rest ≡ ps → p.0 ++ ps ≡ filtered_pieces_in format text
whole sink format text rest old new p ps e = sym (p.2 ∙ ap (λ qs. p.0 ++ qs) e)

-- the plain text was rejected
pub feeding_kept : {S : Type 0} (sink : Ghosts S) (format : Format) (text rest bytes kept found bytes' run following : List ℕ) (n m : ℕ) (old new end : S) (r result : Result (Unit {0}) SinkRefused)
    → Feeding sink format text old new rest → Found rest bytes kept found bytes' run following n m
    → PutsPieces sink new (kept ∷ []) r end → IsErr r → IsErr result → PutsPieces sink old (filtered_pieces_in format text) result end
feeding_kept sink format text rest bytes kept found bytes' run following n m old new end r result p f first err err' =
    let following' = run_pieces format run ++ filtered_pieces_in format following in
    subst (λ ps. PutsPieces sink old ps result end)
    (whole sink format text rest old new p (kept ∷ following') (pieces_found format rest bytes kept found bytes' run following n m f))
    (puts_then sink old new end p.0 (kept ∷ following') (Ok tt) result p.1 refl (puts_stop sink new end (kept ∷ []) following' r result first err err'))

-- the replacement of the run was rejected
pub feeding_run : {S : Type 0} (sink : Ghosts S) (format : Format) (text rest bytes kept found bytes' run following : List ℕ) (n m : ℕ) (old new mid end : S) (r r' result : Result (Unit {0}) SinkRefused)
    → Feeding sink format text old new rest → Found rest bytes kept found bytes' run following n m
    → PutsPieces sink new (kept ∷ []) r mid → IsOk r → PutsPieces sink mid (run_pieces format run) r' end → IsErr r' → IsErr result
    → PutsPieces sink old (filtered_pieces_in format text) result end
feeding_run sink format text rest bytes kept found bytes' run following n m old new mid end r r' result p f first ok second err err' =
    let following' = run_pieces format run ++ filtered_pieces_in format following in
    subst (λ ps. PutsPieces sink old ps result end)
    (whole sink format text rest old new p (kept ∷ following') (pieces_found format rest bytes kept found bytes' run following n m f))
    (puts_then sink old new end p.0 (kept ∷ following') (Ok tt) result p.1 refl
    (puts_then sink new mid end (kept ∷ []) following' r result first ok (puts_stop sink mid end (run_pieces format run) (filtered_pieces_in format following) r' result second err err')))

-- the rest, if no run starts in it
pub feeding_end : {S : Type 0} (sink : Ghosts S) (format : Format) (text rest bytes : List ℕ) (old new end : S) (result : Result (Unit {0}) SinkRefused)
    → Feeding sink format text old new rest → bytes ≡ rest → ((k : ℕ) → k < length bytes → starts_run (drop k bytes) ≡ false)
    → PutsPieces sink new (rest ∷ []) result end → PutsPieces sink old (filtered_pieces_in format text) result end
feeding_end sink format text rest bytes old new end result p b none last =
    subst (λ ps. PutsPieces sink old ps result end)
    (whole sink format text rest old new p (rest ∷ []) (pieces_all format rest (subst (λ s. (k : ℕ) → k < length s → starts_run (drop k s) ≡ false) b none)))
    (puts_then sink old new end p.0 (rest ∷ []) (Ok tt) result p.1 refl last)
