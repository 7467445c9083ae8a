-- The line feeds of texts that are printed and written.
use Rattle.std.proofs.Common.{◌≡◌, ℕ, zero, suc, ◌+◌, ◌-◌, ◌≤◌, ◌⊎◌, inl, inr, not, ◌&&◌, Bool, true, false, eqb, cond, List, [], ◌∷◌, ◌++◌, length, take, drop, Option, None, Some, refl, sym, ap, ◌∙◌, arith, codes, nat_eq, bytes_eq, nat_le, append-nil, option_map, option_and_then}
use Rattle.std.specs.List.{concat, prefix_len, take_while, list_all, starts_with, position}
use Rattle.std.specs.Option.{option_map_or}
use Rattle.std.proofs.lemmas.List.{take-append-drop}
use Rattle.std.proofs.lemmas.Bool.Decides.{leb_tells}
use Rattle.std.proofs.lemmas.Bool.{true≢false}
use Rattle.std.specs.Char.{encode_utf8, is_control}
use Rattle.demangle_symbol.specs.Digits.{number}
use lib.Utf8.{scalar as is_scalar}
use Rattle.demangle_value.specs.Stripped.{stripped, is_thin_lto}
use Rattle.demangle_value.specs.Limits.{most_bytes}
use Rattle.demangle_value.specs.Symbols.{IsSymbol, pieces_in, form_in, limit_in, handed_in, unfolded}
use Rattle.demangle_value.specs.declared.format.Format.{Format}
use Rattle.demangle_value.specs.Filtered.{by_runs, is_run_byte, starts_run, replacement_in, filtered_by, filtered}
use Rattle.rustc_demangle.specs.LineStream.{output_of}
use Rattle.demangle_laws.proofs.FilterLaws.{run_all}
use Rattle.rustc_demangle.proofs.LineDivision.{lines_join}
use Rattle.demangle_value.proofs.RunLemmas.{turn, first_of_run}
use Rattle.demangle_legacy.proofs.LegacyLaws.{legacy_spelled}
use Rattle.demangle_value.proofs.SymbolLemmas.{symbol-pieces, pieces-legacy, pieces-v0}
use Rattle.demangle_v0_grammar.proofs.V0Reading.{v0_is_read}
use Rattle.demangle_laws.proofs.V0LineFeeds.{line_feeds-rendered}
use Rattle.demangle_v0_grammar.specs.References.{Move, says, follows, ends, bytes_after, texts_before, path_moves}
use Rattle.demangle_v0_grammar.proofs.ReferenceLaw.{unlimited_texts}
use Rattle.demangle_value.specs.Shape.{LimitedForm, texts_within, is_all, marked_unless, path_pieces}
use Rattle.demangle_sink.specs.Cut.{size, prefix_within, cut, marker}
use Rattle.rustc_demangle.specs.Lines.{lines, line_feeds}
use Rattle.demangle_legacy.specs.Legacy.{IsElements, IsLegacy}
use Rattle.demangle_legacy.specs.Unescaped.{escape_of_code, escape_of_digits, escape_of, lower_hex, leading_unit, pieces_from, unescaped, is_hash, printed_elements, following_pieces, joined_pieces, legacy_pieces, is_lower_hex, is_dollar, is_special}
use Rattle.demangle_laws.proofs.LineFeeds.{line_feeds-append, line_feeds-concat, line_feeds-cons, line_feeds-drop, line_feeds-other, line_feeds-character}

cases : (b : Bool) → (b ≡ true) ⊎ (b ≡ false)
cases true = inl refl
cases false = inr refl

-- the pieces that fit, and those that are cut
line_feeds-fitting : (pieces : List (List ℕ)) (limit : ℕ) → line_feeds (concat (prefix_within pieces limit)) ≤ line_feeds (concat pieces)
line_feeds-fitting [] limit = omega arith
line_feeds-fitting (piece ∷ pieces) limit = elim (leb_tells (length piece) limit) [
  | inl e ↦ rw (e.0) (omega (arith, line_feeds-fitting pieces (limit - length piece), line_feeds-cons piece pieces, line_feeds-cons piece (prefix_within pieces (limit - length piece))))
  | inr e ↦ rw (e.0) (omega arith)
]

line_feeds-cut : (pieces : List (List ℕ)) (limit : ℕ) → line_feeds (concat (cut pieces limit)) ≤ line_feeds (concat pieces)
line_feeds-cut pieces limit = elim (leb_tells (size pieces) limit) [
  | inl e ↦ rw (e.0) (omega arith)
  | inr e ↦ rw (e.0) (omega (arith, line_feeds-fitting pieces limit, line_feeds-concat (prefix_within pieces limit) (marker ∷ [])))
]

-- a character that is not a control character is not a line feed
line_feeds-encode : (c : ℕ) → is_control c ≡ false → line_feeds (encode_utf8 c) ≡ 0
line_feeds-encode c no_control = line_feeds-character c (λ same. true≢false (ap is_control (sym same) ∙ no_control))

-- the text in an option, or the empty text
in_text : Option (List ℕ) → List ℕ
in_text None = []
in_text (Some text) = text

none≢some : {x : List ℕ} → None ≡ Some x → ⊥
none≢some e = cc

-- a choice of texts without line feeds
pick : (b : Bool) (one : List ℕ) (rest : Option (List ℕ)) (text : List ℕ) → line_feeds one ≡ 0 → (rest ≡ Some text → line_feeds text ≡ 0)
    → cond b (Some one) rest ≡ Some text → line_feeds text ≡ 0
unfolding in_text
pick true one rest text none more e = ap (λ o. line_feeds (in_text o)) (sym e) ∙ none
pick false one rest text none more e = more e

line_feeds-code : (c : ℕ) (text : List ℕ) → escape_of_code c ≡ Some text → line_feeds text ≡ 0
line_feeds-code c text e = at (is_scalar c) (is_control c) refl e
  where
    at : (b control : Bool) → is_control c ≡ control → cond (b && not control) (Some (encode_utf8 c)) None ≡ Some text → line_feeds text ≡ 0
    at true false is e = pick true (encode_utf8 c) None text (line_feeds-encode c is) (λ f. absurd (none≢some f)) e
    at true true is e = absurd (none≢some e)
    at false control is e = absurd (none≢some e)

line_feeds-digits : (digits text : List ℕ) → escape_of_digits digits ≡ Some text → line_feeds text ≡ 0
unfolding escape_of_digits
line_feeds-digits [] text e = absurd (none≢some e)
line_feeds-digits (d ∷ ds) text e = at (list_all is_lower_hex (d ∷ ds)) e
  where
    at : (b : Bool) → cond b (escape_of_code (number 16 lower_hex (d ∷ ds))) None ≡ Some text → line_feeds text ≡ 0
    at true e = line_feeds-code (number 16 lower_hex (d ∷ ds)) text e
    at false e = absurd (none≢some e)

line_feeds-escape : (name text : List ℕ) → escape_of name ≡ Some text → line_feeds text ≡ 0
unfolding escape_of
line_feeds-escape name text e =
    pick (bytes_eq name (codes "SP")) (codes "@") _ text refl
    (pick (bytes_eq name (codes "BP")) (codes "*") _ text refl
    (pick (bytes_eq name (codes "RF")) (codes "&") _ text refl
    (pick (bytes_eq name (codes "LT")) (codes "<") _ text refl
    (pick (bytes_eq name (codes "GT")) (codes ">") _ text refl
    (pick (bytes_eq name (codes "LP")) (codes "(") _ text refl
    (pick (bytes_eq name (codes "RP")) (codes ")") _ text refl
    (pick (bytes_eq name (codes "C")) (codes ",") _ text refl
    (digits (starts_with nat_eq name (codes "u"))))))))))
    e
  where
    digits : (b : Bool) → cond b (escape_of_digits (drop 1 name)) None ≡ Some text → line_feeds text ≡ 0
    digits true e = line_feeds-digits (drop 1 name) text e
    digits false e = absurd (none≢some e)

-- the text that a unit prints, and the number of bytes that it reads
unit_text : Option (List ℕ × ℕ) → List ℕ
unit_text None = []
unit_text (Some u) = u.0

unit_len : Option (List ℕ × ℕ) → ℕ
unit_len None = 0
unit_len (Some u) = u.1

-- a unit prints no more line feeds than it reads
line_feeds-unit : (c : ℕ) (s : List ℕ) (u : List ℕ × ℕ) → leading_unit c s ≡ Some u → line_feeds u.0 ≤ line_feeds (c ∷ take u.1 s)
unfolding leading_unit unit_text unit_len
line_feeds-unit c s u e = first (eqb c 46) (starts_with nat_eq s (codes ".")) e
  where
    none : line_feeds u.0 ≡ 0 → line_feeds u.0 ≤ line_feeds (c ∷ take u.1 s)
    none is = omega (arith, is)

    escaped : (n : ℕ) (read : Option (List ℕ)) → escape_of (take n s) ≡ read → option_map (λ text. (text, n + 1)) read ≡ Some u → line_feeds u.0 ≤ line_feeds (c ∷ take u.1 s)
    escaped n None is e = cc
    escaped n (Some text) is e = none (ap (λ o. line_feeds (unit_text o)) (sym e) ∙ line_feeds-escape (take n s) text is)

    dollar : (at : Option ℕ) → option_and_then (λ n. option_map (λ text. (text, n + 1)) (escape_of (take n s))) at ≡ Some u → line_feeds u.0 ≤ line_feeds (c ∷ take u.1 s)
    dollar None e = cc
    dollar (Some n) e = escaped n (escape_of (take n s)) refl e

    plain : (at : Option ℕ) → option_map (λ n. (c ∷ take n s, n)) at ≡ Some u → line_feeds u.0 ≤ line_feeds (c ∷ take u.1 s)
    plain None e = cc
    plain (Some n) e =
        let text : line_feeds u.0 ≡ line_feeds (c ∷ take n s) = ap (λ o. line_feeds (unit_text o)) (sym e) in
        let len : u.1 ≡ n = ap unit_len (sym e) in
        let same : line_feeds u.0 ≡ line_feeds (c ∷ take u.1 s) = text ∙ ap (λ k. line_feeds (c ∷ take k s)) (sym len) in
        omega (arith, same)

    second : (b : Bool) → cond b (option_and_then (λ n. option_map (λ text. (text, n + 1)) (escape_of (take n s))) (position is_dollar s)) (option_map (λ n. (c ∷ take n s, n)) (position is_special s)) ≡ Some u
        → line_feeds u.0 ≤ line_feeds (c ∷ take u.1 s)
    second true e = dollar (position is_dollar s) e
    second false e = plain (position is_special s) e

    first : (b d : Bool) → cond b (cond d (Some (codes "::", 1)) (Some (codes ".", 0)))
        (cond (eqb c 36) (option_and_then (λ n. option_map (λ text. (text, n + 1)) (escape_of (take n s))) (position is_dollar s)) (option_map (λ n. (c ∷ take n s, n)) (position is_special s))) ≡ Some u
        → line_feeds u.0 ≤ line_feeds (c ∷ take u.1 s)
    first true true e = none (ap (λ o. line_feeds (unit_text o)) (sym e))
    first true false e = none (ap (λ o. line_feeds (unit_text o)) (sym e))
    first false d e = second (eqb c 36) e

line_feeds-pieces : (skip : ℕ) (s : List ℕ) → line_feeds (concat (pieces_from skip s)) ≤ line_feeds (drop skip s)
unfolding pieces_from
line_feeds-pieces zero [] = omega arith
line_feeds-pieces (suc skip) [] = omega arith
line_feeds-pieces (suc skip) (c ∷ s) = line_feeds-pieces skip s
line_feeds-pieces zero (c ∷ s) = at (λ n. line_feeds-pieces n s) (leading_unit c s) refl
  where
    at : ((n : ℕ) → line_feeds (concat (pieces_from n s)) ≤ line_feeds (drop n s)) → (read : Option (List ℕ × ℕ)) → leading_unit c s ≡ read
        → line_feeds (concat (elim read [ None ↦ (c ∷ s) ∷ [] | Some u ↦ u.0 ∷ pieces_from (u.1) s ])) ≤ line_feeds (c ∷ s)
    at following None is = omega (arith, line_feeds-cons (c ∷ s) [], ap line_feeds (append-nil (c ∷ s)))
    at following (Some u) is =
        let one = line_feeds-unit c s u is in
        let more = following (u.1) in
        let whole : line_feeds (c ∷ s) ≡ line_feeds (c ∷ take u.1 s) + line_feeds (drop u.1 s) = ap (λ l. line_feeds (c ∷ l)) (sym (take-append-drop u.1 s)) ∙ line_feeds-append (c ∷ take u.1 s) (drop u.1 s) in
        omega (arith, one, more, whole, line_feeds-cons u.0 (pieces_from (u.1) s))

line_feeds-unescaped : (element : List ℕ) → line_feeds (concat (unescaped element)) ≤ line_feeds element
unfolding unescaped
line_feeds-unescaped element = at (starts_with nat_eq element (codes "_$"))
  where
    at : (b : Bool) → line_feeds (concat (cond b (pieces_from 1 element) (pieces_from 0 element))) ≤ line_feeds element
    at true = omega (arith, line_feeds-pieces 1 element, line_feeds-drop 1 element)
    at false = line_feeds-pieces 0 element

line_feeds-continued : (elements : List (List ℕ)) → line_feeds (concat (following_pieces elements)) ≤ line_feeds (concat elements)
line_feeds-continued [] = omega arith
line_feeds-continued (e ∷ es) =
    omega (arith, line_feeds-unescaped e, line_feeds-continued es, line_feeds-cons e es, line_feeds-concat (unescaped e) (following_pieces es), line_feeds-cons (codes "::") (unescaped e ++ following_pieces es))

line_feeds-joined : (elements : List (List ℕ)) → line_feeds (concat (joined_pieces elements)) ≤ line_feeds (concat elements)
line_feeds-joined [] = omega arith
line_feeds-joined (e ∷ es) = omega (arith, line_feeds-unescaped e, line_feeds-continued es, line_feeds-cons e es, line_feeds-concat (unescaped e) (following_pieces es))

line_feeds-printed : (hash : Bool) (elements : List (List ℕ)) → line_feeds (concat (printed_elements hash elements)) ≤ line_feeds (concat elements)
unfolding printed_elements
line_feeds-printed hash [] = omega arith
line_feeds-printed hash (e ∷ []) = at (not hash && is_hash e)
  where
    at : (b : Bool) → line_feeds (concat (cond b [] (e ∷ []))) ≤ line_feeds (concat (e ∷ []))
    at true = omega arith
    at false = omega arith
line_feeds-printed hash (e ∷ f ∷ es) = omega (arith, line_feeds-printed hash (f ∷ es), line_feeds-cons e (f ∷ es), line_feeds-cons e (printed_elements hash (f ∷ es)))

line_feeds-elements : (elements : List (List ℕ)) (text suffix : List ℕ) → IsElements elements text suffix → line_feeds (concat elements) + line_feeds suffix ≤ line_feeds text
line_feeds-elements [] text suffix is = omega (arith, ap line_feeds is)
line_feeds-elements (element ∷ elements) text suffix is =
    omega (arith, line_feeds-elements elements is.1 suffix is.5, ap line_feeds is.2, line_feeds-append is.0 (element ++ is.1), line_feeds-append element is.1, line_feeds-cons element elements)

-- the pieces of a legacy symbol
line_feeds-legacy : (form : LimitedForm) (text : List ℕ) (elements : List (List ℕ)) (suffix : List ℕ) → IsLegacy text elements suffix
    → line_feeds (concat (legacy_pieces form.plain elements)) + line_feeds suffix ≤ line_feeds text
line_feeds-legacy form text elements suffix is =
    let hash = form.plain.include_hash in
    omega (arith, line_feeds-joined (printed_elements hash elements), line_feeds-printed hash elements, line_feeds-elements elements is.1 suffix is.5, ap line_feeds is.2, line_feeds-append is.0 is.1)

-- the pieces of a v0 symbol, up to a limit of the bytes that are read again
line_feeds-before : (most : Option ℕ) (n used free : ℕ) (ms : List Move) → line_feeds (concat (texts_before most n used ms)) ≤ line_feeds (concat (texts_before None n free ms))
line_feeds-before most n used free [] = omega arith
line_feeds-before most n used free (says t ∷ ms) =
    omega (arith, line_feeds-before most n used free ms, line_feeds-cons t (texts_before most n used ms), line_feeds-cons t (texts_before None n free ms))
line_feeds-before None n used free (follows t ∷ ms) = line_feeds-before None n used free ms
line_feeds-before (Some k) n used free (follows t ∷ ms) = at (nat_le (used + (n - t + 1)) k) (line_feeds-before (Some k) n (used + (n - t + 1)) free ms)
  where
    at : (b : Bool) → line_feeds (concat (texts_before (Some k) n (used + (n - t + 1)) ms)) ≤ line_feeds (concat (texts_before None n free ms))
        → line_feeds (concat (cond b (texts_before (Some k) n (used + (n - t + 1)) ms) [])) ≤ line_feeds (concat (texts_before None n free ms))
    at true h = h
    at false h = omega arith
line_feeds-before most n used free (ends e ∷ ms) = line_feeds-before most n (used - bytes_after n e) (free - bytes_after n e) ms

line_feeds-marked : (all : Bool) (texts : List (List ℕ)) → line_feeds (concat (marked_unless all texts)) ≡ line_feeds (concat texts)
line_feeds-marked true texts = refl
line_feeds-marked false texts = omega (arith, line_feeds-concat texts (marker ∷ []))

line_feeds-v0 : (inner : List ℕ) (form : LimitedForm) → line_feeds inner ≡ 0 → line_feeds (concat (path_pieces inner form)) ≡ 0
line_feeds-v0 inner form none =
    omega (
      arith,
      line_feeds-marked (is_all inner form) (texts_within inner form),
      line_feeds-before form.reread (length inner) 0 0 (path_moves inner form.plain),
      ap (λ (ts : List (List ℕ)). line_feeds (concat ts)) (unlimited_texts inner form.plain),
      line_feeds-rendered inner form.plain none,
    )

read_of : Option (List (List ℕ) × List ℕ) → List (List ℕ) × List ℕ
read_of None = ([], [])
read_of (Some read) = read

-- a symbol without line feeds has none in its pieces, and none in its suffix
line_feeds-symbol : (form : LimitedForm) (text : List ℕ) (read : List (List ℕ) × List ℕ) → pieces_in form text ≡ Some read → line_feeds text ≡ 0
    → (line_feeds (concat read.0) ≡ 0) × (line_feeds read.1 ≡ 0)
unfolding read_of
line_feeds-symbol form text read e none = go (symbol-pieces form text read e) where
  go : IsSymbol text → (line_feeds (concat read.0) ≡ 0) × (line_feeds read.1 ≡ 0)
  go (inl (elements, suffix, legacy, allowed)) =
      let same : read ≡ (legacy_pieces form.plain elements, suffix) = ap read_of (sym e ∙ pieces-legacy form text elements suffix (legacy_spelled text elements suffix legacy) allowed) in
      let bound = line_feeds-legacy form text elements suffix legacy in
      (omega (arith, none, bound, ap (λ r. line_feeds (concat r.0)) same), omega (arith, none, bound, ap (λ r. line_feeds r.1) same))
  go (inr (inner, suffix, v0, allowed)) =
      let same : read ≡ (path_pieces inner form, suffix) = ap read_of (sym e ∙ pieces-v0 form text inner suffix (v0_is_read text inner suffix v0) allowed) in
      let part = v0.5 in
      let within : line_feeds inner ≡ 0 = omega (arith, none, ap line_feeds v0.1, line_feeds-append v0.0 inner) in (
        ap (λ r. line_feeds (concat r.0)) same ∙ line_feeds-v0 inner form within,
        omega (arith, within, ap (λ r. line_feeds r.1) same, ap line_feeds part.2, line_feeds-drop part.0 inner),
      )

-- a text without line feeds prints none
pub line_feeds-handed : (text : List ℕ) (format : Format) → line_feeds text ≡ 0 → line_feeds (concat (handed_in text format)) ≡ 0
line_feeds-handed text format none = at (pieces_in (form_in format text) text) refl
  where
    limit : ℕ
    limit = limit_in format text

    at : (read : Option (List (List ℕ) × List ℕ)) → pieces_in (form_in format text) text ≡ read → line_feeds (concat (option_map_or (λ r. cut r.0 limit ++ r.1 ∷ []) read (text ∷ []))) ≡ 0
    at None is = ap line_feeds (append-nil text) ∙ none
    at (Some read) is =
        let h = line_feeds-symbol (form_in format text) text read is none in
        omega (arith, h.0, h.1, line_feeds-cut read.0 limit, line_feeds-concat (cut read.0 limit) (read.1 ∷ []), ap line_feeds (append-nil read.1))

line_feeds-stripped : (s : List ℕ) → line_feeds (stripped s) ≤ line_feeds s
unfolding stripped
line_feeds-stripped [] = omega arith
line_feeds-stripped (c ∷ s) = at (line_feeds-stripped s) (starts_with nat_eq (c ∷ s) (codes ".llvm.")) (list_all is_thin_lto (drop 5 s))
  where
    at : line_feeds (stripped s) ≤ line_feeds s → (b d : Bool) → line_feeds (cond b (cond d [] (c ∷ s)) (c ∷ stripped s)) ≤ line_feeds (c ∷ s)
    at following true true = omega arith
    at following true false = omega arith
    at following false d = omega (arith, following)

-- the replacement of a run without line feeds has none
pub line_feeds-replacement_in : (format : Format) (run : List ℕ) → line_feeds run ≡ 0 → line_feeds (replacement_in format run) ≡ 0
line_feeds-replacement_in format run none = at (pieces_in (form_in format (stripped run)) (stripped run))
  where
    at : (read : Option (List (List ℕ) × List ℕ)) → line_feeds (option_map_or (λ _. concat (handed_in (stripped run) format)) read run) ≡ 0
    at None = none
    at (Some read) = line_feeds-handed (stripped run) format (omega (arith, none, line_feeds-stripped run))

-- run bytes are not line feeds
pub line_feeds-run : (run : List ℕ) → list_all is_run_byte run ≡ true → line_feeds run ≡ 0
line_feeds-run [] all = refl
line_feeds-run (c ∷ run) all = at (line_feeds-run run) (is_run_byte c) refl all
  where
    at : (list_all is_run_byte run ≡ true → line_feeds run ≡ 0) → (b : Bool) → is_run_byte c ≡ b → (b && list_all is_run_byte run) ≡ true → line_feeds (c ∷ run) ≡ 0
    at following true is rest = line_feeds-other c run (λ same. true≢false (sym is ∙ ap is_run_byte same)) ∙ following rest
    at following false is rest = absurd (true≢false (sym rest))

-- a filtered line has as many line feeds as before
line_feeds-filtered : (format : Format) (skip : ℕ) (s : List ℕ) → line_feeds (filtered_by (replacement_in format) skip s) ≡ line_feeds (drop skip s)
unfolding by_runs
line_feeds-filtered format zero [] = refl
line_feeds-filtered format (suc skip) [] = refl
line_feeds-filtered format (suc skip) (c ∷ s) = line_feeds-filtered format skip s
line_feeds-filtered format zero (c ∷ s) = elim (cases (starts_run (c ∷ s))) [
  | inl some ↦
      let run = c ∷ take_while is_run_byte s in
      let n = prefix_len is_run_byte s in
      let clean : line_feeds run ≡ 0 = line_feeds-run run (ap (λ b. b && list_all is_run_byte (take_while is_run_byte s)) (ap is_run_byte (first_of_run (c ∷ s) some)) ∙ run_all s) in
      let whole : line_feeds (c ∷ s) ≡ line_feeds run + line_feeds (drop n s) = ap (λ l. line_feeds (c ∷ l)) (sym (take-append-drop n s)) ∙ line_feeds-append run (drop n s) in
      ap (λ b. line_feeds (turn (replacement_in format) c s b)) some ∙ line_feeds-append (replacement_in format run) (filtered_by (replacement_in format) n s) ∙ omega (arith, whole, clean, line_feeds-replacement_in format run clean, line_feeds-filtered format n s)
  | inr none ↦ ap (λ b. line_feeds (turn (replacement_in format) c s b)) none ∙ omega (arith, line_feeds-filtered format zero s)
]

-- so do all lines
pub line_feeds-written : (h : Bool) (text : List ℕ) → line_feeds (output_of h (lines text)) ≡ line_feeds text
line_feeds-written h text = each (lines text) ∙ ap line_feeds (lines_join text)
  where
    each : (parts : List (List ℕ)) → line_feeds (output_of h parts) ≡ line_feeds (concat parts)
    each [] = refl
    each (line ∷ parts) = omega (arith, line_feeds-append (filtered h line) (output_of h parts), line_feeds-append line (concat parts), line_feeds-filtered (unfolded h most_bytes) zero line, each parts)
