-- A text with its symbols replaced. A run that begins with `_RC` stays, and a path also replaces a single `_` before its run.
use Rattle.std.specs.Prelude.{◌≡◌, ◌⊎◌, ◌+◌, ℕ, zero, suc, length, Bool, true, false, ◌||◌, ◌&&◌, ◌==◌, nat_eq, if◌then◌else◌, List, [], ◌∷◌, ◌++◌, codes}
use Rattle.std.specs.List.{starts_with, prefix_len, take_while}
use Rattle.demangle_value.specs.Filtered.{is_run_byte, starts_run, HasNoStart, IsRun, IsReplacement, replacement_in}
use Rattle.demangle_value.specs.Symbols.{bounded_within, linear}
use Rattle.demangle_value.specs.declared.format.Format.{Format}
use Rattle.rustc_demangle.specs.declared.byte_before.ByteBefore.{ByteBefore}
use Rattle.rustc_demangle.specs.declared.byte_before.ByteBefore.TheVariants.{Outside, Inside}

-- what a byte is for the text after it: a run byte, or outside of runs
abbrev pub before_of : ℕ → ByteBefore
before_of c = if is_run_byte c then Inside else Outside

-- what is before the text that follows these bytes
abbrev pub before_after : ByteBefore → List ℕ → ByteBefore
before_after before [] = before
before_after before (c ∷ s) = before_after (before_of c) s

-- a run with a `_` directly before it, as macOS spells a symbol; no run byte is before the `_`
abbrev pub starts_underscored_run : ByteBefore → List ℕ → Bool
starts_underscored_run Outside [] = false
starts_underscored_run Outside (c ∷ s) = c == 95 && starts_run s
starts_underscored_run Inside s = false

-- A candidate starts here: a run, or such a `_` and run. It has all run bytes that follow.
abbrev pub starts_candidate : ByteBefore → List ℕ → Bool
starts_candidate before s = starts_run s || starts_underscored_run before s

-- a run that begins with `_RC`, which would be the symbol of a crate alone
abbrev pub names_crate : List ℕ → Bool
names_crate run = starts_with nat_eq run (codes "_RC")

-- a candidate with such a run
abbrev pub stays : List ℕ → Bool
stays candidate = names_crate candidate || starts_with nat_eq candidate (codes "__RC")

-- what takes the place of a candidate
abbrev pub replacement_of : Format → List ℕ → List ℕ
replacement_of format candidate = if stays candidate then candidate else replacement_in format candidate

-- the text without its first `skip` bytes, with each candidate replaced by the result of `replaced`
unfoldable pub rewritten_by : (List ℕ → List ℕ) → ℕ → ByteBefore → List ℕ → List ℕ
rewritten_by replaced skip before [] = []
rewritten_by replaced (suc skip) before (c ∷ s) = rewritten_by replaced skip (before_of c) s
rewritten_by replaced zero before (c ∷ s) = elim (starts_candidate before (c ∷ s)) [
  | true ↦ replaced (c ∷ take_while is_run_byte s) ++ rewritten_by replaced (prefix_len is_run_byte s) (before_of c) s
  | false ↦ c ∷ rewritten_by replaced zero (before_of c) s
]

-- a text that follows other bytes, with each candidate replaced, in a format
abbrev pub rewritten_after : Format → ByteBefore → List ℕ → List ℕ
rewritten_after format = rewritten_by (replacement_of format) zero

-- a text that follows nothing
abbrev pub rewritten_in : Format → List ℕ → List ℕ
rewritten_in format = rewritten_after format Outside

-- the same with generic arguments, and with a size limit for each symbol
abbrev pub rewritten_within : Bool → ℕ → List ℕ → List ℕ
rewritten_within hash limit = rewritten_in (bounded_within hash limit)

-- the same with limits that are linear in the length of each symbol
abbrev pub rewritten : Bool → List ℕ → List ℕ
rewritten hash = rewritten_in (linear hash)

-- the text ends with a `_` that a run after it takes in
abbrev pub EndsSingle : ByteBefore → List ℕ → Type 0
EndsSingle before text = (s : List ℕ) × (text ≡ s ++ codes "_") × (before_after before s ≡ Outside)

-- the length of a text without such a `_` at its end
abbrev pub IsPlainLen : ByteBefore → List ℕ → ℕ → Type 0
IsPlainLen before text n = ((n ≡ length text) × (EndsSingle before text → ⊥)) ⊎ ((n + 1 ≡ length text) × EndsSingle before text)

-- these bytes are empty, or end with a byte that is not a run byte
abbrev pub EndsOutside : List ℕ → Type 0
EndsOutside before = (before ≡ []) ⊎ ((s : List ℕ) × (c : ℕ) × (before ≡ s ++ c ∷ []) × (is_run_byte c ≡ false))

-- `kept ++ text` takes the place of plain text and the run after it. If the run begins with `_RC`, nothing changes. After
-- a single `_`, a symbol with it is replaced. Otherwise the run is replaced as in `IsFiltered`.
abbrev pub IsReplacementAfter : Format → List ℕ → List ℕ → List ℕ → List ℕ → Type 0
IsReplacementAfter format plain run kept text =
    ((names_crate run ≡ true) × (kept ≡ plain) × (text ≡ run))
    ⊎ ((names_crate run ≡ false) × (plain ≡ kept ++ codes "_") × EndsOutside kept × IsReplacement format (codes "_" ++ run) text)
    ⊎ ((names_crate run ≡ false) × ((s : List ℕ) → plain ≡ s ++ codes "_" → EndsOutside s → ⊥) × (kept ≡ plain) × IsReplacement format run text)

-- The text is a sequence of runs, each with the plain text before it, and plain text after the last one. `out` is the
-- text with each run replaced.
abbrev pub AreRewritten : Format → List (List ℕ × List ℕ) → List ℕ → List ℕ → Type 0
AreRewritten format [] text out = HasNoStart text × (out ≡ text)
AreRewritten format ((plain, run) ∷ parts) text out =
    (rest : List ℕ) × (kept : List ℕ) × (replaced : List ℕ) × (rest_out : List ℕ)
    × (text ≡ plain ++ (run ++ rest)) × (out ≡ kept ++ (replaced ++ rest_out))
    × HasNoStart plain × IsRun run rest × IsReplacementAfter format plain run kept replaced × AreRewritten format parts rest rest_out

-- there is such a division
abbrev pub IsRewritten : Format → List ℕ → List ℕ → Type 0
IsRewritten format text out = (parts : List (List ℕ × List ℕ)) × AreRewritten format parts text out
