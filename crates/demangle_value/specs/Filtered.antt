-- A line with its symbols demangled.
use Rattle.std.specs.Prelude.{◌≡◌, ℕ, zero, suc, Bool, true, false, ◌||◌, ◌==◌, ◌⊎◌, nat_eq, List, [], ◌∷◌, ◌++◌, codes}
use Rattle.std.specs.List.{starts_with, prefix_len, take_while, list_all, concat}
use Rattle.std.specs.Option.{option_map_or}
use Rattle.std.specs.Char.{is_ascii_alphanumeric}
use Rattle.demangle_value.specs.Stripped.{stripped}
use Rattle.demangle_value.specs.Limits.{most_bytes}
use Rattle.demangle_value.specs.Symbols.{IsSymbol, pieces_in, form_in, handed_in, unfolded}
use Rattle.demangle_value.specs.declared.format.Format.{Format}

-- A run is a candidate symbol: the longest sequence of run bytes that starts with `_ZN` or `_R`. A run byte is `$`,
-- `.`, `_`, an ASCII letter or an ASCII digit.
abbrev pub is_run_byte : ℕ → Bool
is_run_byte c = (c == 36 || c == 46) || c == 95 || is_ascii_alphanumeric c

-- the text starts with `_ZN` or `_R`
abbrev pub starts_run : List ℕ → Bool
starts_run s = starts_with nat_eq s (codes "_ZN") || starts_with nat_eq s (codes "_R")

-- the text contains neither `_ZN` nor `_R`
abbrev pub HasNoStart : List ℕ → Type 0
HasNoStart s = (before rest : List ℕ) → s ≡ before ++ rest → starts_run rest ≡ false

-- the text is empty, or its first byte is not a run byte
abbrev pub StartsOutsideRun : List ℕ → Type 0
StartsOutsideRun [] = Unit {0}
StartsOutsideRun (c ∷ s) = is_run_byte c ≡ false

-- `run` is a run, if `following` is the text that follows it
pub record IsRun (run following : List ℕ) : Type 0 where
  pub begins : starts_run run ≡ true
  pub all : list_all is_run_byte run ≡ true
  pub longest : StartsOutsideRun following

-- `text` replaces a run: it is the symbol printed in a format if the run is a symbol, and the run itself otherwise
abbrev pub IsReplacement : Format → List ℕ → List ℕ → Type 0
IsReplacement format run text = (IsSymbol (stripped run) × (text ≡ concat (handed_in (stripped run) format))) ⊎ ((IsSymbol (stripped run) → ⊥) × (text ≡ run))

-- The line is a sequence of runs, each with the plain text up to the next run. `out` is the line with each run
-- replaced.
abbrev pub AreReplaced : Format → List (List ℕ × List ℕ) → List ℕ → List ℕ → Type 0
AreReplaced format [] line out = (line ≡ []) × (out ≡ [])
AreReplaced format ((run, kept) ∷ parts) line out =
    (rest : List ℕ) × (text : List ℕ) × (rest_out : List ℕ)
    × (line ≡ run ++ (kept ++ rest)) × (out ≡ text ++ (kept ++ rest_out))
    × IsRun run (kept ++ rest) × IsReplacement format run text × HasNoStart kept × AreReplaced format parts rest rest_out

-- The line is plain text followed by such a sequence. `out` keeps the plain text and replaces the runs.
pub record IsFiltered (format : Format) (line out : List ℕ) : Type 0 where
  pub kept : List ℕ
  pub rest : List ℕ
  pub rest_out : List ℕ
  pub parts : List (List ℕ × List ℕ)
  pub whole : line ≡ kept ++ rest
  pub output : out ≡ kept ++ rest_out
  pub no_start : HasNoStart kept
  pub runs : AreReplaced format parts rest rest_out

-- the replacement of a run as a function, in a format
abbrev pub replacement_in : Format → List ℕ → List ℕ
replacement_in format run = option_map_or (λ _. concat (handed_in (stripped run) format)) (pieces_in (form_in format (stripped run)) (stripped run)) run

-- the same with generic arguments, and with a size limit for each symbol
abbrev pub replacement_within : Bool → ℕ → List ℕ → List ℕ
replacement_within hash limit = replacement_in (unfolded hash limit)

-- `replacement_within` with the default limit
abbrev pub replacement : Bool → List ℕ → List ℕ
replacement hash run = replacement_within hash most_bytes run

-- A result of the text without its first `skip` bytes. It is computed from the end of the text: `run` adds a run to the
-- result of the text after it, `plain` adds any other byte, and `empty` is the result of the empty text.
unfoldable pub by_runs : {A : Type 0} → (List ℕ → A → A) → (ℕ → A → A) → A → ℕ → List ℕ → A
by_runs run plain empty skip [] = empty
by_runs run plain empty (suc skip) (c ∷ s) = by_runs run plain empty skip s
by_runs run plain empty zero (c ∷ s) = elim (starts_run (c ∷ s)) [
  | true ↦ run (c ∷ take_while is_run_byte s) (by_runs run plain empty (prefix_len is_run_byte s) s)
  | false ↦ plain c (by_runs run plain empty zero s)
]

-- the text without its first `skip` bytes, with each run replaced by the result of `replaced`
abbrev pub filtered_by : (List ℕ → List ℕ) → ℕ → List ℕ → List ℕ
filtered_by replaced = by_runs (λ run rest. replaced run ++ rest) (λ c rest. c ∷ rest) []

-- any bytes with each run replaced, in a format; the only `out` for which `IsFiltered format line out` holds
abbrev pub filtered_in : Format → List ℕ → List ℕ
filtered_in format = filtered_by (replacement_in format) zero

-- the same with generic arguments, and with a size limit for each symbol
abbrev pub filtered_within : Bool → ℕ → List ℕ → List ℕ
filtered_within hash limit = filtered_in (unfolded hash limit)

-- `filtered_within` with the default limit
abbrev pub filtered : Bool → List ℕ → List ℕ
filtered hash = filtered_within hash most_bytes
