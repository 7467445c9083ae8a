-- The pieces that a sink gets for a text with its symbols demangled.
use Rattle.std.specs.Prelude.{ℕ, zero, Bool, List, [], ◌∷◌, ◌++◌}
use Rattle.std.specs.Option.{option_map_or}
use Rattle.demangle_value.specs.Stripped.{stripped}
use Rattle.demangle_value.specs.Symbols.{pieces_in, form_in, handed_in, unfolded}
use Rattle.demangle_value.specs.declared.format.Format.{Format}
use Rattle.rustc_demangle.specs.Lines.{onto_first}
use Rattle.demangle_value.specs.Filtered.{by_runs}

-- the pieces that replace a run: those of its symbol within the limit, or the run itself if it is not a symbol
abbrev pub run_pieces : Format → List ℕ → List (List ℕ)
run_pieces format run = option_map_or (λ _. handed_in (stripped run) format) (pieces_in (form_in format (stripped run)) (stripped run)) (run ∷ [])

-- The pieces of the text without its first `skip` bytes. The plain text up to the next run is one piece, which may be
-- empty. The pieces of that run follow, and so on.
abbrev pub filtered_pieces_from : Format → ℕ → List ℕ → List (List ℕ)
filtered_pieces_from format = by_runs (λ run rest. [] ∷ (run_pieces format run ++ rest)) onto_first ([] ∷ [])

-- the pieces of a text in a format
abbrev pub filtered_pieces_in : Format → List ℕ → List (List ℕ)
filtered_pieces_in format text = filtered_pieces_from format zero text

-- the same with generic arguments
abbrev pub filtered_pieces : Bool → ℕ → List ℕ → List (List ℕ)
filtered_pieces hash limit text = filtered_pieces_in (unfolded hash limit) text
