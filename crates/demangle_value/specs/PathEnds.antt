-- The end of a symbol's path, and the output for a text with a known end.
use Rattle.std.specs.Prelude.{false, ℕ, ◌-◌, Bool, true, List, [], ◌∷◌, ◌++◌, length, drop, Option, None, nat_lt, if◌then◌else◌}
use Rattle.std.specs.List.{list_all}
use Rattle.std.specs.Option.{option_map_or}
use Rattle.demangle_sink.specs.Cut.{cut}
use Rattle.demangle_v0_grammar.specs.Reading.{form, path_texts}
use Rattle.demangle_v0_grammar.specs.V0.{v0_inner}
use Rattle.demangle_value.specs.Symbols.{pieces_of, handed}

-- the number of bytes before the symbol's suffix; 0 for a text that is not a symbol
abbrev pub path_len_of : List ℕ → ℕ
path_len_of text = option_map_or (λ read. length text - length read.1) (pieces_of true text) 0

-- the bytes after the v0 prefix of an ASCII text
abbrev pub v0_ascii : List ℕ → Option (List ℕ)
v0_ascii text = if list_all (λ b. nat_lt b 128) text then v0_inner text else None

-- ASCII text with a v0 prefix prints its first path as far as the grammar accepts it, within the limit. Then it
-- prints the text without its first `len` bytes. Any other text prints the pieces of `handed`.
abbrev pub handed_with_path_len : List ℕ → ℕ → Bool → ℕ → List (List ℕ)
handed_with_path_len text len hash limit = option_map_or (λ inner. cut (path_texts inner (form hash false)) limit ++ drop len text ∷ []) (v0_ascii text) (handed text hash limit)
