-- The texts that are Rust symbols, and the pieces that they print.
use Rattle.std.specs.Prelude.{◌≡◌, ◌⊎◌, ℕ, ◌+◌, ◌*◌, ◌≤◌, Bool, true, false, List, [], ◌∷◌, ◌++◌, length, Option, None, Some, option_map, if◌then◌else◌}
use Rattle.std.specs.List.{concat}
use Rattle.std.specs.Option.{option_map_or, option_or}
use Rattle.demangle_sink.specs.Cut.{cut, kept}
use Rattle.demangle_legacy.specs.Legacy.{IsLegacy, legacy_of}
use Rattle.demangle_v0_grammar.specs.Again.{path_again}
use Rattle.demangle_v0_grammar.specs.Reading as reading
use Rattle.demangle_legacy.specs.Unescaped.{legacy_pieces}
use Rattle.demangle_value.specs.Shape.{LimitedForm, unlimited_form, limited, path_pieces}
use Rattle.demangle_value.specs.Limits.{most_bytes, text_format}
use Rattle.demangle_value.specs.Stripped.{is_allowed}
use Rattle.demangle_value.specs.declared.format.Format.{Format}
use Rattle.demangle_value.specs.declared.format.SizeLimit.{SizeLimit}
use Rattle.demangle_value.specs.declared.format.SizeLimit.TheVariants as size
use Rattle.demangle_value.specs.declared.format.RereadLimit.TheVariants as reread
use Rattle.demangle_v0_grammar.specs.V0.{IsV0, v0_of}

-- the text is spelled by the grammar of the legacy scheme, up to an allowed suffix
abbrev pub IsLegacySymbol : List ℕ → Type 0
IsLegacySymbol text = (elements : List (List ℕ)) × (suffix : List ℕ) × IsLegacy text elements suffix × (is_allowed suffix ≡ true)

-- the text is spelled by the grammar of the v0 scheme, up to an allowed suffix
abbrev pub IsV0Symbol : List ℕ → Type 0
IsV0Symbol text = (inner : List ℕ) × (suffix : List ℕ) × IsV0 text inner suffix × (is_allowed suffix ≡ true)

-- the text is spelled by the grammar of a scheme, up to an allowed suffix
abbrev pub IsSymbol : List ℕ → Type 0
IsSymbol text = IsLegacySymbol text ⊎ IsV0Symbol text

-- the result of a parse, if the suffix after it is allowed
abbrev pub if_allowed : {A : Type 0} → Option (A × List ℕ) → Option (A × List ℕ)
if_allowed None = None
if_allowed (Some (x, suffix)) = if is_allowed suffix then Some (x, suffix) else None

-- The pieces and the suffix of a text in the scheme that accepts it, in a form. The arguments of a legacy symbol are
-- parts of names, so only a v0 symbol has arguments to fold. No text has a prefix of both schemes.
abbrev pub read_in : LimitedForm → List ℕ → Option (List (List ℕ) × List ℕ)
read_in form text = option_or (option_map (λ read. (legacy_pieces form.plain read.0, read.1)) (legacy_of text))
    (option_map (λ read. (path_pieces read.0 form, read.1)) (v0_of text))

-- the pieces and the suffix of a symbol, in a form
abbrev pub pieces_in : LimitedForm → List ℕ → Option (List (List ℕ) × List ℕ)
pieces_in form text = if_allowed (read_in form text)

-- the form of a text with its limit of the bytes that are read again, in a format
abbrev pub form_in : Format → List ℕ → LimitedForm
form_in format text = limited (text_format format (length text))

-- the most bytes of the path of a text, in a format
abbrev pub limit_in : Format → List ℕ → ℕ
limit_in format text = (text_format format (length text)).limit

-- The pieces of a symbol within the limit, then the marker if some are left out, then the suffix. Any other text is
-- one piece.
abbrev pub handed_in : List ℕ → Format → List (List ℕ)
handed_in text format = option_map_or (λ read. cut read.0 (limit_in format text) ++ read.1 ∷ []) (pieces_in (form_in format text) text) (text ∷ [])

-- the number of bytes that a symbol prints before the suffix, without the marker that follows the limit of bytes
abbrev pub kept_in : List ℕ → Format → ℕ
kept_in text format = option_map_or (λ read. kept read.0 (limit_in format text)) (pieces_in (form_in format text) text) 0

-- how far reading goes back in all, while the path of a v0 symbol prints
abbrev pub again_in : List ℕ → Format → ℕ
again_in text format = option_map_or (λ read. path_again read.0 format.form) (v0_of text) 0

-- the format with generic arguments and a limit of bytes, and the one with `_` for them
abbrev pub unfolded : Bool → ℕ → Format
unfolded hash limit = record { form = reading.form hash false; limit = size.Bytes limit; reread = reread.Unlimited }

abbrev pub folded : Bool → ℕ → Format
folded hash limit = record { form = reading.form hash true; limit = size.Bytes limit; reread = reread.Unlimited }

-- the format in which texts are filtered: the bytes that are read again are limited
abbrev pub bounded : reading.Form → SizeLimit → Format
bounded form limit = record { form = form; limit = limit; reread = reread.Linear }

-- the same with generic arguments, and with a limit of bytes or a linear one
abbrev pub bounded_within : Bool → ℕ → Format
bounded_within hash limit = bounded (reading.form hash false) (size.Bytes limit)

abbrev pub linear : Bool → Format
linear hash = bounded (reading.form hash false) size.Linear

-- The same with or without the hash, and with generic arguments.

abbrev pub pieces_of : Bool → List ℕ → Option (List (List ℕ) × List ℕ)
pieces_of hash text = pieces_in (unlimited_form hash false) text

abbrev pub handed : List ℕ → Bool → ℕ → List (List ℕ)
handed text hash limit = handed_in text (unfolded hash limit)

abbrev pub kept_of : List ℕ → Bool → ℕ → ℕ
kept_of text hash limit = kept_in text (unfolded hash limit)

-- The change of the look counter by printing a text, for Ok and for Err. Let `n` be the length of the text, and `w`
-- the number of bytes that are kept. The counter never decreases. It increases by at most 100,000 x (w + 1) x
-- (n + 1), and by at most 17 for each of n + 1 bytes and of those over which reading goes back. If k bytes
-- may be read again, it increases by at most 20 x (n + 1 + k), and for a legacy symbol by at most 16 x (n + 1). It
-- increases by at least 1 for a v0 symbol, and by nothing for a text that is not a symbol.
pub record PrintingLooksIn (text : List ℕ) (format : Format) (old new : ℕ) : Type 0 where
  pub grows : old ≤ new
  pub most : new ≤ old + 100000 * (kept_in text format + 1) * (length text + 1)
  pub again : new ≤ old + 17 * (length text + 1 + again_in text format)
  pub few : (k : ℕ) → (text_format format (length text)).reread ≡ Some k → new ≤ old + 20 * (length text + 1 + k)
  pub legacy : IsLegacySymbol text → new ≤ old + 16 * (length text + 1)
  pub v0 : IsV0Symbol text → old + 1 ≤ new
  pub no_symbol : (IsSymbol text → ⊥) → new ≡ old

abbrev pub PrintingLooks : List ℕ → Bool → ℕ → ℕ → ℕ → Type 0
PrintingLooks text hash limit old new = PrintingLooksIn text (unfolded hash limit) old new

-- the text that is printed
abbrev pub printed : List ℕ → Bool → List ℕ
printed text hash = concat (handed text hash most_bytes)
