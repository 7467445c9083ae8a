-- The bytes that are a Rust symbol, the path of such a symbol, and a text as a C string.
use Rattle.std.specs.Prelude.{ℕ, ◌-◌, ◌==◌, if◌then◌else◌, List, [], ◌∷◌, ◌++◌, take, Bool}
use Rattle.std.below.core.specs.declared.int.usize.TheConstants.{MAX}
use Rattle.rustc_demangle.specs.Reading as reading
use Prim.Native.Nat.{min}
use Rattle.std.specs.List.{concat}
use Rattle.demangle_value.specs.Stripped.{stripped}
use Rattle.demangle_value.specs.Symbols.{IsSymbol, handed_in, printed, unfolded, bounded}
use Rattle.demangle_value.specs.Limits.{most_bytes}
use Rattle.demangle_value.specs.declared.format.Format.{Format}
use Rattle.demangle_value.specs.declared.format.SizeLimit.{SizeLimit}
use Rattle.demangle_value.specs.declared.format.SizeLimit.TheVariants as size

-- the bytes are a Rust symbol, after a suffix of ThinLTO is removed
abbrev pub IsRustSymbol : List ℕ → Type 0
IsRustSymbol bytes = IsSymbol (stripped bytes)

-- the path of the symbol, with the hash of a legacy symbol or without it
abbrev pub printed_path : List ℕ → Bool → List ℕ
printed_path bytes hash = printed (stripped bytes) hash

-- the path in a format
abbrev pub path_in : List ℕ → Format → List ℕ
path_in bytes format = concat (handed_in (stripped bytes) format)

-- the same with generic arguments, cut at this many bytes before the suffix
abbrev pub path_within : List ℕ → Bool → ℕ → List ℕ
path_within bytes hash limit = path_in bytes (unfolded hash limit)

-- the path of a symbol in a text, cut at this many bytes: the bytes that are read again are limited
abbrev pub path_in_text : List ℕ → (hash folds : Bool) → ℕ → List ℕ
path_in_text bytes hash folds limit = path_in bytes (bounded (reading.form hash folds) (size.Bytes limit))

-- a limit of at most 1,000,000 bytes
abbrev pub at_most_default : SizeLimit → SizeLimit
at_most_default (size.Bytes k) = size.Bytes (min k most_bytes)
at_most_default size.Linear = size.Linear

-- the format with such a limit
abbrev pub capped : Format → Format
capped format = record format { limit = at_most_default format.limit }

-- the limit of each path of a text: the greatest number says that none is given
abbrev pub text_limit : ℕ → SizeLimit
text_limit limit = if limit == MAX then size.Linear else size.Bytes (min limit most_bytes)

-- the format of a text
abbrev pub text_in : reading.Form → ℕ → Format
text_in form limit = bounded form (text_limit limit)

abbrev pub texts : (hash folds : Bool) → ℕ → Format
texts hash folds limit = text_in (reading.form hash folds) limit

-- a C string in this many bytes: as much of the text as leaves one byte, then a 0
abbrev pub c_string : ℕ → List ℕ → List ℕ
c_string room text = take (room - 1) text ++ 0 ∷ []
