-- Internal: no public contract cites this.
-- What is known of a text whose first path was printed before it was known to be a symbol.
use Rattle.std.specs.Prelude.{◌≡◌, ◌≤◌, ℕ, List, Some, None, Ok, length}
use Rattle.demangle_v0_grammar.specs.Reading.{Form}
use Rattle.demangle_v0_grammar.specs.V0.{v0_of}
use Rattle.demangle_sink.specs.declared.TextSink.{Ghosts as Sinks}
use Rattle.demangle_sink.specs.declared.limit.SizeLimitedFmtAdapter.{SizeLimitedFmtAdapter}
use Rattle.demangle_v0.specs.FirstPaths.{PrintsPath}
use Rattle.demangle_v0.specs.declared.Printed.{Printed}
use Rattle.demangle_v0.specs.declared.Printed.TheVariants as printed

-- the symbol and its suffix, whose path was printed, or that the text is not a symbol
abbrev pub IsKnown : {S : Type 0} → Sinks S → List ℕ → SizeLimitedFmtAdapter S → Form → Printed → SizeLimitedFmtAdapter S → Type 0
IsKnown sink text v form (printed.Symbol symbol suffix) w = (v0_of text ≡ Some (symbol, suffix.now)) × PrintsPath sink v symbol form (Ok tt) w
IsKnown sink text v form printed.NoSymbol w = v0_of text ≡ None
IsKnown sink text v form printed.Unknown w = Unit {0}

-- a symbol and its suffix have at most this many bytes each
abbrev pub HasLengthsWithin : ℕ → Printed → Type 0
HasLengthsWithin n (printed.Symbol symbol suffix) = (length symbol ≤ n) × (length suffix.now ≤ n)
HasLengthsWithin n _ = Unit {0}
