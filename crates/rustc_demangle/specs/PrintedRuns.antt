-- Internal: no public contract cites this.
-- How the text of a run was found.
use Rattle.std.specs.Prelude.{◌≡◌, ℕ, List}
use Rattle.demangle_value.specs.Filtered.{replacement_in}
use Rattle.demangle_value.specs.declared.format.Format.{Format}
use Rattle.rustc_demangle.specs.declared.stream.memo.Printed.{Printed}
use Rattle.rustc_demangle.specs.declared.stream.memo.Printed.TheVariants as printed

-- if the run is a symbol, the buffer holds its replacement, and if it is not, the run is its replacement
abbrev pub IsPrinted : Format → (run : List ℕ) → Printed → (held : List ℕ) → Type 0
IsPrinted format run printed.Symbol held = held ≡ replacement_in format run
IsPrinted format run printed.NoSymbol held = run ≡ replacement_in format run
IsPrinted format run printed.NotHeld held = Unit {0}
