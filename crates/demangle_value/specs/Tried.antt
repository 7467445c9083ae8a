-- Internal: no public contract cites this.
-- What is known of a run that was printed before it was known to be a symbol.
use Rattle.std.specs.Prelude.{◌≡◌, ℕ, Bool, false, ◌==◌, ◌&&◌, ◌||◌, List, ◌∷◌, Some, None}
use Rattle.demangle_value.specs.Stripped.{stripped}
use Rattle.demangle_value.specs.declared.value.printing.Tried.{Tried}
use Rattle.demangle_value.specs.declared.value.printing.Tried.TheVariants as tried

-- the run, or the run without its first byte `_`, starts as a v0 symbol: its second byte is `R`, or its second and
-- third bytes are `_R`
abbrev pub is_v0_run : List ℕ → Bool
is_v0_run (first ∷ second ∷ third ∷ rest) = second == 82 || (second == 95 && third == 82)
is_v0_run _ = false

-- if the run was read, the text without the suffix of ThinLTO
abbrev pub IsRunRead : List ℕ → Tried → Type 0
IsRunRead run (tried.InVain (Some text) fuel) = text ≡ stripped run
IsRunRead run _ = Unit {0}

-- the run was neither printed nor read
abbrev pub IsUnknown : Tried → Type 0
IsUnknown (tried.InVain None fuel) = Unit {0}
IsUnknown _ = ⊥
