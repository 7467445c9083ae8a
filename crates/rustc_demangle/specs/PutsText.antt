-- The effect of putting a text into a sink, whatever its pieces are.
use Rattle.std.specs.Prelude.{◌≡◌, List, ℕ, Result}
use Rattle.std.specs.List.{concat}
use Rattle.demangle_sink.specs.declared.TextSink.{Ghosts}
use Rattle.demangle_sink.specs.declared.SinkRefused.{SinkRefused}
use Rattle.demangle_sink.specs.PutsPieces.{PutsPieces}

-- pieces that join to the text were put into the sink in order, up to a rejected piece
abbrev pub PutsText : {S : Type 0} → Ghosts S → S → List ℕ → Result (Unit {0}) SinkRefused → S → Type 0
PutsText sink old text result new = (pieces : List (List ℕ)) × (concat pieces ≡ text) × PutsPieces sink old pieces result new
