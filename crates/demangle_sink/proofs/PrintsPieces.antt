-- Printing one piece, and then others.
use Rattle.std.proofs.Common.{ℕ, List, [], ◌∷◌, Result, IsOk, IsErr}
use Rattle.demangle_sink.specs.declared.TextSink.{Ghosts}
use Rattle.demangle_sink.specs.declared.SinkRefused.{SinkRefused}
use Rattle.demangle_sink.specs.declared.limit.SizeLimitedFmtAdapter.{SizeLimitedFmtAdapter}
use Rattle.demangle_sink.specs.Limit.{Prints}
use Rattle.demangle_sink.proofs.PrintsLemmas.{prints_then, prints_stop}

-- one piece was taken, and then a list is printed
pub piece_then : {S : Type 0} (sink : Ghosts S) (old mid new : SizeLimitedFmtAdapter S) (x : List ℕ) (ys : List (List ℕ)) (r result : Result (Unit {0}) SinkRefused)
    → Prints sink old (x ∷ []) r mid → IsOk r → Prints sink mid ys result new
    → Prints sink old (x ∷ ys) result new
piece_then sink old mid new x ys r result p ok q = prints_then sink old mid new (x ∷ []) ys r result p ok q

-- the first piece of a list was not taken
pub piece_stop : {S : Type 0} (sink : Ghosts S) (old new : SizeLimitedFmtAdapter S) (x : List ℕ) (ys : List (List ℕ)) (r result : Result (Unit {0}) SinkRefused)
    → Prints sink old (x ∷ []) r new → IsErr r → IsErr result
    → Prints sink old (x ∷ ys) result new
piece_stop sink old new x ys r result p err err' = prints_stop sink old new (x ∷ []) ys r result p err err'
