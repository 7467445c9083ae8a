-- The result of printing into a sink, and the state of the sink afterwards.
use Rattle.std.specs.Prelude.{◌≡◌, ℕ, List, true, false, Result, IsOk, OnOk, OnErr}
use Rattle.std.specs.List.{concat}
use Rattle.demangle_sink.specs.declared.TextSink.{Ghosts}
use Rattle.demangle_sink.specs.declared.SinkRefused.{SinkRefused}
use Rattle.demangle_sink.specs.Cut.{size}
use Rattle.demangle_sink.specs.PutsPieces.{HoldsPrefix}
use Rattle.demangle_sink.specs.Sink.{IsWithin, room_after}

-- These pieces were put into the sink. `Ok` means that it took their text and has not failed. `Err` means that it has
-- failed; if it keeps, it took the pieces before the rejected one. If all pieces are within the sink's room, the result
-- is `Ok` and the room fell by their bytes.
pub record Writes {S : Type 0} (sink : Ghosts S) (old : S) (list : List (List ℕ))
    (result : Result (Unit {0}) SinkRefused) (new : S) : Type 0 where
  pub text : OnOk result (sink.took old (concat list) new)
  pub not_failed : OnOk result (sink.failed new ≡ false)
  pub failed : OnErr result (sink.failed new ≡ true)
  pub kept : OnErr result (sink.keeps ≡ true → HoldsPrefix sink old list new)
  pub fits : IsWithin (size list) (sink.room old) → IsOk result
  pub room : IsWithin (size list) (sink.room old) → sink.room new ≡ room_after (size list) (sink.room old)
