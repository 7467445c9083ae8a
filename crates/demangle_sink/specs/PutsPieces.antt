-- The effect of putting a list of pieces into a sink.
use Rattle.std.specs.Prelude.{◌≡◌, ℕ, List, [], ◌∷◌, ◌++◌, length, true, false, Result, IsOk, IsErr}
use Rattle.std.specs.List.{FoldsTo, concat}
use Rattle.demangle_sink.specs.declared.TextSink.{Ghosts}
use Rattle.demangle_sink.specs.declared.SinkRefused.{SinkRefused}
use Rattle.demangle_sink.specs.Sink.{IsWithin, room_after}
use Rattle.demangle_sink.specs.Cut.{size}

-- the sink took the pieces one by one, and has not failed
pub record TookAll {S : Type 0} (sink : Ghosts S) (old : S) (list : List (List ℕ)) (new : S) : Type 0 where
  pub took : FoldsTo sink.took old list new
  pub not_failed : sink.failed new ≡ false

-- the sink took a prefix of the list, and the next piece is longer than the room that was then left
pub record TookPrefix {S : Type 0} (sink : Ghosts S) (old : S) (list : List (List ℕ)) (new : S) : Type 0 where
  pub prefix : List (List ℕ)
  pub next : List ℕ
  pub rest : List (List ℕ)
  pub whole : list ≡ prefix ++ next ∷ rest
  pub at : S
  pub took : FoldsTo sink.took old prefix at
  pub kept : sink.took at [] new
  pub longer : IsWithin (length next) (sink.room new) → ⊥

-- the sink failed within the list; if it keeps, it took exactly the pieces before the rejected one
pub record FailedWithin {S : Type 0} (sink : Ghosts S) (old : S) (list : List (List ℕ)) (new : S) : Type 0 where
  pub failed : sink.failed new ≡ true
  pub kept : sink.keeps ≡ true → TookPrefix sink old list new

-- the list is within the sink's room, so the sink has not failed and its room fell by the bytes of the list
pub record FitsRoom {S : Type 0} (sink : Ghosts S) (old : S) (list : List (List ℕ)) (new : S) : Type 0 where
  pub not_failed : sink.failed new ≡ false
  pub room : sink.room new ≡ room_after (size list) (sink.room old)

-- the list was put into the sink in order, up to a rejected piece
pub record PutsPieces {S : Type 0} (sink : Ghosts S) (old : S) (list : List (List ℕ)) (result : Result (Unit {0}) SinkRefused) (new : S) : Type 0 where
  pub all : IsOk result → TookAll sink old list new
  pub refused : IsErr result → FailedWithin sink old list new
  pub fits : IsWithin (size list) (sink.room old) → FitsRoom sink old list new

-- the sink took the text of a prefix of the list, and the next piece is longer than the room that was then left
pub record HoldsPrefix {S : Type 0} (sink : Ghosts S) (old : S) (list : List (List ℕ)) (new : S) : Type 0 where
  pub prefix : List (List ℕ)
  pub next : List ℕ
  pub rest : List (List ℕ)
  pub whole : list ≡ prefix ++ next ∷ rest
  pub took : sink.took old (concat prefix) new
  pub longer : IsWithin (length next) (sink.room new) → ⊥
