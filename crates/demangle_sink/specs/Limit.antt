-- Internal: no public contract cites this.
-- The progress of printing a list.
use Rattle.std.specs.Prelude.{◌⊎◌, Bool, Err, IsErr, IsOk, List, None, Ok, Option, Result, Some, false, map, true, ℕ, min, max, if◌then◌else◌, ◌==◌, ◌++◌, ◌+◌, ◌-◌, ◌<◌, ◌≡◌, ◌≤◌}
use Rattle.std.below.core.specs.declared.int.usize.TheConstants.{MAX}
use Rattle.demangle_sink.specs.declared.TextSink.{Ghosts}
use Rattle.demangle_sink.specs.declared.SinkRefused.{SinkRefused}
use Rattle.demangle_sink.specs.declared.limit.Reread.{Reread}
use Rattle.demangle_sink.specs.declared.limit.HeldText.{HeldText}
use Rattle.demangle_sink.specs.Sink.{HoldingLaws, TakesAgain, room_after}
use Rattle.demangle_sink.specs.declared.limit.SizeLimitedFmtAdapter.{SizeLimitedFmtAdapter}
use Rattle.demangle_sink.specs.Cut.{prefix_within, size}
use Rattle.demangle_sink.specs.PutsPieces.{PutsPieces}
use Rattle.std.specs.Borrow.{Bor}

-- the sink has not failed, and the limit was not reached
pub record Ready {S : Type 0} (sink : Ghosts S) (out : SizeLimitedFmtAdapter S) : Type 0 where
  pub not_failed : sink.failed out.out.now ≡ false
  pub fresh : out.is_limit_reached ≡ false

-- the result of the sink itself: `Ok` if the limit was reached, since the sink then rejected nothing
abbrev pub sink_result : Bool → Result (Unit {0}) SinkRefused → Result (Unit {0}) SinkRefused
sink_result true result = Ok tt
sink_result false result = result

-- Printing these pieces returned `result`. `Ok` means that all were taken. `Err` means that the limit was reached, or
-- that the sink rejected one. The pieces within the limit were put into the sink.
pub record Prints {S : Type 0} (sink : Ghosts S) (old : SizeLimitedFmtAdapter S) (pieces : List (List ℕ)) (result : Result (Unit {0}) SinkRefused) (new : SizeLimitedFmtAdapter S) : Type 0 where
  pub same_sink : new.out.ghost_name ≡ old.out.ghost_name
  pub reread : new.reread ≡ old.reread
  pub open_ : IsOk result → new.is_limit_reached ≡ false
  pub within : IsOk result → size pieces ≤ old.remaining
  pub left : IsOk result → new.remaining ≡ old.remaining - size pieces
  pub past : new.is_limit_reached ≡ true → old.remaining < size pieces
  pub hands : PutsPieces sink old.out.now (prefix_within pieces old.remaining) (sink_result new.is_limit_reached result) new.out.now

-- this many bytes may be read again, and none was
abbrev pub unused : Option ℕ → Reread
unused most = record { most = most; used = 0; high = 0; references = 0; is_known = true }

-- n bytes are more than may be read again
abbrev pub IsOver : (most : Option ℕ) → (n : ℕ) → Type 0
IsOver None n = ⊥
IsOver (Some k) n = k < n

-- the used bytes and n more; if their number is not limited, they are only counted up to the greatest number
abbrev pub used_with : (most : Option ℕ) → (used n : ℕ) → ℕ
used_with None used n = min MAX (used + n)
used_with (Some k) used n = used + n

-- the used bytes and n more; if their number is not limited, any number
abbrev pub used_after : (most : Option ℕ) → (used n any : ℕ) → ℕ
used_after None used n any = any
used_after (Some k) used n any = used + n

-- a reference that uses n bytes was followed; the other numbers are those of `new`
abbrev pub followed : Reread → (n : ℕ) → (new : Reread) → Reread
followed r n new = record r { used = used_after r.most r.used n new.used; high = new.high; references = new.references; is_known = new.is_known }

-- the reference was counted; `high` is the most that was used at once, or more
abbrev pub Counts : (old : Reread) → (n : ℕ) → (new : Reread) → Type 0
Counts old n new = (new.used ≡ used_with old.most old.used n) × (max old.high (used_with old.most old.used n) ≤ new.high) × (new.references ≡ min MAX (old.references + 1)) × (new.is_known ≡ old.is_known)

-- Following a reference that may make the parser read n bytes again returned `result`. `Err` means that they are too
-- many.
abbrev pub Follows : {S : Type 0} → SizeLimitedFmtAdapter S → (n : ℕ) → Result (Unit {0}) SinkRefused → SizeLimitedFmtAdapter S → Type 0
Follows old n (Ok u) new = (IsOver old.reread.most (old.reread.used + n) → ⊥) × (new ≡ record old { reread = followed old.reread n new.reread; lookups_left = new.lookups_left }) × (Counts old.reread n new.reread ⊎ (new.reread.is_known ≡ false))
Follows old n (Err e) new = IsOver old.reread.most (old.reread.used + n) × (new ≡ record old { is_limit_reached = true })

-- one more than a number, or none
abbrev pub and_one : Option ℕ → ℕ
and_one None = 0
and_one (Some n) = n + 1

-- n bytes of them were not read; none, if a reference led to an error
abbrev pub given_back : Reread → (n : ℕ) → Reread
given_back r n = record r { used = r.used - n; is_known = if n == 0 then false else r.is_known }

abbrev pub GivesBack : {S : Type 0} → SizeLimitedFmtAdapter S → (n : ℕ) → SizeLimitedFmtAdapter S → Type 0
GivesBack old n new = new ≡ record old { reread = given_back old.reread n }

-- the references of a text that is put again were followed, if it has any
pub record FollowsSome (old : Reread) (text : HeldText) (new : Reread) : Type 0 where
  pub some : 0 < text.references
  pub fits : IsOver old.most (old.used + text.peak) → ⊥
  pub counted : old.used + text.peak ≤ MAX
  pub is : new ≡ record old { used = old.used + text.reread; high = max old.high (old.used + text.peak); references = min MAX (old.references + text.references) }

abbrev pub FollowsAgain : (old : Reread) → HeldText → (new : Reread) → Type 0
FollowsAgain old text new = ((text.references ≡ 0) × (new ≡ old)) ⊎ FollowsSome old text new

-- the sink holds its text, so that it has the laws of such a sink
abbrev pub Holds : {S : Type 0} → Ghosts S → Type 0
Holds sink = HoldingLaws sink.took sink.failed sink.room sink.held

-- the bytes of a text that the sink holds were put again
pub record TakesText {S : Type 0} (sink : Ghosts S) (old : SizeLimitedFmtAdapter S) (text : HeldText) (new : SizeLimitedFmtAdapter S) : Type 0 where
  pub laws : Holds sink
  pub again : TakesAgain sink.took (sink.held old.out.now) text.start text.len old.out.now new.out.now
  pub room : sink.room new.out.now ≡ room_after text.len (sink.room old.out.now)

-- a text that the sink holds was put again
pub record PutsAgain {S : Type 0} (sink : Ghosts S) (old : SizeLimitedFmtAdapter S) (text : HeldText) (new : SizeLimitedFmtAdapter S) : Type 0 where
  pub same_sink : new.out ≡ record old.out { now = new.out.now }
  pub some : 0 < text.len
  pub takes : TakesText sink old text new
  pub not_failed : sink.failed new.out.now ≡ false
  pub within : text.len ≤ old.remaining
  pub left : new.remaining ≡ old.remaining - text.len
  pub open_ : new.is_limit_reached ≡ false
  pub reread : FollowsAgain old.reread text new.reread

-- Printing these pieces returned `result`. They are not the whole text: the reference after them would have made the
-- parser read too many bytes again.
pub record StopsShort {S : Type 0} (sink : Ghosts S) (old : SizeLimitedFmtAdapter S) (pieces : List (List ℕ)) (result : Result (Unit {0}) SinkRefused) (new : SizeLimitedFmtAdapter S) : Type 0 where
  pub same_sink : new.out.ghost_name ≡ old.out.ghost_name
  pub refused : IsErr result
  pub hands : PutsPieces sink old.out.now (prefix_within pieces old.remaining) (sink_result new.is_limit_reached result) new.out.now

-- Printing a text returned `result`, and perhaps references were followed. These pieces are the text up to the limit of
-- the bytes that are read again, and the whole text or not.
abbrev pub PrintsUpTo : {S : Type 0} → Ghosts S → SizeLimitedFmtAdapter S → List (List ℕ) → (is_whole : Bool) → Result (Unit {0}) SinkRefused → SizeLimitedFmtAdapter S → Type 0
PrintsUpTo sink old pieces true result new = Prints sink old pieces result (record new { reread = old.reread })
PrintsUpTo sink old pieces false result new = StopsShort sink old pieces result new

-- the texts of a slice of references
abbrev pub texts : List (Bor (List ℕ)) → List (List ℕ)
texts pieces = map (λ piece. piece.now) pieces

-- the whole list was printed except the rest
pub record PrintedPrefix {S : Type 0} (sink : Ghosts S) (old : SizeLimitedFmtAdapter S) (whole rest : List (List ℕ)) (new : SizeLimitedFmtAdapter S) : Type 0 where
  pub prefix : List (List ℕ)
  pub done : Prints sink old prefix (Ok tt) new
  pub is : prefix ++ rest ≡ whole
