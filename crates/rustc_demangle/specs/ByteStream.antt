-- Promises of the byte filter, which reads its input in chunks and buffers an unfinished run.
use Rattle.std.specs.Prelude.{◌≡◌, ◌+◌, ◌*◌, ◌<◌, ◌⊎◌, ℕ, List, true, [], ◌∷◌, ◌++◌, codes, length, drop, Some, IfSome}
use Rattle.std.specs.List.{list_all}
use Rattle.std.specs.declared.option.Option.{Option}
use Rattle.std.specs.declared.io.ErrorKind.TheVariants.{OutOfMemory}
use Rattle.std.specs.IoError.{error_kind}
use Rattle.std.specs.Io.KnownBytes.{Appends, Keeps}
use Rattle.demangle_value.specs.Filtered.{is_run_byte, starts_run, StartsOutsideRun}
use Rattle.rustc_demangle.specs.Rewritten.{before_after, starts_candidate}
use Rattle.rustc_demangle.specs.declared.byte_before.ByteBefore.{ByteBefore}
use Rattle.rustc_demangle.specs.declared.byte_before.ByteBefore.TheVariants.{Outside}
use Rattle.rustc_demangle.specs.declared.stream.fault.StreamFault.{StreamFault}
use Rattle.rustc_demangle.specs.declared.stream.fault.StreamFault.TheVariants.{Read, NotUtf8, Write, Memory}

-- bytes that a filter read and has not written, and what is before them
pub record Unwritten : Type 0 where
  pub before : ByteBefore
  pub bytes : List ℕ

abbrev pub unwritten : ByteBefore → List ℕ → Unwritten
unwritten before bytes = record { before = before; bytes = bytes }

-- a whole text, which follows nothing
abbrev pub from_start : List ℕ → Unwritten
from_start text = unwritten Outside text

-- the bytes, and those that follow them
abbrev pub followed_by : Unwritten → List ℕ → Unwritten
followed_by held more = unwritten held.before (held.bytes ++ more)

-- The text is not cut inside a candidate: one that reaches the end of `prefix` ends there. A candidate is a run, or a
-- run and the `_` that it takes in.
abbrev pub SplitsNoCandidate : ByteBefore → List ℕ → List ℕ → Type 0
SplitsNoCandidate before prefix rest = (plain candidate : List ℕ) → prefix ≡ plain ++ candidate → 0 < length candidate
    → list_all is_run_byte candidate ≡ true → starts_candidate (before_after before plain) (candidate ++ rest) ≡ true → StartsOutsideRun rest

-- the text is empty, may start a run, or is a run
abbrev pub IsPartialRun : List ℕ → Type 0
IsPartialRun text = (text ≡ []) ⊎ (text ≡ codes "_") ⊎ (text ≡ codes "_Z") ⊎ ((starts_run text ≡ true) × (list_all is_run_byte text ≡ true))

-- the same, or such a text with the `_` that a run takes in
abbrev pub IsPartialCandidate : Unwritten → Type 0
IsPartialCandidate held = IsPartialRun held.bytes ⊎ ((held.before ≡ Outside) × (run : List ℕ) × (held.bytes ≡ 95 ∷ run) × IsPartialRun run)

-- `held` is a prefix that is not cut inside a candidate, followed by `left`. The writer appended the filtered prefix
-- and nothing more.
pub record FilteredPrefix (filter : ByteBefore → List ℕ → List ℕ) (held left : Unwritten) (old new : Option (List ℕ)) : Type 0 where
  pub prefix : List ℕ
  pub whole : held.bytes ≡ prefix ++ left.bytes
  pub last : left.before ≡ before_after held.before prefix
  pub uncut : SplitsNoCandidate held.before prefix left.bytes
  pub wrote : Appends old new (filter held.before prefix)

-- `FilteredPrefix` holds for every text that may follow the available bytes. The first `n` are used.
abbrev pub FilteredChunkPrefix : (ByteBefore → List ℕ → List ℕ) → Unwritten → List ℕ → Unwritten → ℕ → Option (List ℕ) → Option (List ℕ) → Type 0
FilteredChunkPrefix filter pending available next n old new =
    (more : List ℕ) → FilteredPrefix filter (followed_by pending (available ++ more)) (followed_by next (drop n available ++ more)) old new

-- the error is the writer's
abbrev pub IsWriting : StreamFault → Type 0
IsWriting (Read e) = ⊥
IsWriting NotUtf8 = ⊥
IsWriting (Write e) = Unit {0}
IsWriting Memory = ⊥

-- After a failed allocation, the pending text and the output are unchanged.
abbrev pub ChunkFailed : StreamFault → Unwritten → Unwritten → Option (List ℕ) → Option (List ℕ) → Type 0
ChunkFailed (Read e) pending next old new = ⊥
ChunkFailed NotUtf8 pending next old new = ⊥
ChunkFailed (Write e) pending next old new = Unit {0}
ChunkFailed Memory pending next old new = (next ≡ pending) × (new ≡ old)

-- After an error of the reader or a failed allocation, the pending text, the input and the output are unchanged.
abbrev pub StepFailed : StreamFault → Unwritten → Unwritten → Option (List ℕ) → Option (List ℕ) → Option (List ℕ) → Option (List ℕ) → Type 0
StepFailed (Read e) pending next left rest old new = (error_kind e ≡ OutOfMemory → ⊥) × (next ≡ pending) × Keeps left rest × (new ≡ old)
StepFailed NotUtf8 pending next left rest old new = ⊥
StepFailed (Write e) pending next left rest old new = Unit {0}
StepFailed Memory pending next left rest old new = (next ≡ pending) × Keeps left rest × (new ≡ old)

-- A step used a part of the input. A prefix of the pending text and the input was filtered, and it is not cut inside
-- a candidate. The rest is pending or still in the input. The length of the pending text, plus twice that of the input,
-- decreased, so steps end.
abbrev pub StepFiltered : (ByteBefore → List ℕ → List ℕ) → Unwritten → Unwritten → Option (List ℕ) → Option (List ℕ) → Option (List ℕ) → Option (List ℕ) → Type 0
StepFiltered filter pending next left rest old new = IfSome left (λ xs. (ys : List ℕ) × (rest ≡ Some ys) × FilteredPrefix filter (followed_by pending xs) (followed_by next ys) old new
    × (length next.bytes + 2 * length ys < length pending.bytes + 2 * length xs))

-- the input was at its end, the pending text was filtered, and the filter is as a new one
abbrev pub StepFinished : (ByteBefore → List ℕ → List ℕ) → Unwritten → Unwritten → Option (List ℕ) → Option (List ℕ) → Option (List ℕ) → Option (List ℕ) → Type 0
StepFinished filter pending next left rest old new = IfSome left (λ xs. (xs ≡ []) × (rest ≡ Some [])) × (next ≡ from_start []) × Appends old new (filter pending.before pending.bytes)

-- After an error, the writer appended the filtered form of a prefix that is not cut inside a candidate. Nothing is
-- promised after an error of the writer.
abbrev pub BytesStopped : (ByteBefore → List ℕ → List ℕ) → StreamFault → Unwritten → Option (List ℕ) → Option (List ℕ) → Type 0
BytesStopped filter (Read e) text old new = (error_kind e ≡ OutOfMemory → ⊥) × (left : Unwritten) × FilteredPrefix filter text left old new
BytesStopped filter NotUtf8 text old new = ⊥
BytesStopped filter (Write e) text old new = Unit {0}
BytesStopped filter Memory text old new = (left : Unwritten) × FilteredPrefix filter text left old new
