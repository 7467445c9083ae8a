-- Promises of the line stream, including those after an error.
use Rattle.std.specs.Prelude.{◌≡◌, ◌<◌, ℕ, List, Bool, true, false, [], length, take, slice_index_or, flat_map, All, IsUtf8, Some, IfSome, Ok, Err}
use Rattle.std.specs.declared.result.Result.{Result}
use Rattle.std.specs.Io.BufRead.{take_through, DropsThrough}
use Rattle.std.specs.declared.option.Option.{Option}
use Rattle.std.specs.IoError.{error_kind}
use Rattle.std.specs.declared.io.Error.{Error}
use Rattle.std.specs.declared.io.ErrorKind.TheVariants.{InvalidData, OutOfMemory}
use Rattle.std.specs.Io.KnownBytes.{Appends}
use Rattle.rustc_demangle.specs.Lines.{lines}
use Rattle.demangle_value.specs.Filtered.{filtered}
use Rattle.rustc_demangle.specs.declared.stream.fault.StreamFault.{StreamFault}
use Rattle.rustc_demangle.specs.declared.stream.fault.StreamFault.TheVariants.{Read, NotUtf8, Write, Memory}

-- a reader's error becomes `Memory` exactly if its kind is `OutOfMemory`
abbrev pub IsReadFault : Error → StreamFault → Type 0
IsReadFault error (Read e) = (e ≡ error) × (error_kind error ≡ OutOfMemory → ⊥)
IsReadFault error NotUtf8 = ⊥
IsReadFault error (Write e) = ⊥
IsReadFault error Memory = error_kind error ≡ OutOfMemory

-- an error while a line is read; a failed allocation is never reported as `Read`
abbrev pub IsReaderFault : StreamFault → Type 0
IsReaderFault (Read e) = error_kind e ≡ OutOfMemory → ⊥
IsReaderFault NotUtf8 = ⊥
IsReaderFault (Write e) = ⊥
IsReaderFault Memory = Unit {0}

-- the error as an `io::Error`
abbrev pub GivesError : StreamFault → Error → Type 0
GivesError (Read e) error = error ≡ e
GivesError NotUtf8 error = error_kind error ≡ InvalidData
GivesError (Write e) error = error ≡ e
GivesError Memory error = error_kind error ≡ OutOfMemory

-- the output for lines
abbrev pub output_of : Bool → List (List ℕ) → List ℕ
output_of hash parts = flat_map (filtered hash) parts

-- The writer appended the output of the first `k` lines and nothing more. These lines are UTF-8.
pub record WroteLines (text : List ℕ) (hash : Bool) (old new : Option (List ℕ)) (k : ℕ) : Type 0 where
  pub utf8 : All IsUtf8 (take k (lines text))
  pub wrote : Appends old new (output_of hash (take k (lines text)))

-- The text is UTF-8 and read to its end. The writer appended the output of each of its lines and nothing more.
pub record Finished (text : List ℕ) (hash : Bool) (left old new : Option (List ℕ)) : Type 0 where
  pub utf8 : IsUtf8 text
  pub wrote : Appends old new (output_of hash (lines text))
  pub at_end : left ≡ Some []

-- The promise after each error, for a stream that started with this text. It says nothing about the output after an
-- error of the writer.
abbrev pub StreamStopped : StreamFault → List ℕ → Bool → Option (List ℕ) → Option (List ℕ) → Type 0
StreamStopped (Read e) text hash old new = (error_kind e ≡ OutOfMemory → ⊥) × (k : ℕ) × WroteLines text hash old new k
StreamStopped NotUtf8 text hash old new = (k : ℕ) × WroteLines text hash old new k
    × (IsUtf8 (slice_index_or (lines text) k []) → ⊥)
StreamStopped (Write e) text hash old new = Unit {0}
StreamStopped Memory text hash old new = (k : ℕ) × WroteLines text hash old new k

-- A line was read and its output was written, or the input was at its end, or an error occurred. Nothing was written
-- in the last two cases, except if the writer failed.
abbrev pub LineCopied : Result Bool StreamFault → Bool → Option (List ℕ) → Option (List ℕ) → Option (List ℕ) → Option (List ℕ) → Type 0
LineCopied (Ok true) hash left next old new = DropsThrough left next 10 × IfSome left (λ text. (0 < length text)
    × IsUtf8 (take_through 10 text) × Appends old new (filtered hash (take_through 10 text)))
LineCopied (Ok false) hash left next old new = IfSome left (λ text. (text ≡ []) × (next ≡ Some [])) × (new ≡ old)
LineCopied (Err (Read e)) hash left next old new = (error_kind e ≡ OutOfMemory → ⊥) × (new ≡ old)
LineCopied (Err NotUtf8) hash left next old new = IfSome left (λ text. (0 < length text) × (IsUtf8 (take_through 10 text) → ⊥)) × (new ≡ old)
LineCopied (Err (Write e)) hash left next old new = Unit {0}
LineCopied (Err Memory) hash left next old new = new ≡ old
