-- The steps of the filter over one text, and an output that is closed.
use Rattle.std.specs.Prelude.{◌≡◌, ℕ, List, Some, IfSome}
use Rattle.std.specs.declared.option.Option.{Option}
use Rattle.std.specs.declared.io.ErrorKind.TheVariants.{BrokenPipe}
use Rattle.std.specs.IoError.{error_kind}
use Rattle.rustc_demangle.specs.ByteStream.{Unwritten, followed_by, FilteredPrefix}
use Rattle.rustc_demangle.specs.declared.byte_before.ByteBefore.{ByteBefore}
use Rattle.rustc_demangle.specs.declared.stream.fault.StreamFault.{StreamFault}
use Rattle.rustc_demangle.specs.declared.stream.fault.StreamFault.TheVariants.{Read, NotUtf8, Write, Memory}

-- the error is the writer's: the reader of the pipe has closed it
abbrev pub IsClosedPipe : StreamFault → Type 0
IsClosedPipe (Read e) = ⊥
IsClosedPipe NotUtf8 = ⊥
IsClosedPipe (Write e) = error_kind e ≡ BrokenPipe
IsClosedPipe Memory = ⊥

-- An iteration used a part of the input, or nothing. A prefix of the pending text and the input was filtered, and it
-- is not cut inside a symbol. The rest is pending or still in the input.
abbrev pub FlushStepFiltered : (ByteBefore → List ℕ → List ℕ) → Unwritten → Unwritten → Option (List ℕ) → Option (List ℕ) → Option (List ℕ) → Option (List ℕ) → Type 0
FlushStepFiltered filter pending next left rest old new = IfSome left (λ xs. (ys : List ℕ) × (rest ≡ Some ys) × FilteredPrefix filter (followed_by pending xs) (followed_by next ys) old new)
