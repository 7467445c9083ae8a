-- What the parts of the output print: texts and arguments.
use Rattle.std.specs.Prelude.{◌≡◌, ℕ, List, [], ◌∷◌, ◌++◌, Some, option_map}
use Rattle.std.specs.List.{concat}
use Rattle.std.specs.Option.{option_map_or}
use Rattle.std.specs.declared.option.Option.{Option}
use Rattle.std.specs.Io.KnownBytes.{Appends}
use Rattle.rustc_demangle.specs.ByteStream.{SplitsNoCandidate}
use Rattle.rustc_demangle.specs.Rewritten.{rewritten_in}
use Rattle.demangle_value.specs.Stripped.{stripped}
use Rattle.demangle_value.specs.Symbols.{form_in, handed_in, pieces_in}
use Rattle.rustc_demangle.specs.declared.byte_before.ByteBefore.TheVariants.{Outside}
use Rattle.demangle_value.specs.declared.format.Format.{Format}
use Rattle.rustc_demangle.specs.declared.stream.fault.StreamFault.{StreamFault}
use Rattle.rustc_demangle.specs.declared.stream.fault.StreamFault.TheVariants.{Read, NotUtf8, Write, Memory}
use Rattle.kodliwe_program.specs.declared.filtering.Part.{Part}
use Rattle.kodliwe_program.specs.declared.filtering.Part.TheVariants as parts

-- an input, or an argument
pub data PartText : Type 0 where
  text : List ℕ → PartText
  argument : List ℕ → PartText

-- the bytes of an input or an argument
abbrev pub part_bytes : PartText → List ℕ
part_bytes (text bytes) = bytes
part_bytes (argument bytes) = bytes

-- a part, if the bytes that remain in its reader are known
abbrev pub part_of : {R : Type 0} → (R → Option (List ℕ)) → Part R → Option PartText
part_of remaining (parts.Text input) = option_map text (remaining input.reader)
part_of remaining (parts.Argument given) = Some (argument given.now)

-- What an argument prints. If the whole argument is a symbol, that is the symbol. Otherwise it is filtered.
abbrev pub argument_in : Format → List ℕ → List ℕ
argument_in format given = option_map_or (λ _. concat (handed_in (stripped given) format)) (pieces_in (form_in format (stripped given)) (stripped given))
    (rewritten_in format given)

-- What a part prints. An argument is a line.
abbrev pub part_in : Format → PartText → List ℕ
part_in format (text bytes) = rewritten_in format bytes
part_in format (argument bytes) = argument_in format bytes ++ 10 ∷ []

-- What all parts print, in order. A symbol does not continue from one part into the next.
abbrev pub all_printed : {X : Type 0} → (X → List ℕ) → List X → List ℕ
all_printed printed [] = []
all_printed printed (part ∷ following) = printed part ++ all_printed printed following

-- the parts are known, and they are these
abbrev pub Remain : {X : Type 0} → List (Option X) → List X → Type 0
Remain [] [] = Unit {0}
Remain [] (part ∷ following) = ⊥
Remain (held ∷ others) [] = ⊥
Remain (held ∷ others) (part ∷ following) = (held ≡ Some part) × Remain others following

-- the writer appended what all parts print
abbrev pub WroteAll : {X : Type 0} → (X → List ℕ) → List (Option X) → Option (List ℕ) → Option (List ℕ) → Type 0
WroteAll printed held old new = (all : List _) → Remain held all → Appends old new (all_printed printed all)

-- The writer appended what the parts before one print, and a filtered prefix of that part, and nothing more. The
-- prefix is not cut inside a symbol.
pub record StoppedIn (format : Format) (all : List PartText) (old new : Option (List ℕ)) : Type 0 where
  pub before : List PartText
  pub part : PartText
  pub following : List PartText
  pub prefix : List ℕ
  pub left : List ℕ
  pub whole : all ≡ before ++ part ∷ following
  pub within : part_bytes part ≡ prefix ++ left
  pub uncut : SplitsNoCandidate Outside prefix left
  pub wrote : Appends old new (all_printed (part_in format) before ++ rewritten_in format prefix)

-- `StoppedIn` for whatever the parts are
abbrev pub WrotePrefix : Format → List (Option PartText) → Option (List ℕ) → Option (List ℕ) → Type 0
WrotePrefix format held old new = (all : List PartText) → Remain held all → StoppedIn format all old new

-- The promise after an error. It says nothing about the bytes of a write that failed.
abbrev pub RunStopped : StreamFault → Format → List (Option PartText) → Option (List ℕ) → Option (List ℕ) → Type 0
RunStopped (Read e) format held old new = WrotePrefix format held old new
RunStopped NotUtf8 format held old new = WrotePrefix format held old new
RunStopped (Write e) format held old new = Unit {0}
RunStopped Memory format held old new = WrotePrefix format held old new
