-- The looks that the program makes at its inputs and arguments, and the size of its output.
use Rattle.std.specs.Prelude.{◌≡◌, ℕ, ◌+◌, ◌*◌, ◌≤◌, List, [], ◌∷◌, length, IfSome}
use Rattle.std.specs.declared.option.Option.{Option}
use Rattle.demangle_symbol.specs.declared.cursor.looks.RunLooks.{RunLooks}
use Rattle.rustc_demangle.specs.LinearLooks.{all_looks}
use Rattle.demangle_value.specs.declared.format.Format.{Format}
use Rattle.demangle_value.specs.declared.format.RereadLimit.TheVariants as reread
use Rattle.kodliwe_program.specs.Parts.{PartText, text, argument, Remain}
use Rattle.kodliwe_program.specs.declared.filtering.FilterOutcome.{FilterOutcome}
use Rattle.kodliwe_program.specs.declared.filtering.FilterOutcome.TheVariants.{Complete, Closed, ReadFailed, WriteFailed}

-- the bytes of a part; those of an argument with the line feed after it
abbrev pub part_len : PartText → ℕ
part_len (text bytes) = length bytes
part_len (argument bytes) = length bytes + 1

abbrev pub total_len : List PartText → ℕ
total_len [] = 0
total_len (part ∷ following) = part_len part + total_len following

-- with a linear limit of the bytes that are read again, the looks at n bytes are at most 23,650 for each
abbrev pub LooksAt : Format → (n : ℕ) → (old new : RunLooks) → Type 0
LooksAt format n old new = format.reread ≡ reread.Linear → all_looks new ≤ all_looks old + 23650 * n

-- the same for parts, whatever they are
abbrev pub LooksAtParts : Format → List (Option PartText) → (old new : RunLooks) → Type 0
LooksAtParts format held old new = (all : List PartText) → Remain held all → LooksAt format (total_len all) old new

-- the writer appended at most so many bytes, if its contents are known
abbrev pub AppendsAtMost : ℕ → (old new : Option (List ℕ)) → Type 0
AppendsAtMost n old new = IfSome old (λ before. IfSome new (λ after. length after ≤ length before + n))

-- The writer appended at most 1,000 bytes for each byte of the parts. Nothing is known after an error of the writer.
abbrev pub OutputWithin : FilterOutcome → List (Option PartText) → (old new : Option (List ℕ)) → Type 0
OutputWithin Complete held old new = (all : List PartText) → Remain held all → AppendsAtMost (1000 * total_len all) old new
OutputWithin Closed held old new = Unit {0}
OutputWithin ReadFailed held old new = (all : List PartText) → Remain held all → AppendsAtMost (1000 * total_len all) old new
OutputWithin WriteFailed held old new = Unit {0}
