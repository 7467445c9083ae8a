-- What the program prints, with a linear limit, has at most 1,000 bytes for each byte of its inputs and arguments.
use Rattle.std.proofs.Common.{◌≡◌, ℕ, ◌+◌, ◌*◌, ◌≤◌, List, [], ◌∷◌, ◌++◌, length, length-append, Option, None, Some, refl, ap, arith}
use Rattle.std.specs.Option.{option_map_or}
use Rattle.std.specs.List.{concat}
use Rattle.rustc_demangle.specs.Rewritten.{rewritten_in}
use Rattle.demangle_value.specs.Stripped.{stripped}
use Rattle.demangle_value.specs.Symbols.{form_in, handed_in, pieces_in}
use Rattle.demangle_value.specs.declared.format.Format.{Format}
use Rattle.demangle_value.specs.declared.format.SizeLimit.TheVariants as size
use Rattle.rustc_demangle.proofs.OutputLaws.{linear_handed, rewritten_linear}
use Rattle.demangle_value.proofs.Stripping.{stripped-shorter}
use Rattle.std.specs.Io.KnownBytes.{Appends}
use Rattle.kodliwe_program.specs.Parts.{PartText, text, argument, argument_in, part_bytes, part_in, all_printed, Remain, StoppedIn, WroteAll, WrotePrefix}
use Rattle.kodliwe_program.specs.ProgramLooks.{part_len, total_len, AppendsAtMost, OutputWithin}
use Rattle.kodliwe_program.specs.declared.filtering.FilterOutcome.{FilterOutcome}
use Rattle.kodliwe_program.specs.declared.filtering.FilterOutcome.TheVariants.{Complete, Closed, ReadFailed, WriteFailed}

argument_linear : (format : Format) (given : List ℕ) → format.limit ≡ size.Linear → length (argument_in format given) ≤ 1000 * length given + 20
argument_linear format given e = at (pieces_in (form_in format (stripped given)) (stripped given)) refl
  where
    at : (read : Option (List (List ℕ) × List ℕ)) → pieces_in (form_in format (stripped given)) (stripped given) ≡ read
        → length (option_map_or (λ _. concat (handed_in (stripped given) format)) read (rewritten_in format given)) ≤ 1000 * length given + 20
    at None is = omega (arith, rewritten_linear format e given)
    at (Some read) is = omega (arith, linear_handed format (stripped given) read e is, stripped-shorter given)

part_linear : (format : Format) (part : PartText) → format.limit ≡ size.Linear → length (part_in format part) ≤ 1000 * part_len part
part_linear format (text bytes) e = rewritten_linear format e bytes
part_linear format (argument given) e = omega (arith, argument_linear format given e, length-append (argument_in format given) (10 ∷ []))

pub parts_linear : (format : Format) → format.limit ≡ size.Linear → (all : List PartText) → length (all_printed (part_in format) all) ≤ 1000 * total_len all
parts_linear format e [] = omega arith
parts_linear format e (part ∷ following) =
    omega (arith, length-append (part_in format part) (all_printed (part_in format) following), part_linear format part e, parts_linear format e following)

-- Of what was written.

total_len-append : (xs ys : List PartText) → total_len (xs ++ ys) ≡ total_len xs + total_len ys
total_len-append [] ys = omega arith
total_len-append (x ∷ xs) ys = omega (arith, total_len-append xs ys)

part_len-bytes : (part : PartText) → length (part_bytes part) ≤ part_len part
part_len-bytes (text bytes) = omega arith
part_len-bytes (argument given) = omega arith

appended : (n : ℕ) (bytes : List ℕ) (old new : Option (List ℕ)) → length bytes ≤ n → Appends old new bytes → AppendsAtMost n old new
appended n bytes None new most wrote = tt
appended n bytes (Some xs) None most wrote = tt
appended n bytes (Some xs) (Some ys) most wrote = omega (arith, most, ap length wrote, length-append xs bytes)

stopped_linear : (format : Format) (all : List PartText) (old new : Option (List ℕ)) → format.limit ≡ size.Linear → StoppedIn format all old new → AppendsAtMost (1000 * total_len all) old new
stopped_linear format all old new e stopped = appended _ _ old new
    (omega (
      arith,
      length-append (all_printed (part_in format) stopped.before) (rewritten_in format stopped.prefix),
      parts_linear format e stopped.before,
      rewritten_linear format e stopped.prefix,
      ap length stopped.within,
      length-append stopped.prefix stopped.left,
      part_len-bytes stopped.part,
      ap total_len stopped.whole,
      total_len-append stopped.before (stopped.part ∷ stopped.following),
    )) stopped.wrote

-- all that the parts print was written
pub whole_linear : (format : Format) (held : List (Option PartText)) (old new : Option (List ℕ)) → format.limit ≡ size.Linear
    → WroteAll (part_in format) held old new → (all : List PartText) → Remain held all → AppendsAtMost (1000 * total_len all) old new
whole_linear format held old new e wrote all are = appended _ _ old new (parts_linear format e all) (wrote all are)

-- a beginning of it was written
pub output_linear : (outcome : FilterOutcome) (format : Format) (held : List (Option PartText)) (old new : Option (List ℕ)) → format.limit ≡ size.Linear
    → (outcome ≡ Complete → ⊥) → (outcome ≡ ReadFailed → WrotePrefix format held old new) → OutputWithin outcome held old new
output_linear Complete format held old new e stopped wrote = absurd (stopped refl)
output_linear Closed format held old new e stopped wrote = tt
output_linear ReadFailed format held old new e stopped wrote = λ all are. stopped_linear format all old new e (wrote refl all are)
output_linear WriteFailed format held old new e stopped wrote = tt
