use Rattle.std.proofs.Common.{◌≡◌, length, map}
use Rattle.std.specs.Vec.Iter.{into_iter_items, into_iter_len}
use Rattle.kodliwe_program.specs.Parts.{part_in, part_of}
use Rattle.kodliwe_program.proofs.PartLemmas.{Printing}
use Rattle.kodliwe_program.proofs.ProgramLooks.{LooksLeft}
use Rattle.kodliwe_program.proofs.filtering.write_parts.Given as goal

abbrev pub invariant-loop-part : goal.invariant-loop-part
invariant-loop-part g l =
    Printing (part_in l.fn.settings.format)
    (map (part_of g.R.Read.remaining) l.fn.parts.items)
    (map (part_of g.R.Read.remaining) (into_iter_items l.part-iterator))
    (g.W.Write.contents l.initial.output) (g.W.Write.contents l.output)
    × (into_iter_len l.part-iterator ≡ length (into_iter_items l.part-iterator))
    × (l.symbols.memo ≡ l.fn.settings.format)
    × LooksLeft l.fn.settings.format (map (part_of g.R.Read.remaining) l.fn.parts.items) (map (part_of g.R.Read.remaining) (into_iter_items l.part-iterator)) l.fn.looks l.symbols.looks
