use Rattle.std.proofs.Common.{◌≢◌, All, length, drop}
use Rattle.std.specs.Io.{StartsWith}
use Rattle.std.specs.Io.KnownBytes.{Consumes}
use Rattle.rustc_demangle.proofs.stream.line_reader.read_line.Given as goal

abbrev pub invariant-loop : goal.invariant-loop
invariant-loop g l = StartsWith l.line.items l.initial.line.items
    × All (λ x. x ≢ 10) (drop (length l.initial.line.items) l.line.items)
    × Consumes (g.R.Read.remaining l.initial.input) (g.R.Read.remaining l.input) (drop (length l.initial.line.items) l.line.items)
