use Rattle.std.proofs.Common.{◌≡◌}
use Rattle.std.specs.Prelude.{[]}
use Rattle.rustc_demangle.specs.ByteStream.{from_start}
use Rattle.rustc_demangle.specs.LinearLooks.{LooksGrow, StepPaid}
use Rattle.rustc_demangle.specs.Rewritten.{replacement_of}
use Rattle.rustc_demangle.proofs.ByteStreamLemmas.{Passing}
use Rattle.rustc_demangle.proofs.stream.bytes.demangle_bytes_counted.Given as goal

abbrev pub invariant-loop : goal.invariant-loop
invariant-loop g l = Passing (replacement_of l.initial.memo) (g.R.Read.remaining l.initial.input) l.filter (g.R.Read.remaining l.input)
    (g.W.Write.contents l.initial.output) (g.W.Write.contents l.output) × (l.memo ≡ l.initial.memo)
    × StepPaid l.initial.memo (from_start []) l.filter (g.R.Read.remaining l.initial.input) (g.R.Read.remaining l.input) l.initial.looks l.looks
    × LooksGrow l.initial.looks l.looks
