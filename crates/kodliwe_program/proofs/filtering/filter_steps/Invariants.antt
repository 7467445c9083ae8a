use Rattle.std.proofs.Common.{◌≡◌, []}
use Rattle.std.specs.Io.Buffered.{reader_remaining}
use Rattle.rustc_demangle.specs.ByteStream.{from_start}
use Rattle.rustc_demangle.specs.LinearLooks.{LooksGrow, StepPaid}
use Rattle.rustc_demangle.specs.Rewritten.{replacement_of}
use Rattle.rustc_demangle.proofs.ByteStreamLemmas.{Passing}
use Rattle.kodliwe_program.proofs.filtering.filter_steps.Given as goal

abbrev pub invariant-loop : goal.invariant-loop
invariant-loop g l = Passing (replacement_of l.initial.symbols.memo) (reader_remaining g.R.Read.remaining l.initial.input) l.filter (reader_remaining g.R.Read.remaining l.input)
    (g.W.Write.contents l.initial.output) (g.W.Write.contents l.output) × (l.symbols.memo ≡ l.initial.symbols.memo)
    × StepPaid l.initial.symbols.memo (from_start []) l.filter (reader_remaining g.R.Read.remaining l.initial.input) (reader_remaining g.R.Read.remaining l.input)
    l.initial.symbols.looks l.symbols.looks
    × LooksGrow l.initial.symbols.looks l.symbols.looks
