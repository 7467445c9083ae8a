use Rattle.std.proofs.Common.{length}
use Rattle.demangle_sink.specs.contracts.slice_sink.SliceSinkTextSink.TheImpl.{ghosts}
use Rattle.rustc_demangle.specs.LinearLooks.{LooksGrow, LooksPaid}
use Rattle.rustc_demangle.specs.Rewritten.{replacement_of}
use Rattle.rustc_demangle.proofs.SliceLemmas.{Rewriting}
use Rattle.rustc_demangle.proofs.slice.put_slice.Given as goal

abbrev pub invariant-loop-start : goal.invariant-loop-start
invariant-loop-start l = Rewriting ghosts (replacement_of l.format) l.text l.initial.out l.out l.rest × LooksPaid l.format (length l.text) (length l.rest) l.initial.looks l.looks
    × LooksGrow l.initial.looks l.looks

abbrev pub decreases-loop-start : goal.decreases-loop-start
decreases-loop-start l = length l.rest
