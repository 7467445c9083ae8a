use Rattle.demangle_sink.proofs.SlicesAgain.{slice_laws}
use Rattle.demangle_sink.proofs.slice_sink.SliceSinkTextSink.held_len.Goals as goal

pub returns-clause-laws : goal.returns-clause-laws
returns-clause-laws c = slice_laws
