use Rattle.rustc_demangle.proofs.BufferLaws.{buffer_laws}
use Rattle.rustc_demangle.proofs.stream.buffer_sink.BufferSinkTextSink.held_len.Goals as goal

pub returns-clause-laws : goal.returns-clause-laws
returns-clause-laws c = buffer_laws
