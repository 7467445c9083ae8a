use Rattle.rustc_demangle.proofs.BufferLaws.{buffer_laws}
use Rattle.rustc_demangle.proofs.stream.buffer_sink.BufferSinkTextSink.put_again.Goals as goal

pub returns-clause-laws : goal.returns-clause-laws
returns-clause-laws c = λ _. buffer_laws
