-- The laws of a sink that appends to a buffer, which holds all that the sink took.
use Rattle.std.specs.Prelude.{◌≡◌, ℕ, List, ◌++◌, Some}
use Rattle.std.proofs.Common.{refl, sym, ap, arith, ◌∙◌}
use Rattle.std.proofs.lemmas.List.{append_assoc}
use Rattle.demangle_sink.specs.Sink.{HoldingLaws}
use Rattle.rustc_demangle.specs.declared.stream.buffer_sink.BufferSink.{BufferSink}

abbrev pub BufferTook : BufferSink → List ℕ → BufferSink → Type 0
BufferTook s bytes t = (t.held.ghost_name ≡ s.held.ghost_name) × (t.held.now ≡ s.held.now ++ bytes)

pub buffer_laws : HoldingLaws BufferTook (λ s. s.failed) (λ s. Some 0) (λ s. Some s.held.now)
buffer_laws = record {
  grows = λ s t xs h. h.1;
  splits = λ s u xs ys a h. (
    record s { held = record s.held { now = s.held.now ++ xs } },
    (refl, refl),
    (h.0, h.1 ∙ sym (append_assoc s.held.now xs ys)),
    a,
    ap Some (omega arith),
  );
}
