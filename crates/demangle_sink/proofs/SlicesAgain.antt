-- A slice that takes bytes again.
use Rattle.std.specs.Prelude.{◌≡◌, ℕ, ◌+◌, ◌-◌, ◌≤◌, Some, List, drop, length, refl, IfSome}
use Rattle.std.below.core.specs.declared.int.usize.TheConstants.{MAX}
use Rattle.std.specs.List.{copy_within}
use Rattle.std.proofs.Common.{subst, sym}
use Rattle.demangle_sink.specs.declared.slice_sink.SliceSink.{SliceSink}
use Rattle.demangle_sink.specs.Sink.{HasLength, HoldingLaws, TakesAgain}
use Rattle.demangle_sink.specs.Slice.{held_text, overlay_from, WrittenPart, WrittenPart-first, WrittenPart-second}
use Rattle.demangle_sink.proofs.HeldTexts.{held_more, room_first, takes_again}

abbrev pub SliceTook : SliceSink → List ℕ → SliceSink → Type 0
SliceTook s bytes t = (t.out.ghost_name ≡ s.out.ghost_name) × (t.start ≡ s.start) × WrittenPart s.start s.out.now s.len bytes t.out.now t.len

pub slice_laws : HoldingLaws SliceTook (λ s. s.failed) (λ s. Some (MAX - s.len)) (λ s. held_text s.start s.len s.out.now)
slice_laws = record {
  grows = λ s t xs h. held_more s.start t.start s.len t.len s.out.now t.out.now xs h.1 h.2;
  splits = λ s u xs ys a h. (
    record s {
      out = record s.out { now = overlay_from (s.len - s.start) s.out.now (drop (s.start - s.len) xs) };
      len = s.len + length xs;
    },
    (refl, refl, WrittenPart-first s.start s.out.now s.len xs),
    (h.0, h.1, WrittenPart-second s.start s.out.now s.len xs ys u.out.now u.len h.2),
    a,
    room_first s.len (length xs),
  );
}

pub slice_again : (old new : SliceSink) (place i k : ℕ) → HasLength (held_text old.start old.len old.out.now) place → IfSome (held_text old.start old.len old.out.now) (λ bytes. i + k ≤ length bytes) → k ≤ length old.out.now - place
    → new.out.ghost_name ≡ old.out.ghost_name → new.start ≡ old.start → new.out.now ≡ copy_within old.out.now i (i + k) place → new.len ≡ place + k
    → TakesAgain SliceTook (held_text old.start old.len old.out.now) i k old new
slice_again old new place i k h w l name start now len =
    takes_again SliceTook old new old.start old.len place i k old.out.now new.out.now h w l now
    (λ bytes part. (name, start, subst (λ m. WrittenPart old.start old.out.now old.len bytes new.out.now m) (sym len) part))
