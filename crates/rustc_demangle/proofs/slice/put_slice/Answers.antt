use Rattle.std.proofs.Common.{◌≤◌, ◌<◌, ◌+◌, length, Ok, Err, refl, sym, ap, subst, arith, length-drop}
use Rattle.std.proofs.lemmas.List.{length-take}
use Rattle.rustc_demangle.proofs.LinearLooks.{grow_more, paid_step, paid_lost, paid_all}
use Rattle.std.proofs.lemmas.List.Sums.{prefix_len-le-length}
use Rattle.demangle_sink.specs.contracts.slice_sink.SliceSinkTextSink.TheImpl.{ghosts}
use Rattle.demangle_value.specs.Filtered.{is_run_byte}
use Rattle.rustc_demangle.specs.Rewritten.{replacement_of}
use Rattle.rustc_demangle.specs.declared.byte_before.ByteBefore.TheVariants.{Outside}
use Rattle.demangle_value.proofs.RunStarts.{all_cut}
use Rattle.rustc_demangle.proofs.ByteStreamLemmas.{found_some}
use Rattle.rustc_demangle.proofs.SliceLemmas.{slice_puts, slice_text, slice_fits, rewriting_step, rewriting_kept, rewriting_run, rewriting_end}
use Rattle.rustc_demangle.proofs.slice.put_slice.Goals as goal

pub split_at-requires-in-Some : goal.split_at-requires-in-Some
split_at-requires-in-Some c =
    subst (λ n. n ≤ length c.split_at.result.1.now) (sym c.run_len.ensures) (prefix_len-le-length is_run_byte c.split_at.result.1.now)

pub put_candidate-requires-clause-run : goal.put_candidate-requires-clause-run
put_candidate-requires-clause-run c = all_cut _ _ _ _ refl c.run_len.ensures c.split_at-in-Some.ensures.front

pub returns-in_err-put_bytes : goal.returns-in_err-put_bytes
returns-in_err-put_bytes c = record {
  text = slice_text _ _ _ _ (rewriting_kept ghosts (replacement_of c.args.format) _ _ _ _ _ _ _ _ _ _ _ _ _ _ c.loop-start.invariant.0
      (c.in-Some.ensures.some, c.plain_len.ensures, c.split_at.ensures.front, c.split_at.ensures.back, c.run_len.ensures, c.split_at-in-Some.ensures.front, c.split_at-in-Some.ensures.back)
      (slice_puts c.loop-start.out c.split_at.result.0.now (Err (record {})) c.put_bytes.new.self c.in_err-put_bytes.ensures.taken c.in_err-put_bytes.ensures.not_failed c.in_err-put_bytes.ensures.refused c.in_err-put_bytes.ensures.kept c.in_err-put_bytes.ensures.fits)
      refl c.from_residual.ensures.0);
  fits = slice_fits _ _ _ _ (rewriting_kept ghosts (replacement_of c.args.format) _ _ _ _ _ _ _ _ _ _ _ _ _ _ c.loop-start.invariant.0
      (c.in-Some.ensures.some, c.plain_len.ensures, c.split_at.ensures.front, c.split_at.ensures.back, c.run_len.ensures, c.split_at-in-Some.ensures.front, c.split_at-in-Some.ensures.back)
      (slice_puts c.loop-start.out c.split_at.result.0.now (Err (record {})) c.put_bytes.new.self c.in_err-put_bytes.ensures.taken c.in_err-put_bytes.ensures.not_failed c.in_err-put_bytes.ensures.refused c.in_err-put_bytes.ensures.kept c.in_err-put_bytes.ensures.fits)
      refl c.from_residual.ensures.0);
  grows = c.loop-start.invariant.2;
  linear = paid_all c.args.format (length c.args.text.now) (length c.loop-start.rest.now) _ _ c.loop-start.invariant.1;
}

pub returns-in_err-put_candidate : goal.returns-in_err-put_candidate
returns-in_err-put_candidate c =
    let some = found_some Outside c.loop-start.rest.now c.split_at.result.1.now c.in-Some.start c.plain_len.result c.split_at.ensures.back (omega (arith, c.in-Some.ensures.some.0)) c.plain_len.ensures c.in-Some.ensures.some.1 in
    let there : 0 < length c.split_at-in-Some.result.0.now = omega (arith, some.0, some.1, c.run_len.ensures, ap length c.split_at-in-Some.ensures.front, length-take c.run_len.result c.split_at.result.1.now) in
    let lengths : length c.split_at-in-Some.result.0.now ≤ length c.loop-start.rest.now = omega (
      arith,
      some.0,
      c.run_len.ensures,
      ap length c.split_at.ensures.back,
      length-drop c.plain_len.result c.loop-start.rest.now,
      ap length c.split_at-in-Some.ensures.front,
      length-take c.run_len.result c.split_at.result.1.now,
      ap length c.split_at-in-Some.ensures.back,
      length-drop c.run_len.result c.split_at.result.1.now,
    ) in
    record {
      text = slice_text _ _ _ _ (rewriting_run ghosts (replacement_of c.args.format) _ _ _ _ _ _ _ _ _ _ _ _ _ _ _ _ c.loop-start.invariant.0
          (c.in-Some.ensures.some, c.plain_len.ensures, c.split_at.ensures.front, c.split_at.ensures.back, c.run_len.ensures, c.split_at-in-Some.ensures.front, c.split_at-in-Some.ensures.back)
          (slice_puts c.loop-start.out c.split_at.result.0.now (Ok tt) c.put_bytes.new.self c.in_ok-put_bytes.ensures.taken c.in_ok-put_bytes.ensures.not_failed c.in_ok-put_bytes.ensures.refused c.in_ok-put_bytes.ensures.kept c.in_ok-put_bytes.ensures.fits)
          refl c.in_err-put_candidate.ensures.text refl c.from_residual-in_err-put_candidate.ensures.0);
      fits = slice_fits _ _ _ _ (rewriting_run ghosts (replacement_of c.args.format) _ _ _ _ _ _ _ _ _ _ _ _ _ _ _ _ c.loop-start.invariant.0
          (c.in-Some.ensures.some, c.plain_len.ensures, c.split_at.ensures.front, c.split_at.ensures.back, c.run_len.ensures, c.split_at-in-Some.ensures.front, c.split_at-in-Some.ensures.back)
          (slice_puts c.loop-start.out c.split_at.result.0.now (Ok tt) c.put_bytes.new.self c.in_ok-put_bytes.ensures.taken c.in_ok-put_bytes.ensures.not_failed c.in_ok-put_bytes.ensures.refused c.in_ok-put_bytes.ensures.kept c.in_ok-put_bytes.ensures.fits)
          refl c.in_err-put_candidate.ensures.text refl c.from_residual-in_err-put_candidate.ensures.0);
      grows = grow_more _ _ _ c.loop-start.invariant.2 c.in_err-put_candidate.ensures.grows;
      linear = paid_lost c.args.format (length c.args.text.now) (length c.loop-start.rest.now) (length c.split_at-in-Some.result.0.now) _ _ _ lengths c.loop-start.invariant.1 (c.in_err-put_candidate.ensures.linear there);
    }

pub loop-start-smaller : goal.loop-start-smaller
loop-start-smaller c =
    let some = found_some Outside c.loop-start.rest.now c.split_at.result.1.now c.in-Some.start c.plain_len.result c.split_at.ensures.back (omega (arith, c.in-Some.ensures.some.0)) c.plain_len.ensures c.in-Some.ensures.some.1 in
    omega (
      arith,
      some.0,
      some.1,
      c.run_len.ensures,
      ap length c.split_at.ensures.back,
      length-drop c.plain_len.result c.loop-start.rest.now,
      ap length c.split_at-in-Some.ensures.back,
      length-drop c.run_len.result c.split_at.result.1.now,
    )

pub loop-start-preserved : goal.loop-start-preserved
loop-start-preserved c =
    let some = found_some Outside c.loop-start.rest.now c.split_at.result.1.now c.in-Some.start c.plain_len.result c.split_at.ensures.back (omega (arith, c.in-Some.ensures.some.0)) c.plain_len.ensures c.in-Some.ensures.some.1 in
    let there : 0 < length c.split_at-in-Some.result.0.now = omega (arith, some.0, some.1, c.run_len.ensures, ap length c.split_at-in-Some.ensures.front, length-take c.run_len.result c.split_at.result.1.now) in
    let lengths : length c.split_at-in-Some.result.0.now + length c.split_at-in-Some.result.1.now ≤ length c.loop-start.rest.now = omega (
      arith,
      some.0,
      c.run_len.ensures,
      ap length c.split_at.ensures.back,
      length-drop c.plain_len.result c.loop-start.rest.now,
      ap length c.split_at-in-Some.ensures.front,
      length-take c.run_len.result c.split_at.result.1.now,
      ap length c.split_at-in-Some.ensures.back,
      length-drop c.run_len.result c.split_at.result.1.now,
    ) in (
      rewriting_step ghosts (replacement_of c.args.format) _ _ _ _ _ _ _ _ _ _ _ _ _ _ _ c.loop-start.invariant.0
          (c.in-Some.ensures.some, c.plain_len.ensures, c.split_at.ensures.front, c.split_at.ensures.back, c.run_len.ensures, c.split_at-in-Some.ensures.front, c.split_at-in-Some.ensures.back)
          (slice_puts c.loop-start.out c.split_at.result.0.now (Ok tt) c.put_bytes.new.self c.in_ok-put_bytes.ensures.taken c.in_ok-put_bytes.ensures.not_failed c.in_ok-put_bytes.ensures.refused c.in_ok-put_bytes.ensures.kept c.in_ok-put_bytes.ensures.fits)
          refl c.in_ok-put_candidate.ensures.text refl,
      paid_step c.args.format (length c.args.text.now) (length c.loop-start.rest.now) (length c.split_at-in-Some.result.0.now) (length c.split_at-in-Some.result.1.now) _ _ _ lengths c.loop-start.invariant.1 (c.in_ok-put_candidate.ensures.linear there),
      grow_more _ _ _ c.loop-start.invariant.2 c.in_ok-put_candidate.ensures.grows,
    )

pub returns : goal.returns
returns c =
    let e = c.put_bytes-2.ensures in record {
      text = slice_text _ _ _ _ (rewriting_end ghosts (replacement_of c.args.format) _ _ _ _ _ _ c.loop-start.invariant.0 c.in_default.ensures.none
          (slice_puts c.loop-start.out c.loop-start.rest.now c.put_bytes-2.result c.put_bytes-2.new.self e.taken e.not_failed e.refused e.kept e.fits));
      fits = slice_fits _ _ _ _ (rewriting_end ghosts (replacement_of c.args.format) _ _ _ _ _ _ c.loop-start.invariant.0 c.in_default.ensures.none
          (slice_puts c.loop-start.out c.loop-start.rest.now c.put_bytes-2.result c.put_bytes-2.new.self e.taken e.not_failed e.refused e.kept e.fits));
      grows = c.loop-start.invariant.2;
      linear = paid_all c.args.format (length c.args.text.now) (length c.loop-start.rest.now) _ _ c.loop-start.invariant.1;
    }
