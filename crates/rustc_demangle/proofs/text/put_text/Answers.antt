use Rattle.std.proofs.Common.{rules, refl}
use Rattle.demangle_value.proofs.RunStarts.{all_cut}
use Rattle.demangle_value.proofs.RunLemmas.{cut_at}
use Rattle.rustc_demangle.proofs.PieceLemmas.{feeding_init, feeding_step, feeding_kept, feeding_run, feeding_end}
use Rattle.rustc_demangle.proofs.text.put_text.Goals as goal

pub loop-start-init : goal.loop-start-init
loop-start-init g c = (search rules, feeding_init g.S.TextSink c.args.format _ _ c.requires)

pub split_at-requires-in-Some : goal.split_at-requires-in-Some
split_at-requires-in-Some g c =
    cut_at _ _ _ _ _ _ c.as_bytes-in-Some.ensures.utf8 c.as_bytes.ensures.value c.in-Some.ensures.some.1 c.split_at.ensures.back c.as_bytes-in-Some.ensures.value c.run_len.ensures

pub put_run-requires-clause-run : goal.put_run-requires-clause-run
put_run-requires-clause-run g c = all_cut _ _ _ _ c.as_bytes-in-Some.ensures.value c.run_len.ensures c.split_at-in-Some.ensures.front

pub returns-in_err-put_piece : goal.returns-in_err-put_piece
returns-in_err-put_piece g c =
    feeding_kept g.S.TextSink c.args.format _ _ _ _ _ _ _ _ _ _ _ _ _ _ _ c.loop-start.invariant.1
    (c.as_bytes.ensures.value, c.in-Some.ensures.some, c.split_at.ensures.front, c.split_at.ensures.back, c.as_bytes-in-Some.ensures.value, c.run_len.ensures, c.split_at-in-Some.ensures.front, c.split_at-in-Some.ensures.back)
    c.in_err-put_piece.ensures refl c.from_residual.ensures.0

pub returns-in_err-put_run : goal.returns-in_err-put_run
returns-in_err-put_run g c =
    feeding_run g.S.TextSink c.args.format _ _ _ _ _ _ _ _ _ _ _ _ _ _ _ _ _ c.loop-start.invariant.1
    (c.as_bytes.ensures.value, c.in-Some.ensures.some, c.split_at.ensures.front, c.split_at.ensures.back, c.as_bytes-in-Some.ensures.value, c.run_len.ensures, c.split_at-in-Some.ensures.front, c.split_at-in-Some.ensures.back)
    c.in_ok-put_piece.ensures refl c.in_err-put_run.ensures.pieces refl c.from_residual-in_err-put_run.ensures.0

pub loop-start-preserved : goal.loop-start-preserved
loop-start-preserved g c = (
  search rules,
  feeding_step g.S.TextSink c.args.format _ _ _ _ _ _ _ _ _ _ _ _ _ _ _ _ c.loop-start.invariant.1
      (c.as_bytes.ensures.value, c.in-Some.ensures.some, c.split_at.ensures.front, c.split_at.ensures.back, c.as_bytes-in-Some.ensures.value, c.run_len.ensures, c.split_at-in-Some.ensures.front, c.split_at-in-Some.ensures.back)
      c.in_ok-put_piece.ensures refl c.in_ok-put_run.ensures.pieces refl,
)

pub returns : goal.returns
returns g c =
    feeding_end g.S.TextSink c.args.format _ _ _ _ _ _ _ c.loop-start.invariant.1 c.as_bytes.ensures.value c.in_default.ensures.none c.put_piece-2.ensures
