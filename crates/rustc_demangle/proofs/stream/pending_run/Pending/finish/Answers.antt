use Rattle.std.proofs.Common.{◌≡◌, true, false, ap, subst, sym, ◌∙◌}
use Rattle.std.proofs.lemmas.Result.{on_ok_weaker}
use Rattle.std.specs.Io.KnownBytes.{Appends}
use Rattle.rustc_demangle.specs.Rewritten.{starts_candidate, replacement_of, rewritten_after}
use Rattle.rustc_demangle.specs.ByteStream.{unwritten}
use Rattle.rustc_demangle.proofs.ByteStreamLemmas.{finished_candidate, finished_kept}
use Rattle.rustc_demangle.proofs.stream.pending_run.Pending.finish.Goals.{then-starts_candidate, else-starts_candidate}
use Rattle.rustc_demangle.proofs.stream.pending_run.Pending.finish.Goals as goal

pub returns-clause-ok : goal.returns-clause-ok
returns-clause-ok g c =
    let before = c.args.self.now.before in
    let items = c.args.self.now.bytes.items in
    let memo = c.args.memo.now in
    let same : c.as_slice-text.result.now ≡ items = c.as_slice-text.ensures.value in
    elim c.if-starts_candidate.branch [
      | then-starts_candidate w ↦
          let some : starts_candidate before items ≡ true = ap (starts_candidate before) (sym same) ∙ sym c.starts_candidate.ensures ∙ w.if-starts_candidate.true in
          let text : replacement_of memo c.as_slice-text.result.now ≡ rewritten_after memo before items =
          ap (replacement_of memo) same ∙ finished_candidate (replacement_of memo) (unwritten before items) c.requires some in
          rw (w.written-is, w.output-is) (on_ok_weaker w.write_candidate-written.result (subst (Appends (g.W.Write.contents c.args.output.now) (g.W.Write.contents w.write_candidate-written.new.output)) text) w.write_candidate-written.ensures.ok)
      | else-starts_candidate w ↦
          let none : starts_candidate before items ≡ false = ap (starts_candidate before) (sym same) ∙ sym c.starts_candidate.ensures ∙ w.if-starts_candidate.false in
          let text : c.as_slice-text.result.now ≡ rewritten_after memo before items = same ∙ finished_kept (replacement_of memo) (unwritten before items) c.requires none in
          rw (w.written-is, w.output-is) (on_ok_weaker w.write_unchanged-written.result (subst (Appends (g.W.Write.contents c.args.output.now) (g.W.Write.contents w.write_unchanged-written.new.output)) text) w.write_unchanged-written.ensures.ok)
    ]
