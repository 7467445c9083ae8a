use Rattle.std.proofs.Common.{◌<◌, List, ℕ, length, subst}
use Rattle.demangle_sink.specs.contracts.slice_sink.SliceSinkTextSink.TheImpl.{ghosts}
use Rattle.demangle_value.specs.Filtered.{replacement_in}
use Rattle.rustc_demangle.specs.LinearLooks.{LooksLinear}
use Rattle.rustc_demangle.specs.PutsText.{PutsText}
use Rattle.rustc_demangle.proofs.SliceLemmas.{slice_puts, candidate_puts, kept_puts, pieces_put}
use Rattle.rustc_demangle.proofs.slice.put_candidate.Goals as goal

pub returns-then-not-may_be_replaced-clause-text : goal.returns-then-not-may_be_replaced-clause-text
returns-then-not-may_be_replaced-clause-text c =
    let e = c.put_bytes.ensures in
    kept_puts ghosts c.args.format _ _ _ _ (c.may_be_replaced.ensures.kept c.if-not-may_be_replaced.true c.args.format) (slice_puts _ _ _ _ e.taken e.not_failed e.refused e.kept e.fits)

pub returns-clause-text : goal.returns-clause-text
returns-clause-text c =
    candidate_puts ghosts c.args.format _ _ _ _ (c.may_be_replaced.ensures.read c.if-not-may_be_replaced.false)
    (subst (λ (run : List ℕ). PutsText ghosts c.args.out.now (replacement_in c.args.format run) c.put_run.result c.put_run.new.out) c.run_text.ensures (pieces_put ghosts c.args.format _ _ _ _ c.put_run.ensures.pieces))

pub returns-clause-linear : goal.returns-clause-linear
returns-clause-linear c =
    subst (λ (run : List ℕ). 0 < length run → LooksLinear c.args.format (length run) c.args.looks.now c.put_run.new.looks) c.run_text.ensures c.put_run.ensures.linear
