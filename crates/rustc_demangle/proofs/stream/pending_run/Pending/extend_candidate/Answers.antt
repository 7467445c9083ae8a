use Rattle.std.proofs.Common.{ap, arith, refl, sym, subst, length, take}
use Rattle.std.proofs.lemmas.List.{length-append, length-take}
use Rattle.rustc_demangle.specs.ByteStream.{unwritten, IsPartialCandidate}
use Rattle.rustc_demangle.proofs.CandidateLemmas.{candidate_some}
use Rattle.rustc_demangle.proofs.ByteStreamLemmas.{open_candidate, more_candidate, candidate_ended, passed_moved}
use Rattle.rustc_demangle.proofs.stream.pending_run.Pending.extend_candidate.Goals as goal

pub finish-requires : goal.finish-requires
finish-requires g c = more_candidate _ _ _ _ _ refl c.requires.begun c.requires.all c.run_len-len.ensures _ c.in_ok-buffer_bytes.ensures.ok

pub returns-in_ok-finish-clause-ok : goal.returns-in_ok-finish-clause-ok
returns-in_ok-finish-clause-ok g c =
    candidate_ended _ _ _ _ _ _ _ _ _ _ c.in_ok-buffer_bytes.ensures.ok c.run_len-len.ensures c.if-len-available.true c.finish.ensures.none c.finish.ensures.last c.in_ok-finish.ensures.ok

pub returns-else-len-available-clause-pending : goal.returns-else-len-available-clause-pending
returns-else-len-available-clause-pending g c = more_candidate _ _ _ _ _ refl c.requires.begun c.requires.all c.run_len-len.ensures _ c.in_ok-buffer_bytes.ensures.ok

pub returns-else-len-available-clause-ok : goal.returns-else-len-available-clause-ok
returns-else-len-available-clause-ok g c = passed_moved _ _ _ _ _ _ _ _ refl c.in_ok-buffer_bytes.ensures.ok

pub returns-in_ok-finish-clause-less : goal.returns-in_ok-finish-clause-less
returns-in_ok-finish-clause-less g c = omega (arith, ap length c.finish.ensures.none, (candidate_some c.args.self.now.before c.args.self.now.bytes.items c.requires.begun).0)

pub returns-else-len-available-clause-less : goal.returns-else-len-available-clause-less
returns-else-len-available-clause-less g c =
    omega (arith, c.requires.some, ap length c.in_ok-buffer_bytes.ensures.ok, length-append c.args.self.now.bytes.items (take c.run_len-len.result c.args.available.now), length-take c.run_len-len.result c.args.available.now)

pub returns-in_err-buffer_bytes-clause-pending : goal.returns-in_err-buffer_bytes-clause-pending
returns-in_err-buffer_bytes-clause-pending g c =
    subst (λ l. IsPartialCandidate (unwritten c.args.self.now.before l)) (sym c.in_err-buffer_bytes.ensures.err.1) (open_candidate _ _ c.requires.begun c.requires.all)
