use Rattle.std.proofs.Common.{arith, refl, subst, IsErr}
use Rattle.std.proofs.lemmas.Bool.{false≢true}
use Rattle.std.proofs.lemmas.Grind.{common_steps}
use Rattle.std.specs.Io.BufRead.{FillKeeps}
use Rattle.std.proofs.BufReadLemmas.{Consumes_shown}
use Rattle.rustc_demangle.proofs.ByteStreamLemmas.{step_took}
use Rattle.rustc_demangle.proofs.LinearLooks.{no_looks, step_paid, step_lost, end_linear, end_paid}
use Rattle.rustc_demangle.proofs.stream.bytes.BytesFilter.step_counted.Goals as goal

pub returns-in-Err-clause-ended : goal.returns-in-Err-clause-ended
returns-in-Err-clause-ended g c = λ e. absurd (false≢true (subst IsErr e refl))

pub returns-then-is_empty-clause-ended : goal.returns-then-is_empty-clause-ended
returns-then-is_empty-clause-ended g c = grind (arith, common_steps)

-- Wrong bodies fail at the next four goals and the last, which need no answer otherwise.
pub returns-in-Err-clause-unread : goal.returns-in-Err-clause-unread
returns-in-Err-clause-unread g c = no_looks c.read_fault.result c.args.looks.now

pub returns-in-Err-clause-linear : goal.returns-in-Err-clause-linear
returns-in-Err-clause-linear g c = end_linear c.args.memo.now _ _ c.args.looks.now c.args.looks.now (λ e. omega arith)

pub returns-then-is_empty-clause-grows : goal.returns-then-is_empty-clause-grows
returns-then-is_empty-clause-grows g c = grind (arith, common_steps)

pub returns-then-is_empty-clause-linear : goal.returns-then-is_empty-clause-linear
returns-then-is_empty-clause-linear g c = rw (← c.self.view_is) (end_linear c.args.memo.now _ _ _ _ c.finish.ensures.linear)

pub returns-clause-took : goal.returns-clause-took
returns-clause-took g c = λ _.
    let rested = c.fill_buf.follows.lender-at-none in
    let filled = subst (FillKeeps _ (g.R.Read.remaining rested) (g.R.BufRead.consumable_len rested)) c.in-Ok.is c.fill_buf.follows.holds-at-none in
    let moved = Consumes_shown _ _ _ _ c.in-Ok.available.now c.in_ok-taken.taken c.in_ok-taken.ensures.bound c.in-Ok.ensures.front c.in-Ok.ensures.end filled.0 filled.1 c.consume.ensures.bytes in
    rw (← c.self.view_is) (step_took _ _ _ _ _ _ _ _ _ c.in_ok-taken.ensures.bound c.in_ok-taken.ensures.less c.in-Ok.ensures.front moved.0 c.in_ok-taken.ensures.ok)

pub returns-clause-paid : goal.returns-clause-paid
returns-clause-paid g c =
    let rested = c.fill_buf.follows.lender-at-none in
    let filled = subst (FillKeeps _ (g.R.Read.remaining rested) (g.R.BufRead.consumable_len rested)) c.in-Ok.is c.fill_buf.follows.holds-at-none in
    let moved = Consumes_shown _ _ _ _ c.in-Ok.available.now c.in_ok-taken.taken c.in_ok-taken.ensures.bound c.in-Ok.ensures.front c.in-Ok.ensures.end filled.0 filled.1 c.consume.ensures.bytes in
    rw (← c.self.view_is) (step_paid c.args.memo.now _ _ c.in-Ok.available.now c.in_ok-taken.taken _ _ _ _ c.in_ok-taken.ensures.bound moved.0 c.in_ok-taken.ensures.paid)

pub returns-clause-linear : goal.returns-clause-linear
returns-clause-linear g c = rw (← c.self.view_is) (step_lost c.args.memo.now _ c.in-Ok.available.now _ _ _ c.in-Ok.ensures.front c.in_ok-taken.ensures.lost)

pub returns-in_err-taken-clause-linear : goal.returns-in_err-taken-clause-linear
returns-in_err-taken-clause-linear g c = rw (← c.self.view_is) (step_lost c.args.memo.now _ c.in-Ok.available.now _ _ _ c.in-Ok.ensures.front c.in_err-taken.ensures.lost)

pub returns-then-is_empty-clause-paid : goal.returns-then-is_empty-clause-paid
returns-then-is_empty-clause-paid g c =
    let ended = returns-then-is_empty-clause-ended g c refl in
    rw (← c.self.view_is) (end_paid c.args.memo.now _ _ _ _ _ _ ended.0 ended.1 c.finish.ensures.linear)
