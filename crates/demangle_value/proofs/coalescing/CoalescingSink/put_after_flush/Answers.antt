use Rattle.demangle_value.proofs.CoalescingLemmas.{passed_on_alone}
use Rattle.demangle_value.proofs.coalescing.CoalescingSink.put_after_flush.Goals as goal

pub returns-in_ok-put-clause-took : goal.returns-in_ok-put-clause-took
returns-in_ok-put-clause-took g c =
    let flushed = c.in_ok-flush.ensures in
    passed_on_alone g.S.TextSink.took g.met.S.TextSink.took_joined _ _ _ _
    flushed.same_sink flushed.took c.in_ok-put.ensures.taken flushed.empty
