use Rattle.demangle_v0.proofs.printer.print_to_end.Goals as goal

pub returns-in-Some-clause-ended : goal.returns-in-Some-clause-ended
returns-in-Some-clause-ended g c =
    let same = c.in_ok-print_unfinished.ensures.same in
    λ p began ran. (rw (same.0, same.1) at c.print_in_full_stack.ensures.ended) p began (rw c.in-Some.is at (c.in_ok-print_unfinished.ensures.ran p began ran))
