use Rattle.demangle_legacy.proofs.value.Demangle.write_to.Goals as goal

pub returns-clause-prints : goal.returns-clause-prints
returns-clause-prints g c = rw (← c.self.view_is) (c.in_ok-print_elements.ensures.prints c.self.invariant.1)
