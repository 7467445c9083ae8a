use Rattle.demangle_value.proofs.value.Demangle.write_limited.Goals as goal

pub returns : goal.returns
returns g c = c.write_limited_counted.ensures.writes
