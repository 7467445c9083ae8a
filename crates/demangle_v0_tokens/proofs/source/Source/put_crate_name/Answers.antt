use Rattle.std.proofs.Common.{refl}
use Rattle.demangle_sink.proofs.PrintsLemmas.{prints_then, prints_stop}
use Rattle.demangle_v0_tokens.proofs.source.Source.put_crate_name.Goals as goal

pub returns-in_err-write_to-clause-prints : goal.returns-in_err-write_to-clause-prints
returns-in_err-write_to-clause-prints g c = prints_stop g.S.TextSink _ _ _ _ _ _ c.in_err-write_to.ensures.prints refl c.from_residual.ensures.0

pub returns-clause-prints : goal.returns-clause-prints
returns-clause-prints g c = prints_then g.S.TextSink _ _ _ _ _ _ _ c.in_ok-write_to.ensures.prints refl c.put_disambiguator.ensures
