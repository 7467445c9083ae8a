use Rattle.std.proofs.Common.{refl}
use Rattle.demangle_sink.proofs.PrintsLemmas.{prints_then, prints_stop}
use Rattle.demangle_v0_tokens.proofs.render.lifetimes.put_spaced_lifetime.Goals as goal

pub returns-in_err-put_lifetime : goal.returns-in_err-put_lifetime
returns-in_err-put_lifetime g c = prints_stop g.S.TextSink _ _ _ _ _ _ c.in_err-put_lifetime.ensures refl c.from_residual.ensures.0

pub returns : goal.returns
returns g c = prints_then g.S.TextSink _ _ _ _ _ _ _ c.in_ok-put_lifetime.ensures refl c.put.ensures
