use Rattle.std.proofs.Common.{refl}
use Rattle.demangle_sink.proofs.PrintsLemmas.{prints_then, prints_stop}
use Rattle.demangle_v0_tokens.proofs.source.Source.put_number_constant.Goals as goal

pub returns-in_err-put_number : goal.returns-in_err-put_number
returns-in_err-put_number g c = prints_stop g.S.TextSink _ _ _ _ _ _ c.in_err-put_number.ensures refl c.from_residual.ensures.0

pub returns : goal.returns
returns g c = prints_then g.S.TextSink _ _ _ _ _ _ _ c.in_ok-put_number.ensures refl c.put_type_name.ensures
