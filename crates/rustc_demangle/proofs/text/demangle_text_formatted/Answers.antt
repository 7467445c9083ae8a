use Rattle.demangle_sink.proofs.Writing.{puts_writes}
use Rattle.rustc_demangle.proofs.text.demangle_text_formatted.Goals as goal

pub returns : goal.returns
returns g c =
    let laws = g.met.S.TextSink in
    puts_writes g.S.TextSink _ _ _ _ laws.took_nothing laws.took_joined c.put_text.ensures
