use Rattle.demangle_sink.proofs.Writing.{puts_writes}
use Rattle.demangle_value.proofs.value.printing.write_with_path_len.Goals as goal

pub returns : goal.returns
returns g c =
    let laws = g.met.S.TextSink in
    rw (← c.without_thin_lto.ensures) (puts_writes g.S.TextSink _ _ _ _ laws.took_nothing laws.took_joined c.write_pieces_with_path_len.ensures)
