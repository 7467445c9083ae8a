use Rattle.demangle_sink.proofs.Writing.{puts_writes}
use Rattle.demangle_value.proofs.value.Demangle.write_formatted_counted.Goals as goal

pub returns-clause-writes : goal.returns-clause-writes
returns-clause-writes g c =
    let laws = g.met.S.TextSink in
    puts_writes g.S.TextSink _ _ _ _ laws.took_nothing laws.took_joined c.write_pieces.ensures.hands

pub returns-clause-looks : goal.returns-clause-looks
returns-clause-looks g c = c.write_pieces.ensures.looks
