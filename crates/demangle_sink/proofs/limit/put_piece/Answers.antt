use Rattle.demangle_sink.proofs.PutsPiecesLemmas.{puts_put}
use Rattle.demangle_sink.proofs.limit.put_piece.Goals as goal

pub returns : goal.returns
returns g c =
    let e = c.put.ensures in
    puts_put g.S.TextSink c.args.out.now c.args.s.now c.put.result c.put.new.self e.taken e.not_failed e.refused e.kept e.fits
