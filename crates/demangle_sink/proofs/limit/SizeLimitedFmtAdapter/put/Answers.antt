use Rattle.std.proofs.Common.{refl, arith}
use Rattle.demangle_sink.proofs.PutsPiecesLemmas.{puts_put}
use Rattle.demangle_sink.proofs.PrintsLemmas.{prints_put}
use Rattle.demangle_sink.proofs.limit.SizeLimitedFmtAdapter.put.Goals as goal

pub returns : goal.returns
returns g c =
    let e = c.put.ensures in
    let hands = puts_put g.S.TextSink c.args.self.now.out.now c.args.s.now c.put.result c.put.new.self e.taken e.not_failed e.refused e.kept e.fits in
    prints_put g.S.TextSink c.args.self.now c.args.s.now c.put.result _ refl (omega arith) refl refl c.requires.fresh hands
