use Rattle.std.proofs.Common.{refl, arith}
use Rattle.demangle_sink.proofs.SlicesAgain.{slice_again}
use Rattle.demangle_sink.proofs.slice_sink.SliceSinkTextSink.put_again.Goals as goal

pub returns-clause-copied : goal.returns-clause-copied
returns-clause-copied c e =
    slice_again c.args.self.now _ c.in-Some.place c.args.start c.args.len c.in-Some.ensures.length c.requires.within
    (omega (arith, c.if-len-self.false)) refl refl c.copy_within.ensures.after refl
