use Rattle.std.proofs.Common.{length}
use denote.Text.{Utf8}
use denote.Shadow.{shadow}
use Rattle.rustc_demangle.proofs.PieceLemmas.{Feeding}
use Rattle.rustc_demangle.proofs.text.put_text.Given as goal

abbrev pub invariant-loop-start : goal.invariant-loop-start
invariant-loop-start g l = shadow (Utf8 l.rest)
    × Feeding g.S.TextSink l.format l.text l.initial.out l.out l.rest

abbrev pub decreases-loop-start : goal.decreases-loop-start
decreases-loop-start g l = length l.rest
