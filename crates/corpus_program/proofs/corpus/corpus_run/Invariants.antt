use Rattle.std.proofs.Common.{◌*◌, ◌≤◌}
use Rattle.std.specs.Io.Iter.{lines_known_bytes}
use Rattle.corpus_program.proofs.LineCounts.{Counting}
use Rattle.corpus_program.proofs.corpus.corpus_run.Given as goal

abbrev pub invariant-loop-line : goal.invariant-loop-line
invariant-loop-line g l = (l.counts.differences ≤ 4 * l.counts.lines)
    × Counting (g.R.Read.remaining l.fn.input) (lines_known_bytes (λ r. g.R.Read.remaining r.now) l.line-iterator) l.counts.lines
