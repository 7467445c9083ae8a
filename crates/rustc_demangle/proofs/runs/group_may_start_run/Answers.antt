use Rattle.std.proofs.Common.{◌≡◌, ◌+◌, drop, get_or, inl, inr, ap, ◌∙◌, arith}
use Rattle.std.proofs.lemmas.Bool.{or_parts, cases_lt}
use Rattle.demangle_value.specs.Filtered.{starts_run}
use Rattle.rustc_demangle.proofs.Groups.{group_at}
use Rattle.demangle_value.proofs.Searches.{no_run_at}
use Rattle.rustc_demangle.proofs.runs.group_may_start_run.Goals as goal

pub loop-k-preserved : goal.loop-k-preserved
loop-k-preserved g c = λ none j low high.
    let text = c.args.text.now in
    let place = c.args.from + c.loop-k.k in
    let first = group_at text c.in-Some.firsts.now c.args.from g.row.N c.loop-k.k c.in-Some.ensures.cases.same (omega (arith, c.loop-k-test.true)) in
    let second = group_at text c.in-Some-first_chunk.seconds.now (c.args.from + 1) g.row.N c.loop-k.k c.in-Some-first_chunk.ensures.cases.same (omega (arith, c.loop-k-test.true)) in
    let parts = or_parts c.loop-k.any c.may_start_run-any.result none in
    elim (cases_lt j place) [
      | inl before ↦ c.loop-k.invariant parts.0 j low before
      | inr after ↦
          let same : j ≡ place = omega (arith, high, after) in
          ap (λ i. starts_run (drop i text)) same
          ∙ no_run_at text place (get_or c.in-Some.firsts.now c.loop-k.k 0) (get_or c.in-Some-first_chunk.seconds.now c.loop-k.k 0) (omega (arith, c.requires, c.loop-k-test.true))
          first (second ∙ ap (λ i. get_or text i 0) (omega arith)) (c.may_start_run-any.ensures parts.1)
    ]
