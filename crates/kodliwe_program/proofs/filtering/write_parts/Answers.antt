use Rattle.std.proofs.Common.{◌≡◌, ◌∷◌, [], map, length, sym, ap, ◌∙◌, arith}
use Rattle.std.specs.Vec.Iter.{into_iter_items}
use Rattle.kodliwe_program.specs.Parts.{part_in, part_of}
use Rattle.kodliwe_program.proofs.PartLemmas.{printing_init, printing_step, printing_end, printing_err, nothing_left}
use Rattle.kodliwe_program.proofs.ProgramLooks.{looks_init, looks_step, looks_end, looks_stop}
use Rattle.kodliwe_program.proofs.filtering.write_parts.Goals as goal

pub loop-part-init : goal.loop-part-init
loop-part-init g c =
    let gives = c.into_iter-part-iterator.ensures.into_iter_gives in
    let same = ap length gives.0 in (
      printing_init _ _ _ _ (ap (map (part_of g.R.Read.remaining)) (sym gives.0)),
      omega (arith, same, gives.1),
      c.with_format.ensures,
      looks_init _ _ _ _ _ (ap (map (part_of g.R.Read.remaining)) (sym gives.0)) (sym c.replace.ensures.value),
    )

pub loop-part-preserved : goal.loop-part-preserved
loop-part-preserved g c =
    let at = c.loop-part in
    let steps : into_iter_items at.part-iterator ≡ c.in-Some.part ∷ into_iter_items c.next.new.self =
    c.in-Some.ensures.steps.0 in
    let held = ap (map (part_of g.R.Read.remaining)) steps in
    let was = at.invariant.1 in
    let gone = c.in-Some.ensures.steps.1 in
    let short = ap length steps in (
      printing_step _ _ _ _ _ _ _ _ at.invariant.0 held c.in_default.ensures.ok,
      omega (arith, was, gone, short),
      c.write.ensures.same ∙ at.invariant.2,
      looks_step _ _ _ _ _ _ _ _ at.invariant.3 held c.write.ensures.grows c.write.ensures.linear,
    )

pub returns-in-Err-clause-err : goal.returns-in-Err-clause-err
returns-in-Err-clause-err g c =
    let at = c.loop-part in
    let held = ap (map (part_of g.R.Read.remaining)) c.in-Some.ensures.steps.0 in
    printing_err c.in-Err.stop.fault c.args.settings.format _ _ (part_of g.R.Read.remaining c.in-Some.part) _ (g.W.Write.contents c.args.output.now)
    (g.W.Write.contents at.output) (g.W.Write.contents c.write.new.output) at.invariant.0 held c.in-Err.ensures.err

pub returns-in-Err-clause-linear : goal.returns-in-Err-clause-linear
returns-in-Err-clause-linear g c =
    looks_stop _ _ _ _ _ _ _ _ c.loop-part.invariant.3 (ap (map (part_of g.R.Read.remaining)) c.in-Some.ensures.steps.0) c.write.ensures.grows c.write.ensures.linear

pub returns-in-Ok-clause-ok : goal.returns-in-Ok-clause-ok
returns-in-Ok-clause-ok g c =
    let at = c.loop-part in
    let none = c.in-None.ensures.steps in
    let empty : into_iter_items at.part-iterator ≡ [] = nothing_left _ (sym at.invariant.1 ∙ none.0) in
    let held = ap (map (part_of g.R.Read.remaining)) empty in
    printing_end (part_in c.args.settings.format) _ _
    (g.W.Write.contents c.args.output.now) (g.W.Write.contents at.output) (g.W.Write.contents c.flush.new.output)
    at.invariant.0 held c.flush.ensures.bytes

pub returns-in-Ok-clause-linear : goal.returns-in-Ok-clause-linear
returns-in-Ok-clause-linear g c = looks_end _ _ _ _ _ c.loop-part.invariant.3

pub returns-clause-linear : goal.returns-clause-linear
returns-clause-linear g c = looks_end _ _ _ _ _ c.loop-part.invariant.3
