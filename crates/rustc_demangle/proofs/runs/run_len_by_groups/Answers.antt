use Rattle.std.proofs.Common.{◌-◌, length, drop, arith}
use Rattle.std.proofs.lemmas.List.{length-take, length-drop}
use Rattle.demangle_value.specs.Filtered.{is_run_byte}
use Rattle.rustc_demangle.proofs.Groups.{group_is, group_fits, last_group, passes_up_to, run_ends}
use Rattle.rustc_demangle.proofs.runs.run_len_by_groups.Goals as goal

pub returns-then-count-lt16 : goal.returns-then-count-lt16
returns-then-count-lt16 c =
    let l = c.loop-group in
    let text = c.args.text.now in
    let room = group_fits text l.at 16 l.invariant.0 c.in-Some.ensures.cases.enough in
    let same = group_is text _ l.at 16 c.in-Some.ensures.cases.same in
    let count = c.run_bytes_of-count in
    run_ends is_run_byte text l.at 16 room c.in-Some.group.now same count.result count.ensures.value
    l.at (omega arith) l.invariant.1 (λ _. c.if-count-lt16.true)

pub loop-group-preserved : goal.loop-group-preserved
loop-group-preserved c =
    let l = c.loop-group in
    let text = c.args.text.now in
    let room = group_fits text l.at 16 l.invariant.0 c.in-Some.ensures.cases.enough in
    let same = group_is text _ l.at 16 c.in-Some.ensures.cases.same in
    let count = c.run_bytes_of-count in (
      room,
      λ k low. passes_up_to is_run_byte text l.at 16 room c.in-Some.group.now same count.result count.ensures.value
          l.at (omega arith) l.invariant.1 k (omega (arith, low, c.if-count-lt16.false)),
    )

pub returns : goal.returns
returns c =
    let l = c.loop-group in
    let text = c.args.text.now in
    let rest = length-take (length text - l.at) (drop l.at text) in
    let same = last_group text _ 16 c.requires.last in
    run_ends is_run_byte text (length text - 16) 16 (omega (arith, c.requires)) c.args.last.now same
    c.run_bytes_of.result c.run_bytes_of.ensures.value
    l.at (omega (arith, c.in_default.ensures.cases, rest, length-drop l.at text)) l.invariant.1
    (λ inside. omega (arith, inside, c.requires))
