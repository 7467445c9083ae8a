use Rattle.std.proofs.Common.{refl, [], ◌∙◌, arith}
use Rattle.demangle_v0.proofs.WholePaths.{valid_length, over_value, over_looks, failed_of, failed_value, failed_looks}
use Rattle.demangle_v0.proofs.validation.read_in_full_stack.Goals as goal

pub returns-in-Complete-clause-value : goal.returns-in-Complete-clause-value
returns-in-Complete-clause-value c =
    let moved = c.in_larger_stack-larger.ensures.moved in
    c.place-end.ensures ∙ over_value (rw moved at c.in-Complete.ensures.reads [] c.args.parser.now.stack.frames refl refl c.requires.inner)

pub returns-in-Complete-clause-looks : goal.returns-in-Complete-clause-looks
returns-in-Complete-clause-looks c =
    let moved = c.in_larger_stack-larger.ensures.moved in
    over_looks (rw moved at c.in-Complete.ensures.reads [] c.args.parser.now.stack.frames refl refl c.requires.inner)

pub returns-in-StackFull : goal.returns-in-StackFull
returns-in-StackFull c =
    let moved = c.in_larger_stack-larger.ensures.moved in
    let d = c.read_steps-outcome.ensures in
    let same = rw moved at d.same.2 in
    let failed = failed_of c.in-StackFull.is (λ k. omega (arith, valid_length _ _ _ (d.valid k), d.full k, same)) in
    let reads = rw (moved, failed) at d.reads [] c.args.parser.now.stack.frames refl refl c.requires.inner in
    record { value = failed_value reads; looks = failed_looks reads; grows = rw moved at d.grows }
