use Rattle.std.proofs.Common.{refl, ◌∙◌}
use Rattle.demangle_value.specs.Filtered.{is_run_byte}
use Rattle.rustc_demangle.proofs.Groups.{run_ends_early, run_ends_late}
use Rattle.rustc_demangle.proofs.runs.run_len_by_ends.Goals as goal

pub returns-then-count-lt8 : goal.returns-then-count-lt8
returns-then-count-lt8 c =
    let starts = c.copy_from_slice.ensures.after ∙ c.requires.first in
    let ends = c.copy_from_slice-2.ensures.after ∙ c.requires.last in
    run_ends_early is_run_byte c.args.text.now _ _ _ c.requires.size.0 c.requires.size.1 starts ends refl
    c.run_bytes_of-count.result c.run_bytes_of-count.ensures.value c.if-count-lt8.true

pub returns-else-count-lt8 : goal.returns-else-count-lt8
returns-else-count-lt8 c =
    let starts = c.copy_from_slice.ensures.after ∙ c.requires.first in
    let ends = c.copy_from_slice-2.ensures.after ∙ c.requires.last in
    run_ends_late is_run_byte c.args.text.now _ _ _ c.requires.size.0 c.requires.size.1 starts ends refl
    c.run_bytes_of-count.result c.run_bytes_of-count.ensures.value c.if-count-lt8.false
