use Rattle.std.proofs.Common.{rules, refl}
use Rattle.std.proofs.lemmas.Result.{err_from_is_err_and}
use Rattle.rustc_demangle.proofs.LineStreamLemmas.{line_refused, line_copied, line_unread, line_ended, some_items}
use Rattle.rustc_demangle.proofs.stream.copy_line.Goals as goal

pub returns-in_err-read_line : goal.returns-in_err-read_line
returns-in_err-read_line g c =
    let p = err_from_is_err_and c.from_residual.result c.from_residual.ensures.1 in
    rw (p.1, p.2) (line_unread _ _ _ _ _ c.in_err-read_line.ensures.named)

pub returns-then-is_empty : goal.returns-then-is_empty
returns-then-is_empty g c =
    (line_ended _ _ _ _ _ c.in_ok-read_line.ensures.bytes c.in_ok-read_line.ensures.rest c.clear.ensures.items (c.if-is_empty.ensures) (search rules), refl)

pub returns-in_default : goal.returns-in_default
returns-in_default g c =
    let some = some_items _ c.read_line.new.line.items c.if-is_empty.ensures (search rules) in
    (line_refused _ _ _ _ c.in_ok-read_line.ensures.bytes c.clear.ensures.items c.as_slice.ensures.value some c.in_default.ensures.cases.0, refl)

pub returns-in-Ok-demangle_line : goal.returns-in-Ok-demangle_line
returns-in-Ok-demangle_line g c =
    let some = some_items _ c.read_line.new.line.items c.if-is_empty.ensures (search rules) in
    let text = c.in-Ok.ensures.cases in
    (c.in_ok-read_line.ensures.rest, line_copied _ _ _ _ _ _ _ _ c.in_ok-read_line.ensures.bytes c.clear.ensures.items c.as_slice.ensures.value text.0 some text.1 c.in-Ok-demangle_line.ensures)
