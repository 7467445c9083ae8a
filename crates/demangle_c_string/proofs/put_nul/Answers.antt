use Rattle.std.proofs.Common.{◌≡◌, ◌<◌, ◌-◌, length, ap, ◌∙◌, arith, slice_set}
use Prim.Native.Nat.{min}
use Rattle.demangle_c_string.specs.CString.{c_string}
use Rattle.demangle_c_string.proofs.NulTerminator.{ended, length-overlay, overlay-empty}
use Rattle.demangle_c_string.proofs.put_nul.Goals as goal

pub returns-then-not-is_empty : goal.returns-then-not-is_empty
returns-then-not-is_empty c memory text laid counted =
    let same : length c.args.out.now ≡ length memory = ap length laid ∙ length-overlay memory text in
    let some : 0 < length memory = grind (arith, same) in
    let at : c.min-end.result ≡ min (length text) (length memory - 1) = grind (arith, same, counted) in
    ap (λ xs. slice_set xs c.min-end.result 0) laid ∙ ended memory text c.min-end.result some at

pub returns-else-not-is_empty : goal.returns-else-not-is_empty
returns-else-not-is_empty c memory text laid counted =
    let same : length c.args.out.now ≡ length memory = ap length laid ∙ length-overlay memory text in
    let none : length memory ≡ 0 = grind (arith, same) in
    laid ∙ overlay-empty memory text (c_string (length memory) text) none
