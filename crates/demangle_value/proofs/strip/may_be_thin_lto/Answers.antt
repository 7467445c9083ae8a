use Rattle.std.proofs.Common.{◌≡◌, ◌-◌, length, take, drop, nat_eq, sym, ap, ◌∙◌, arith, take_all}
use Rattle.std.specs.Prelude.{codes}
use Rattle.std.specs.List.{starts_with}
use Rattle.std.proofs.lemmas.List.{length-drop}
use Rattle.std.proofs.lemmas.Bool.{eqb-true}
use Rattle.demangle_value.proofs.Stripping.{stripped_thin_end, stripped_undotted, stripped_undotted_end}
use Rattle.demangle_value.proofs.strip.may_be_thin_lto.Goals as goal

pub returns-then-from-ge6 : goal.returns-then-from-ge6
returns-then-from-ge6 c = λ no.
    let bytes = c.as_bytes-bytes.result.now in
    let at = c.in-Some.from - 6 in
    let rest : take (length bytes - at) (drop at bytes) ≡ drop at bytes = take_all _ _ (omega (arith, length-drop at bytes)) in
    rw c.as_bytes-bytes.ensures.value at (stripped_thin_end bytes c.in-Some.from c.in-Some.ensures.within c.in-Some.ensures.after (λ _. c.in-Some.ensures.before)
    (λ _. ap (λ t. starts_with nat_eq t (codes ".llvm.")) (sym rest) ∙ (sym c.starts_with.ensures.value ∙ no)))

pub returns-else-from-ge6 : goal.returns-else-from-ge6
returns-else-from-ge6 c = λ no.
    rw c.as_bytes-bytes.ensures.value at (stripped_thin_end c.as_bytes-bytes.result.now c.in-Some.from c.in-Some.ensures.within c.in-Some.ensures.after
    (λ _. c.in-Some.ensures.before) (λ le. absurd (omega (arith, le, c.if-from-ge6.false))))

pub returns-in_default-memrchr : goal.returns-in_default-memrchr
returns-in_default-memrchr c = λ _.
    rw c.as_bytes-bytes.ensures.value at (stripped_undotted c.as_bytes-bytes.result.now (rw c.in_default-memrchr.is at c.memrchr.ensures))

pub returns-then-dot-ge5 : goal.returns-then-dot-ge5
returns-then-dot-ge5 c = λ no.
    let last = c.in-Some-memrchr.ensures in
    let bytes = c.as_bytes-bytes.result.now in
    let at = c.in-Some-memrchr.dot - 5 in
    let rest : take (length bytes - at) (drop at bytes) ≡ drop at bytes = take_all _ _ (omega (arith, length-drop at bytes)) in
    rw c.as_bytes-bytes.ensures.value at (stripped_undotted_end bytes c.in-Some-memrchr.dot last.0.high (eqb-true _ _ last.1) last.0.after
    (λ _. ap (λ t. starts_with nat_eq t (codes ".llvm.")) (sym rest) ∙ (sym c.starts_with-then-dot-ge5.ensures.value ∙ no)))

pub returns-else-dot-ge5 : goal.returns-else-dot-ge5
returns-else-dot-ge5 c = λ no.
    let last = c.in-Some-memrchr.ensures in
    rw c.as_bytes-bytes.ensures.value at (stripped_undotted_end c.as_bytes-bytes.result.now c.in-Some-memrchr.dot last.0.high (eqb-true _ _ last.1) last.0.after
    (λ le. absurd (omega (arith, le, c.if-dot-ge5.false))))
