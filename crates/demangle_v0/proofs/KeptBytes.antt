-- The bytes that the sink received are among those of the kept pieces.
use Rattle.std.specs.Prelude.{ℕ, ◌≤◌}
use Rattle.std.proofs.Common.{◌≡◌, ◌+◌, ◌-◌, List, ◌++◌, refl, ap, sym, ◌∙◌, arith}
use Rattle.demangle_sink.specs.Cut.{size, prefix_within, kept}
use Rattle.demangle_sink.specs.Limit.{PrintedPrefix}
use Rattle.demangle_sink.specs.declared.TextSink.{Ghosts}
use Rattle.demangle_sink.specs.declared.limit.SizeLimitedFmtAdapter.{SizeLimitedFmtAdapter}
use Rattle.demangle_sink.proofs.CutLemmas.{size-append, fitting-append}

pub kept_bytes : {S : Type 0} (sink : Ghosts S) (old new : SizeLimitedFmtAdapter S) (whole rest : List (List ℕ)) (bytes : ℕ) → PrintedPrefix sink old whole rest new → new.remaining + bytes ≡ old.remaining → bytes ≤ kept whole old.remaining
kept_bytes sink old new whole rest bytes p e =
    let within : size p.prefix ≤ old.remaining = p.done.within refl in
    let left : new.remaining ≡ old.remaining - size p.prefix = p.done.left refl in
    let fit : prefix_within whole old.remaining ≡ p.prefix ++ prefix_within rest (old.remaining - size p.prefix) = ap (λ ps. prefix_within ps old.remaining) (sym p.is) ∙ fitting-append p.prefix rest old.remaining within in
    let sum : kept whole old.remaining ≡ size p.prefix + size (prefix_within rest (old.remaining - size p.prefix)) = ap size fit ∙ size-append p.prefix (prefix_within rest (old.remaining - size p.prefix)) in
    omega (arith, e, within, left, sum)
