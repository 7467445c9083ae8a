use Rattle.std.proofs.Common.{◌≡◌, suc, ◌+◌, ◌-◌, ◌/◌, arith, sym, ap, ◌∙◌, cond}
use Rattle.demangle_symbol.specs.Punycode.{bias_after, adapted_bias}
use Rattle.demangle_symbol.proofs.Deltas.{bias_turn, bias_end}
use Rattle.demangle_symbol.proofs.punycode.adapt.Goals as goal
use Rattle.demangle_symbol.proofs.punycode.adapt.Goals.{then-first, else-first}

pub loop-delta-preserved : goal.loop-delta-preserved
loop-delta-preserved c =
    let d = c.loop-delta.delta in
    let r = c.loop-delta.invariant.rest in
    let n : r.0 ≡ suc (r.0 - 1) = omega (arith, r.1) in
    let e = bias_turn (r.0 - 1) d (omega arith) in
    let f = ap (λ k. bias_after k d) n in
    record { small = omega arith; rest = (r.0 - 1, omega (arith, r.1), omega (arith, e, f, r.2)) }

pub returns : goal.returns
unfolding adapted_bias
returns c =
    let r = c.loop-delta.invariant.rest in
    let e = bias_end r.0 c.loop-delta.delta (omega arith) in
    let n = c.args.count in
    let damped : c.if-first.damped ≡ c.args.delta / cond c.args.first 700 2 =
    elim c.if-first.branch [
      | then-first w ↦ w.damped-is ∙ ap (λ b. c.args.delta / cond b 700 2) (sym w.if-first.true)
      | else-first w ↦ w.damped-is ∙ ap (λ b. c.args.delta / cond b 700 2) (sym w.if-first.false)
    ] in
    ap (λ k. c.loop-delta.place + k) (sym e) ∙ r.2 ∙ ap (λ d. bias_after d (d + d / n)) damped
