use Rattle.std.proofs.Common.{◌≡◌, ℕ, ◌+◌, ◌-◌, ◌*◌, ◌<◌, ◌≤◌, List, get_or, Option, Some, None, IfSome, arith, sym, ap, ◌∙◌, subst, Bool}
use Rattle.std.specs.List.{slice_range}
use Rattle.std.specs.Prelude.{slice_index}
use Rattle.std.proofs.Math.Nat.{mul-le-mul_left}
use Rattle.demangle_symbol.specs.declared.punycode.TheConstants.{MAX_DELTA}
use Rattle.demangle_symbol.specs.Punycode.{Reading, deltas, next_delta, with_digit}
use Rattle.demangle_symbol.proofs.Deltas.{deltas_bad, deltas_last, deltas_more, deltas_short, deltas_grow-digit, AtLeast}
use Rattle.demangle_sink.proofs.Parts.{part_first, part_none}
use Rattle.demangle_symbol.proofs.punycode.delta_at.Goals as goal

abbrev here : ℕ → Bool → ℕ → ℕ → ℕ → ℕ → Reading
here count first bias sum weight place = record { count = count; first = first; bias = bias; sum = sum; weight = weight; place = place }

abbrev IsTooLarge : Option (List ℕ) → Type 0
IsTooLarge o = IfSome o (λ ds. MAX_DELTA < slice_index ds 0)

none_too_large : (o : Option (List ℕ)) → o ≡ None → IsTooLarge o
none_too_large o h = subst IsTooLarge (sym h) tt

above : (n : ℕ) (o : Option (List ℕ)) → MAX_DELTA < n → AtLeast n o → IsTooLarge o
above n None h k = tt
above n (Some ds) h k = omega arith

pub returns-in_default-clause-none : goal.returns-in_default-clause-none
returns-in_default-clause-none c =
    let s = c.args.symbol.now in
    let to : ℕ = c.args.digits.to in
    let l = c.loop-at in
    λ count first.
    let r = here count first c.args.bias l.sum l.weight l.place in
    none_too_large (deltas (next_delta count first c.args.bias) (slice_range s c.args.digits.from to))
    (sym (l.invariant.rest count first) ∙ ap (deltas r) (part_first s l.at to (omega arith) (omega arith)) ∙ deltas_bad r (get_or s l.at 0) (slice_range s (l.at + 1) to) (sym c.in_default.ensures.digit))

pub returns-then-sum-gt-MAX_DELTA-clause-none : goal.returns-then-sum-gt-MAX_DELTA-clause-none
returns-then-sum-gt-MAX_DELTA-clause-none c =
    let s = c.args.symbol.now in
    let to : ℕ = c.args.digits.to in
    let l = c.loop-at in
    λ count first.
    let r = here count first c.args.bias l.sum l.weight l.place in
    above (with_digit r c.in-Some.digit) (deltas (next_delta count first c.args.bias) (slice_range s c.args.digits.from to)) (omega arith)
    (subst (AtLeast (with_digit r c.in-Some.digit)) (sym (ap (deltas r) (part_first s l.at to (omega arith) (omega arith))) ∙ l.invariant.rest count first)
    (deltas_grow-digit (slice_range s (l.at + 1) to) r (get_or s l.at 0) c.in-Some.digit (omega arith) (sym c.in-Some.ensures.digit)))

pub returns-then-digit-last_below-clause-some : goal.returns-then-digit-last_below-clause-some
returns-then-digit-last_below-clause-some c =
    let s = c.args.symbol.now in
    let to : ℕ = c.args.digits.to in
    let l = c.loop-at in
    λ count first.
    let r = here count first c.args.bias l.sum l.weight l.place in
    sym (l.invariant.rest count first) ∙ ap (deltas r) (part_first s l.at to (omega arith) (omega arith))
    ∙ deltas_last r (get_or s l.at 0) c.in-Some.digit (slice_range s (l.at + 1) to) (sym c.in-Some.ensures.digit) (omega (arith, c.threshold-last_below.ensures.value))

pub loop-at-preserved : goal.loop-at-preserved
loop-at-preserved c =
    let s = c.args.symbol.now in
    let to : ℕ = c.args.digits.to in
    let l = c.loop-at in
    let t = c.threshold-last_below.result in
    let d = c.in-Some.digit in
    let low : 1 ≤ d = omega (arith, c.threshold-last_below.ensures) in
    let rises = mul-le-mul_left l.weight low in
    let most : 36 - t ≤ 35 = omega (arith, c.threshold-last_below.ensures) in
    let least : 10 ≤ 36 - t = omega (arith, c.threshold-last_below.ensures) in
    let below = mul-le-mul_left l.weight most in
    let over = mul-le-mul_left l.weight least in
    record {
      small = omega arith;
      weight = (omega arith, omega arith);
      place = (omega arith, omega arith);
      begun = λ _. omega arith;
      rest = λ count first.
          let r = here count first c.args.bias l.sum l.weight l.place in
          let e = deltas_more r (get_or s l.at 0) d (slice_range s (l.at + 1) to) (sym c.in-Some.ensures.digit) (omega (arith, c.threshold-last_below.ensures.value)) in
          ap (λ k. deltas (here count first c.args.bias (l.sum + d * l.weight) (l.weight * (36 - k)) (l.place + 36)) (slice_range s (l.at + 1) to)) c.threshold-last_below.ensures.value
          ∙ sym e ∙ sym (ap (deltas r) (part_first s l.at to (omega arith) (omega arith))) ∙ l.invariant.rest count first;
      looked = omega arith;
    }

pub returns-clause-none : goal.returns-clause-none
returns-clause-none c =
    let s = c.args.symbol.now in
    let l = c.loop-at in
    λ count first.
    let r = here count first c.args.bias l.sum l.weight l.place in
    let end : l.at ≡ c.args.digits.to = omega arith in
    none_too_large (deltas (next_delta count first c.args.bias) (slice_range s c.args.digits.from c.args.digits.to))
    (sym (l.invariant.rest count first) ∙ ap (λ k. deltas r (slice_range s k c.args.digits.to)) end ∙ ap (deltas r) (part_none s c.args.digits.to) ∙ deltas_short r (l.invariant.begun (omega arith)))
