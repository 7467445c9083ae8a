use Rattle.std.proofs.Common.{◌≡◌, ℕ, List, ◌+◌, ◌-◌, ◌<◌, false, length, drop, take, sym, subst, ap, ◌∙◌, arith, take_all}
use Rattle.std.proofs.lemmas.List.{length-drop}
use Rattle.memchr.specs.Find.{Nowhere, Passes, is_byte}
use Rattle.demangle_value.specs.Filtered.{starts_run}
use Rattle.demangle_value.proofs.Searches.{no_run_up_to, no_run_after, no_run_on}
use Rattle.rustc_demangle.proofs.runs.run_start.Goals as goal

-- the contents of a slice from a place on
rest_is : (text : List ℕ) (from : ℕ) → take (length text - from) (drop from text) ≡ drop from text
rest_is text from = take_all _ _ (omega (arith, length-drop from text))

-- the next `_` after a place, and none before it
found_at : (text : List ℕ) (from offset : ℕ) → offset < length (take (length text - from) (drop from text))
    → Nowhere (Passes (is_byte 95) (take (length text - from) (drop from text))) 0 offset
    → (from + offset < length text) × Nowhere (Passes (is_byte 95) (drop from text)) 0 offset
found_at text from offset high before =
    let rest = rest_is text from in
    (omega (arith, subst (λ s. offset < length s) rest high, length-drop from text), subst (λ s. Nowhere (Passes (is_byte 95) s) 0 offset) rest before)

pub returns-then-starts_run-clause-some : goal.returns-then-starts_run-clause-some
returns-then-starts_run-clause-some c =
    let l = c.loop-offset in
    let text = c.args.text.now in
    let offset = c.in-Some.offset in
    let found = found_at text l.from offset c.in-Some.ensures.0.high c.in-Some.ensures.0.before in
    (found.0, sym (ap starts_run (rest_is text (l.from + offset))) ∙ sym c.starts_run.ensures ∙ c.if-starts_run.true, no_run_up_to text l.from offset (omega (arith, found.0)) l.invariant.1 found.1)

pub loop-offset-preserved : goal.loop-offset-preserved
loop-offset-preserved c =
    let l = c.loop-offset in
    let text = c.args.text.now in
    let offset = c.in-Some.offset in
    let found = found_at text l.from offset c.in-Some.ensures.0.high c.in-Some.ensures.0.before in
    let here : starts_run (drop (l.from + offset) text) ≡ false = sym (ap starts_run (rest_is text (l.from + offset))) ∙ sym c.starts_run.ensures ∙ c.if-starts_run.false in (
      c.skip_groups-from.ensures.within,
      λ k lt. no_run_on text (l.from + offset) c.skip_groups-from.result k
          (λ j low. no_run_after text (l.from + offset) j (no_run_up_to text l.from offset (omega (arith, found.0)) l.invariant.1 found.1) here low) c.skip_groups-from.ensures.none lt,
    )

pub returns-clause-none : goal.returns-clause-none
returns-clause-none c = λ k lt.
    let l = c.loop-offset in
    let text = c.args.text.now in
    let rest = rest_is text l.from in
    let none : Nowhere (Passes (is_byte 95) (drop l.from text)) 0 (length (drop l.from text)) = subst (λ s. Nowhere (Passes (is_byte 95) s) 0 (length s)) rest c.in_default.ensures in
    no_run_up_to text l.from (length text - l.from) (omega (arith, l.invariant.0)) l.invariant.1 (λ j a b. none j a (omega (arith, length-drop l.from text, b))) k (omega (arith, l.invariant.0))
