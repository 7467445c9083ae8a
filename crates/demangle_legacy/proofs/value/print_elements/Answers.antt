use Rattle.std.proofs.Common.{◌≡◌, true, IsSome, None, Result, Ok, Err, IfErr, drop, inl, inr, refl, sym, subst, arith, ◌∙◌}
use Rattle.demangle_symbol.specs.Digits.{is_byte}
use Rattle.demangle_legacy.specs.Legacy.{elements_of, suffix_of}
use Rattle.demangle_legacy.specs.Unescaped.{following_pieces, printed_elements}
use Rattle.demangle_legacy.proofs.LegacyElements.{after_more, element_E, suffix_there, suffix_none}
use Rattle.demangle_legacy.proofs.LegacyPrinting.{elements_end, left_none, left_after, turn_next, turn_begun, turn_hash, omitted_E, none_there}
use Rattle.demangle_sink.proofs.Printed.{printed_left, printed_then, printed_stop, printed_all}
use Rattle.demangle_sink.proofs.PrintsLemmas.{prints_ready}
use Rattle.demangle_legacy.proofs.value.print_elements.Goals as goal
use Rattle.demangle_legacy.proofs.value.print_elements.Goals.{then-at-gt0+in_ok-put, else-at-gt0}

pub returns-then-is_omitted-clause-end : goal.returns-then-is_omitted-clause-end
returns-then-is_omitted-clause-end g c =
    let s = c.args.symbol.now in
    let e = c.in-Some.element in
    let last : is_byte s e.to 69 ≡ true = omitted_E c.args.form.include_hash _ _ (sym c.if-is_omitted.ensures.hash) in
    sym (suffix_there s e.to (c.loop-element.invariant.same ∙ after_more s c.loop-element.at e.from e.to (sym c.in-Some.ensures.element)) (element_E s e.to last) last)

pub returns-then-is_omitted-clause-prints : goal.returns-then-is_omitted-clause-prints
returns-then-is_omitted-clause-prints g c = λ legacy.
    let s = c.args.symbol.now in
    let e = c.in-Some.element in
    printed_all g.S.TextSink _ _ _ _ (c.loop-element.invariant.printed legacy)
    (turn_hash s c.args.form.include_hash c.loop-element.at e.from e.to legacy c.loop-element.invariant.same (sym c.in-Some.ensures.element) (sym c.if-is_omitted.ensures.hash))

every_err : {T E : Type 0} (r : Result T E) (P : E → Type 0) → ((e : E) → P e) → IfErr r P
every_err (Ok x) P h = tt
every_err (Err e) P h = h e

pub returns-in_err-put-clause-refused : goal.returns-in_err-put-clause-refused
returns-in_err-put-clause-refused g c = λ legacy.
    let s = c.args.symbol.now in
    let e = c.in-Some.element in
    let turn = turn_next s c.args.form.include_hash c.loop-element.at e.from e.to legacy c.loop-element.invariant.same (sym c.in-Some.ensures.element) (sym c.if-is_omitted.ensures.hash) (omega arith) in
    every_err c.from_residual.result _ (λ error. printed_stop g.S.TextSink _ _ _ _ _ _ _ _ (Err error) (c.loop-element.invariant.printed legacy) turn c.in_err-put.ensures refl)

pub returns-in_err-put_element-clause-refused : goal.returns-in_err-put_element-clause-refused
returns-in_err-put_element-clause-refused g c = λ legacy.
    let s = c.args.symbol.now in
    let e = c.in-Some.element in
    let begun = turn_begun s c.args.form.include_hash c.loop-element.at e.from e.to legacy c.loop-element.invariant.same (sym c.in-Some.ensures.element) (sym c.if-is_omitted.ensures.hash)
    g.S.TextSink c.args.out.now c.loop-element.out c.if-at-gt0.out _ (c.loop-element.invariant.printed legacy) (elim c.if-at-gt0.branch [
      | then-at-gt0+in_ok-put w ↦ rw w.out-is (inl (omega arith, w.in_ok-put.ensures))
      | else-at-gt0 w ↦ rw w.out-is (inr (omega arith, refl))
    ])
    in
    every_err c.from_residual-in_err-put_element.result _ (λ error. printed_stop g.S.TextSink _ _ _ _ _ _ _ _ (Err error) begun refl c.in_err-put_element.ensures.prints refl)

pub loop-element-preserved : goal.loop-element-preserved
loop-element-preserved g c =
    let s = c.args.symbol.now in
    let e = c.in-Some.element in
    let hash = c.args.form.include_hash in
    let at = c.loop-element.at in
    let same = c.loop-element.invariant.same ∙ after_more s at e.from e.to (sym c.in-Some.ensures.element) in
    record {
      inside = omega (arith, c.in-Some.ensures.within);
      same = same;
      ready = prints_ready g.S.TextSink _ _ _ _ c.in_ok-put_element.ensures.prints refl;
      printed = λ legacy.
          let begun = turn_begun s hash at e.from e.to legacy c.loop-element.invariant.same (sym c.in-Some.ensures.element) (sym c.if-is_omitted.ensures.hash)
          g.S.TextSink c.args.out.now c.loop-element.out c.if-at-gt0.out _ (c.loop-element.invariant.printed legacy) (elim c.if-at-gt0.branch [
            | then-at-gt0+in_ok-put w ↦ rw w.out-is (inl (omega arith, w.in_ok-put.ensures))
            | else-at-gt0 w ↦ rw w.out-is (inr (omega arith, refl))
          ])
          in
          let done = printed_then g.S.TextSink _ _ _ _ _ _ (following_pieces (printed_elements hash (elements_of (drop e.to s)))) begun refl c.in_ok-put_element.ensures.prints in
          printed_left g.S.TextSink _ _ _ _ _ done (left_after hash e.to (elements_of (drop e.to s)) (omega (arith, c.in-Some.ensures.within)));
      grows = omega arith;
      looked = omega (arith, c.in-Some.ensures.within, c.in-Some.ensures.some_looks);
    }

pub returns-then-is_at-clause-end : goal.returns-then-is_at-clause-end
returns-then-is_at-clause-end g c =
    sym (suffix_there c.args.symbol.now c.loop-element.at c.loop-element.invariant.same (sym c.in_default.ensures.element) (sym c.if-is_at.ensures.there))

pub returns-then-is_at-clause-prints : goal.returns-then-is_at-clause-prints
returns-then-is_at-clause-prints g c = λ legacy.
    printed_all g.S.TextSink _ _ _ _ (c.loop-element.invariant.printed legacy)
    (left_none c.args.form.include_hash c.loop-element.at (elements_of (drop c.loop-element.at c.args.symbol.now)) (elements_end c.args.symbol.now c.loop-element.at (sym c.in_default.ensures.element)))

pub returns-else-is_at-clause-end : goal.returns-else-is_at-clause-end
returns-else-is_at-clause-end g c =
    sym (suffix_none c.args.symbol.now c.loop-element.at c.loop-element.invariant.same (sym c.in_default.ensures.element) (sym c.if-is_at.ensures.there))

pub returns-else-is_at-clause-prints : goal.returns-else-is_at-clause-prints
returns-else-is_at-clause-prints g c = λ legacy.
    let none : suffix_of c.args.symbol.now ≡ None = suffix_none c.args.symbol.now c.loop-element.at c.loop-element.invariant.same (sym c.in_default.ensures.element) (sym c.if-is_at.ensures.there) in
    absurd (none_there (subst (λ o. IsSome o) none legacy))
