use Rattle.std.proofs.Common.{◌≡◌, [], ◌∷◌, slice_range, sym, arith}
use Rattle.demangle_legacy.specs.Unescaped.{pieces_from}
use Rattle.demangle_legacy.specs.Units.{text_of_unit}
use Rattle.demangle_legacy.proofs.LegacyUnits.{pieces_turn, pieces_stop, pieces_end}
use Rattle.demangle_sink.proofs.Printed.{printed_then, printed_stop, printed_last}
use Rattle.demangle_legacy.proofs.printing.put_element.Goals as goal
use Rattle.demangle_legacy.proofs.printing.put_element.Goals.{else-loop-at-test, then-loop-at-test+in_default}

pub returns-in_err-put_unit-clause-prints : goal.returns-in_err-put_unit-clause-prints
returns-in_err-put_unit-clause-prints g c =
    let s = c.args.symbol.now in
    let at = c.loop-at.at in
    let next = c.in-Some.next in
    let to = c.args.element.to in
    let turn = pieces_turn s at next to (text_of_unit (slice_range s at next) c.in-Some.unit) (omega arith) (omega arith) c.in-Some.ensures.within.0 c.in-Some.ensures.within.1 (sym c.in-Some.ensures.unit) in
    printed_stop g.S.TextSink _ _ _ _ _ (text_of_unit (slice_range s at next) c.in-Some.unit ∷ []) _ _ _ c.loop-at.invariant.printed turn c.in_err-put_unit.ensures c.from_residual.ensures.0

pub loop-at-preserved : goal.loop-at-preserved
loop-at-preserved g c =
    let s = c.args.symbol.now in
    let at = c.loop-at.at in
    let next = c.in-Some.next in
    let to = c.args.element.to in
    let turn = pieces_turn s at next to (text_of_unit (slice_range s at next) c.in-Some.unit) (omega arith) (omega arith) c.in-Some.ensures.within.0 c.in-Some.ensures.within.1 (sym c.in-Some.ensures.unit) in
    record {
      inside = omega (arith, c.in-Some.ensures.within);
      following = omega (arith, c.in-Some.ensures.within);
      printed = printed_then g.S.TextSink _ _ _ _ _ (text_of_unit (slice_range s at next) c.in-Some.unit ∷ []) _ c.loop-at.invariant.printed turn c.in_ok-put_unit.ensures;
      grows = omega arith;
      looked = omega (arith, c.in-Some.ensures.within, c.in-Some.ensures.some_looks);
    }

pub returns-clause-prints : goal.returns-clause-prints
returns-clause-prints g c =
    let s = c.args.symbol.now in
    let at = c.loop-at.at in
    let to = c.args.element.to in
    let last : pieces_from 0 (slice_range s at to) ≡ slice_range s at to ∷ [] =
    elim c.loop-at-test.branch [
      | else-loop-at-test w ↦ pieces_end s at to (omega arith)
      | then-loop-at-test+in_default w ↦ pieces_stop s at to (omega arith) (omega arith) (sym w.in_default.ensures.unit)
    ] in
    printed_last g.S.TextSink _ _ _ _ _ _ _ c.loop-at.invariant.printed last (rw c.span.ensures at c.write_to.ensures)
