use Rattle.std.proofs.Common.{◌≡◌, ◌+◌, ◌<◌, Bool, true, ◌&&◌, ◌||◌, Some, None, Result, Ok, Err, IsOk, IsErr, false, length, arith, refl, sym, ap, ◌∙◌, length-append}
use Rattle.std.proofs.lemmas.Bool.{false≢true, eqb-true, leb-false, not-true}
use Rattle.demangle_symbol.specs.Primitives.{byte_at, namespace_at, is_upper}
use Rattle.demangle_v0_tokens.specs.declared.fixed_texts.FixedText.TheVariants as fixed
use Rattle.demangle_v0_parser.specs.StepRuns.{name_frames}
use Rattle.demangle_v0_parser.specs.Traces.{trace_at}
use Rattle.demangle_v0_parser.specs.declared.Continuation.{Continuation}
use Rattle.demangle_v0_parser.specs.declared.Continuation.TheVariants as continuation
use Rattle.demangle_v0_parser.specs.declared.StepError.{StepError}
use Rattle.demangle_v0_parser.specs.declared.StepError.TheVariants.{Abort}
use Rattle.demangle_v0_parser.specs.declared.frames.Frame.{Frame}
use Rattle.demangle_v0_parser.specs.declared.parse.Parser.{Parser}
use Rattle.demangle_v0_parser.proofs.Pace.{place_left}
use Rattle.demangle_v0_parser.proofs.StepErrors.{stops}
use Rattle.demangle_v0_parser.proofs.StepCases.{after_error}
use Rattle.demangle_v0_parser.proofs.NestedNames.{Deep, backref_inner, begins, begins_more, crate_inner, in_crate, inner_last, deep_crate, deep_last, deep_nested, deep_other, deep_too_deep, deep_unnamed, deep_untagged, frames_length, performs_one}
use Rattle.demangle_v0_parser.proofs.parse.Parser.path.Given.{Over}
use Rattle.demangle_v0_parser.proofs.parse.Parser.path.Goals as goal

pub returns-in_err-at-clause-performs : goal.returns-in_err-at-clause-performs
unfolding trace_at
returns-in_err-at-clause-performs g c = performs_one (rw (stops c.from_residual.result c.from_residual.ensures.1 c.in_err-at.ensures.failed.1) (after_error c.requires.can_step.no_pending_text (rw c.in_err-at.ensures.failed.0 refl) (omega arith)))

pub paths-init : goal.paths-init
paths-init g c =
    let m = c.args.self.now in
    record { bound = omega arith; levels = refl; room = omega (arith, c.requires.can_step.room); parser = refl; output = refl; looks = omega arith; pace = omega (arith, place_left (length m.source.symbol.now) _ c.in_ok-at.at c.in_ok-at.ensures.ok); ran = begins g.V.Output m c.args.output.now c.in_ok-at.at c.in_ok-at.ensures.ok }

both_false : (x y : Bool) → x || y ≡ false → (x ≡ false) × (y ≡ false)
both_false false y h = (refl, h)
both_false true y h = absurd (false≢true (sym h))

-- A path without a tag.

untagged-clause-performs : (g : Over) (c : goal.After-push_names g) → Deep g.V.Output c.args.self.now c.args.output.now c.args.self.now.state.depth_left c.paths.count c.paths.at c.paths.self.looks (Err (Abort fixed.Invalid)) c.push_names.new.self c.args.output.now
untagged-clause-performs g c =
    let m = c.args.self.now in
    let missing : None ≡ byte_at m.source.symbol.now c.paths.at = rw (c.paths.invariant.parser, c.in_default.is) at c.tag.ensures.read in
    deep_untagged g.V.Output m c.push_names.new.self c.args.output.now m.state.depth_left c.paths.count c.paths.at c.paths.self.looks c.tag.new.looks (omega (arith, c.paths-test.true)) missing c.tag.ensures.look c.requires.can_step.no_pending_text (rw c.paths.invariant.parser at c.push_names.ensures)

pub returns-in_default-clause-performs : goal.returns-in_default-clause-performs
returns-in_default-clause-performs g c = rw c.paths.invariant.output (deep_last g.V.Output c.args.self.now c.push_names.new.self c.args.output.now c.args.output.now c.args.self.now.state.depth_left c.paths.count c.paths.at c.paths.self.looks (Err (Abort fixed.Invalid)) c.paths.invariant.ran (untagged-clause-performs g c))

-- The path of a crate.

crate-alone-clause-performs : (g : Over) (c : goal.Then-count-eq0 g) → Deep g.V.Output c.args.self.now c.args.output.now c.args.self.now.state.depth_left c.paths.count c.paths.at c.paths.self.looks c.crate_name-performed.result c.crate_name-performed.new.self c.crate_name-performed.new.output
crate-alone-clause-performs g c =
    let m = c.args.self.now in
    let tag : Some (67, c.in-Ok.next) ≡ byte_at m.source.symbol.now c.paths.at = rw (c.paths.invariant.parser, c.in-Ok.is, c.if-tag-eq67.true) at c.tag.ensures.read in
    let k = c.crate_name-performed in
    deep_crate g.V.Output m k.new.self c.args.output.now k.new.output m.state.depth_left c.paths.count c.paths.at c.in-Ok.next c.paths.self.looks c.tag.new.looks k.result c.if-count-eq0.true (omega (arith, c.paths-test.true)) tag c.tag.ensures.look (rw (c.paths.invariant.parser, c.paths.invariant.output) at k.ensures.performs) (rw c.paths.invariant.parser at k.ensures.placed)

pub returns-then-count-eq0-clause-performs : goal.returns-then-count-eq0-clause-performs
returns-then-count-eq0-clause-performs g c = deep_last g.V.Output c.args.self.now c.crate_name-performed.new.self c.args.output.now c.crate_name-performed.new.output c.args.self.now.state.depth_left c.paths.count c.paths.at c.paths.self.looks c.crate_name-performed.result c.paths.invariant.ran (crate-alone-clause-performs g c)

pub returns-then-tag-eq67-clause-performs : goal.returns-then-tag-eq67-clause-performs
returns-then-tag-eq67-clause-performs g c =
    let m = c.args.self.now in
    let tag : Some (67, c.in-Ok.next) ≡ byte_at m.source.symbol.now c.paths.at = rw (c.paths.invariant.parser, c.in-Ok.is, c.if-tag-eq67.true) at c.tag.ensures.read in
    let k = c.crate_name-performed in
    inner_last g.V.Output m k.new.self c.names_after.new.self c.args.output.now k.new.output c.names_after.new.output m.state.depth_left c.paths.count c.paths.at 67 c.in-Ok.next c.paths.self.looks c.tag.new.looks k.result c.names_after.result c.paths.invariant.ran (omega (arith, c.paths-test.true)) tag c.tag.ensures.look
    (crate_inner g.V.Output (in_crate g.V.Output m m.state.depth_left c.paths.count c.in-Ok.next c.tag.new.looks) k.new.self c.args.output.now k.new.output k.result (rw (c.paths.invariant.parser, c.paths.invariant.output) at k.ensures.performs)) (rw c.paths.invariant.parser at k.ensures.placed) c.names_after.ensures.follow

either_result : {X : Type 0} (r : Result Continuation StepError) → (IsOk r → X) → (IsErr r → X) → X
either_result (Ok p) f g = f refl
either_result (Err e) f g = g refl

pub returns-then-tag-eq67-clause-own_looks : goal.returns-then-tag-eq67-clause-own_looks
returns-then-tag-eq67-clause-own_looks g c =
    let placed = rw c.paths.invariant.parser at c.crate_name-performed.ensures.placed in
    let source = ap (λ (z : Parser). z.source) placed in
    let within = rw c.paths.invariant.parser at c.in-Ok.ensures.within in
    let n = length c.args.self.now.source.symbol.now in
    let left = place_left n _ c.in_ok-at.at c.in_ok-at.ensures.ok in
    let count : 0 < c.paths.count = omega (arith, c.if-count-eq0.false) in
    rw c.in_ok-at.ensures.ok (either_result c.crate_name-performed.result (λ ok.
    let first = (rw c.paths.invariant.parser at c.crate_name-performed.ensures.reads) ok in
    omega (arith, first, (rw source at c.names_after.ensures.most) ok, c.paths.invariant.pace, c.tag.ensures.look, within, left, count)
    ) (λ err.
    omega (arith, rw c.paths.invariant.parser at c.crate_name-performed.ensures.most, c.names_after.ensures.stopped err, c.paths.invariant.pace, c.tag.ensures.look, within, left)
    ))

-- A back reference, without output.

both_true : (x y : Bool) → x && y ≡ true → (x ≡ true) × (y ≡ true)
both_true true y h = (refl, h)
both_true false y h = absurd (false≢true h)

pub returns-then-tag-count-clause-performs : goal.returns-then-tag-count-clause-performs
returns-then-tag-count-clause-performs g c =
    let m = c.args.self.now in
    let all = both_true _ _ c.if-tag-count.true in
    let two = both_true _ _ all.0 in
    let hidden : g.V.Output.is_printed ≡ false = sym c.is_printing.ensures ∙ not-true _ all.1 in
    let is_reference : c.in-Ok.tag ≡ 66 = eqb-true c.in-Ok.tag 66 two.0 in
    let tag : Some (66, c.in-Ok.next) ≡ byte_at m.source.symbol.now c.paths.at = rw (c.paths.invariant.parser, c.in-Ok.is, is_reference) at c.tag.ensures.read in
    let k = c.follow_backref-performed in
    let names = c.names_after-then-tag-count in
    inner_last g.V.Output m k.new.self names.new.self c.args.output.now k.new.output names.new.output m.state.depth_left c.paths.count c.paths.at 66 c.in-Ok.next c.paths.self.looks c.tag.new.looks k.result names.result c.paths.invariant.ran (omega (arith, c.paths-test.true)) tag c.tag.ensures.look
    (backref_inner g.V.Output (in_crate g.V.Output m m.state.depth_left c.paths.count c.in-Ok.next c.tag.new.looks) k.new.self c.args.output.now k.new.output k.result (rw (c.paths.invariant.parser, c.paths.invariant.output) at k.ensures.performs)) (rw c.paths.invariant.parser at k.ensures.placed hidden) names.ensures.follow

-- Another path.

pub tagged_path-requires-clause-can_step : goal.tagged_path-requires-clause-can_step
tagged_path-requires-clause-can_step g c =
    let m = c.args.self.now in
    let v = c.requires.can_step in
    rw (c.push_names-then-tag-ne78.ensures, c.paths.invariant.parser, c.paths.invariant.output) (record {
      ascii = v.ascii;
      ready = v.ready;
      no_pending_text = v.no_pending_text;
      room = omega (arith, c.paths.invariant.room, length-append {A = Frame} m.stack.frames (name_frames m.state.in_value m.state.lifetimes m.state.depth_left c.paths.count), frames_length m.state.in_value m.state.lifetimes m.state.depth_left c.paths.count);
      fits = omega (arith, v.fits);
    })

otherwise-clause-performs : (g : Over) (c : goal.After-tagged_path g) → Deep g.V.Output c.args.self.now c.args.output.now c.args.self.now.state.depth_left c.paths.count c.paths.at c.paths.self.looks c.tagged_path.result c.tagged_path.new.self c.tagged_path.new.output
otherwise-clause-performs g c =
    let m = c.args.self.now in
    let read : Some (c.in-Ok.tag, c.in-Ok.next) ≡ byte_at m.source.symbol.now c.paths.at = rw (c.paths.invariant.parser, c.in-Ok.is) at c.tag.ensures.read in
    deep_other g.V.Output m c.tagged_path.new.self c.args.output.now c.tagged_path.new.output m.state.depth_left c.paths.count c.paths.at c.in-Ok.tag c.in-Ok.next c.paths.self.looks c.tag.new.looks c.tagged_path.result (omega (arith, c.paths-test.true)) read c.tag.ensures.look
    (rw (c.push_names-then-tag-ne78.ensures, c.paths.invariant.parser, c.paths.invariant.output) at c.tagged_path.ensures)

pub returns-then-tag-ne78-clause-performs : goal.returns-then-tag-ne78-clause-performs
returns-then-tag-ne78-clause-performs g c = deep_last g.V.Output c.args.self.now c.tagged_path.new.self c.args.output.now c.tagged_path.new.output c.args.self.now.state.depth_left c.paths.count c.paths.at c.paths.self.looks c.tagged_path.result c.paths.invariant.ran (otherwise-clause-performs g c)

-- A nested path.

unnamed-clause-performs : (g : Over) (c : goal.After-push_names-in_default-namespace g) → Deep g.V.Output c.args.self.now c.args.output.now c.args.self.now.state.depth_left c.paths.count c.paths.at c.paths.self.looks (Err (Abort fixed.Invalid)) c.push_names-in_default-namespace.new.self c.args.output.now
unnamed-clause-performs g c =
    let m = c.args.self.now in
    let tag : Some (78, c.in-Ok.next) ≡ byte_at m.source.symbol.now c.paths.at = rw (c.paths.invariant.parser, c.in-Ok.is, c.if-tag-ne78.false) at c.tag.ensures.read in
    let missing : None ≡ namespace_at m.source.symbol.now c.in-Ok.next = rw (c.paths.invariant.parser, c.in_default-namespace.is) at c.namespace.ensures.read in
    deep_unnamed g.V.Output m c.push_names-in_default-namespace.new.self c.args.output.now m.state.depth_left c.paths.count c.paths.at c.in-Ok.next c.paths.self.looks c.namespace.new.looks (omega (arith, c.paths-test.true)) tag missing (omega (arith, c.tag.ensures.look, c.namespace.ensures.look)) c.requires.can_step.no_pending_text
    (rw c.paths.invariant.parser at c.push_names-in_default-namespace.ensures)

pub returns-in_default-namespace-clause-performs : goal.returns-in_default-namespace-clause-performs
returns-in_default-namespace-clause-performs g c = rw c.paths.invariant.output (deep_last g.V.Output c.args.self.now c.push_names-in_default-namespace.new.self c.args.output.now c.args.output.now c.args.self.now.state.depth_left c.paths.count c.paths.at c.paths.self.looks (Err (Abort fixed.Invalid)) c.paths.invariant.ran (unnamed-clause-performs g c))

pub push_lettered-requires-clause-room : goal.push_lettered-requires-clause-room
push_lettered-requires-clause-room g c =
    let m = c.args.self.now in
    rw (c.push_names-then-is_ascii_uppercase-room_left.ensures, c.paths.invariant.parser)
    (omega (arith, c.paths.invariant.room, length-append {A = Frame} m.stack.frames (name_frames m.state.in_value m.state.lifetimes m.state.depth_left c.paths.count), frames_length m.state.in_value m.state.lifetimes m.state.depth_left c.paths.count))

pub push_lettered-requires-clause-small : goal.push_lettered-requires-clause-small
push_lettered-requires-clause-small g c = rw (c.push_names-then-is_ascii_uppercase-room_left.ensures, c.paths.invariant.parser) (omega (arith, c.requires.can_step.fits))

nested-clause-performs : (g : Over) (c : goal.After-push_lettered g) → Deep g.V.Output c.args.self.now c.args.output.now c.args.self.now.state.depth_left c.paths.count c.paths.at c.paths.self.looks (Ok continuation.Path) c.push_lettered.new.self c.args.output.now
nested-clause-performs g c =
    let m = c.args.self.now in
    let tag : Some (78, c.in-Ok.next) ≡ byte_at m.source.symbol.now c.paths.at = rw (c.paths.invariant.parser, c.in-Ok.is, c.if-tag-ne78.false) at c.tag.ensures.read in
    let namespace : Some (c.in-Ok-namespace.letter, c.in-Ok-namespace.after) ≡ namespace_at m.source.symbol.now c.in-Ok.next = rw (c.paths.invariant.parser, c.in-Ok-namespace.is) at c.namespace.ensures.read in
    deep_nested g.V.Output m c.push_lettered.new.self c.args.output.now m.state.depth_left c.paths.count c.paths.at c.in-Ok.next c.in-Ok-namespace.letter c.in-Ok-namespace.after c.paths.self.looks c.namespace.new.looks (omega (arith, c.paths-test.true)) tag namespace
    (omega (arith, c.tag.ensures.look, c.namespace.ensures.look)) c.requires.can_step.no_pending_text (omega (arith, c.requires.can_step.fits)) (rw (c.push_names-then-is_ascii_uppercase-room_left.ensures, c.paths.invariant.parser) at c.push_lettered.ensures)

pub returns-then-is_ascii_uppercase-room_left-clause-performs : goal.returns-then-is_ascii_uppercase-room_left-clause-performs
returns-then-is_ascii_uppercase-room_left-clause-performs g c = rw c.paths.invariant.output (deep_last g.V.Output c.args.self.now c.push_lettered.new.self c.args.output.now c.args.output.now c.args.self.now.state.depth_left c.paths.count c.paths.at c.paths.self.looks (Ok continuation.Path) c.paths.invariant.ran (nested-clause-performs g c))

pub paths-preserved : goal.paths-preserved
paths-preserved g c =
    let m = c.args.self.now in
    let tag : Some (78, c.in-Ok.next) ≡ byte_at m.source.symbol.now c.paths.at = rw (c.paths.invariant.parser, c.in-Ok.is, c.if-tag-ne78.false) at c.tag.ensures.read in
    let namespace : Some (c.in-Ok-namespace.letter, c.in-Ok-namespace.after) ≡ namespace_at m.source.symbol.now c.in-Ok.next = rw (c.paths.invariant.parser, c.in-Ok-namespace.is) at c.namespace.ensures.read in
    let all = both_false _ _ c.if-is_ascii_uppercase-room_left.false in
    let plain : is_upper c.in-Ok-namespace.letter ≡ false = sym c.is_ascii_uppercase.ensures.value ∙ all.0 in
    let looks : c.namespace.new.looks ≡ c.paths.self.looks + 2 = omega (arith, c.tag.ensures.look, c.namespace.ensures.look) in
    let wide : c.from.result + 1 < c.room_left.result = leb-false _ _ all.1 in
    record {
      bound = omega (arith, c.paths-test.true);
      levels = refl;
      room = omega (arith, c.paths.invariant.room, wide, c.room_left.ensures, c.from.ensures, ap (λ (z : Parser). length z.stack.frames) c.paths.invariant.parser, ap (λ (z : Parser). z.stack.room) c.paths.invariant.parser);
      parser = rw c.paths.invariant.parser refl;
      output = c.paths.invariant.output;
      looks = omega (arith, c.paths.invariant.looks, looks);
      pace = omega (arith, c.paths.invariant.pace, looks, rw c.paths.invariant.parser at c.in-Ok.ensures.within, rw c.paths.invariant.parser at c.in-Ok-namespace.ensures.within);
      ran = rw looks (begins_more g.V.Output m c.args.output.now m.state.depth_left c.paths.count c.paths.at c.in-Ok.next c.in-Ok-namespace.letter c.in-Ok-namespace.after c.paths.self.looks c.paths.invariant.ran (omega (arith, c.paths-test.true)) tag namespace plain c.requires.can_step.no_pending_text (omega (arith, c.requires.can_step.fits)));
    }

-- No level is left.

too-deep-clause-performs : (g : Over) (c : goal.After-push_names-2 g) → Deep g.V.Output c.args.self.now c.args.output.now c.args.self.now.state.depth_left c.paths.count c.paths.at c.paths.self.looks (Err (Abort fixed.Recursion)) c.push_names-2.new.self c.args.output.now
too-deep-clause-performs g c =
    let m = c.args.self.now in
    deep_too_deep g.V.Output m c.push_names-2.new.self c.args.output.now m.state.depth_left c.paths.count c.paths.at c.paths.self.looks (omega (arith, c.paths-test.false)) c.requires.can_step.no_pending_text (rw c.paths.invariant.parser at c.push_names-2.ensures)

pub returns-clause-performs : goal.returns-clause-performs
returns-clause-performs g c = rw c.paths.invariant.output (deep_last g.V.Output c.args.self.now c.push_names-2.new.self c.args.output.now c.args.output.now c.args.self.now.state.depth_left c.paths.count c.paths.at c.paths.self.looks (Err (Abort fixed.Recursion)) c.paths.invariant.ran (too-deep-clause-performs g c))

pub names_after-requires-then-tag-count-clause-ready : goal.names_after-requires-then-tag-count-clause-ready
names_after-requires-then-tag-count-clause-ready g c = λ ok.
    let m = c.args.self.now in
    let k = c.follow_backref-performed in
    let d = backref_inner g.V.Output (in_crate g.V.Output m m.state.depth_left c.paths.count c.in-Ok.next c.tag.new.looks) k.new.self c.args.output.now k.new.output k.result (rw (c.paths.invariant.parser, c.paths.invariant.output) at k.ensures.performs) in
    d.does.ready c.requires.can_step.ready ok
