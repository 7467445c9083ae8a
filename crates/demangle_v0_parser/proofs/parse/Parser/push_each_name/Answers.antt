use Rattle.std.specs.Prelude.{◌^◌}
use Rattle.std.proofs.Common.{◌++◌, ◌<◌, length, refl, arith, sym, ap, ◌∙◌, List, append_assoc, length-append}
use Rattle.std.proofs.lemmas.List.{append-nil}
use Rattle.demangle_v0_parser.specs.Parsers.{restacked}
use Rattle.demangle_v0_parser.specs.StepRuns.{name_frames}
use Rattle.demangle_v0_parser.specs.declared.frames.Frame.{Frame}
use Rattle.demangle_v0_parser.specs.declared.parse.Parser.{Parser}
use Rattle.demangle_v0_parser.proofs.NestedNames.{frames_more, frames_none, frames_length}
use Rattle.demangle_v0_parser.proofs.parse.Parser.push_each_name.Goals as goal

pub loop-done-init : goal.loop-done-init
loop-done-init c =
    let m = c.args.self.now in
    record { pushed = sym (ap (λ (zs : List Frame). restacked m zs) (ap (λ (zs : List Frame). m.stack.frames ++ zs) (frames_none m.state.in_value m.state.lifetimes c.args.outer) ∙ append-nil m.stack.frames)) }

pub push-requires : goal.push-requires
push-requires c =
    let m = c.args.self.now in
    let fs = name_frames m.state.in_value m.state.lifetimes c.args.outer c.loop-done.done in
    omega (arith, ap (λ (k : Parser). length k.stack.frames) c.loop-done.invariant.pushed, ap (λ (k : Parser). k.stack.room) c.loop-done.invariant.pushed, length-append {A = Frame} m.stack.frames fs, frames_length m.state.in_value m.state.lifetimes c.args.outer c.loop-done.done, c.loop-done-test.true, c.requires.room)

pub loop-done-preserved : goal.loop-done-preserved
loop-done-preserved c =
    let m = c.args.self.now in
    let small : c.frame-frame.result.number < 2 ^ 80 = omega (arith, ap (λ (f : Frame). f.number) c.frame-frame.ensures, ap (λ (k : Parser). k.state.lifetimes) c.loop-done.invariant.pushed, c.requires.small) in
    let p = c.push.ensures.pushed small in
    record { pushed = rw (p, c.frame-frame.ensures, c.loop-done.invariant.pushed, frames_more m.state.in_value m.state.lifetimes c.args.outer c.loop-done.done, append_assoc) refl }
