use Rattle.std.proofs.Common.{◌≡◌, ◌++◌, List, arith, sym, ap, ◌∙◌}
use Rattle.std.proofs.lemmas.List.{append-nil}
use Rattle.demangle_v0_parser.specs.Parsers.{restacked}
use Rattle.demangle_v0_parser.specs.declared.frames.Frame.{Frame}
use Rattle.demangle_v0_parser.proofs.NestedNames.{frames_none}
use Rattle.demangle_v0_parser.proofs.parse.Parser.push_names.Goals as goal

pub returns-else-count-gt0 : goal.returns-else-count-gt0
returns-else-count-gt0 c =
    let m = c.args.self.now in
    let none : c.args.count ≡ 0 = omega (arith, c.if-count-gt0.false) in
    rw none (sym (ap (λ (zs : List Frame). restacked m zs) (ap (λ (zs : List Frame). m.stack.frames ++ zs) (frames_none m.state.in_value m.state.lifetimes c.args.outer) ∙ append-nil m.stack.frames)))
