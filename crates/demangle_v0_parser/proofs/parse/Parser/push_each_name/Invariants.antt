use Rattle.std.proofs.Common.{◌≡◌, ◌++◌}
use Rattle.demangle_v0_parser.specs.Parsers.{restacked}
use Rattle.demangle_v0_parser.specs.StepRuns.{name_frames}
use Rattle.demangle_v0_parser.proofs.parse.Parser.push_each_name.Given as goal

abbrev pub invariant-loop-done : goal.invariant-loop-done
invariant-loop-done l = record {
  pushed : l.self ≡ restacked l.initial.self (l.initial.self.stack.frames ++ name_frames l.initial.self.state.in_value l.initial.self.state.lifetimes l.outer l.done);
}
