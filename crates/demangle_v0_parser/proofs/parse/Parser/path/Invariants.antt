use Rattle.std.specs.Prelude.{◌*◌}
use Rattle.std.proofs.Common.{◌≡◌, ◌+◌, ◌-◌, ◌<◌, ◌≤◌, Some, length}
use Rattle.demangle_v0_parser.specs.Parsers.{env_of, left_at, looked, machine_of}
use Rattle.demangle_v0_parser.specs.Steps.{machine}
use Rattle.demangle_v0_parser.specs.StepRuns.{Runs, bare, name_frames}
use Rattle.demangle_v0_parser.specs.declared.Continuation.TheVariants as continuation
use Rattle.demangle_v0_parser.proofs.parse.Parser.path.Given as goal

abbrev pub invariant-paths : goal.invariant-paths
invariant-paths g l =
    let m = l.fn.self in
    record {
      bound : l.count ≤ l.outer;
      levels : l.outer ≡ m.state.depth_left;
      room : length m.stack.frames + l.count < m.stack.room;
      parser : l.self ≡ looked m l.self.looks;
      output : l.output ≡ l.fn.output;
      looks : m.looks + l.count ≤ l.self.looks;
      pace : l.self.looks + 4 * (length m.source.symbol.now - l.at) + 6 * l.count ≤ m.looks + 4 * left_at (length m.source.symbol.now) m.state.place;
      ran : Runs (env_of g.V.Output m) continuation.Path (bare (machine_of m l.fn.output)) continuation.Path (machine (record m.state { depth_left = l.outer - l.count; place = Some l.at }) (name_frames m.state.in_value m.state.lifetimes l.outer l.count) l.fn.output l.self.looks);
    }

abbrev pub decreases-paths : goal.decreases-paths
decreases-paths g l = l.outer - l.count
