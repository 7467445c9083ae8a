use Rattle.std.specs.Prelude.{◌*◌}
use Rattle.std.proofs.Common.{◌≡◌, ◌+◌, ◌-◌, ◌≤◌, None, length}
use Rattle.demangle_v0_parser.specs.Parsers.{env_of, left_at, machine_over}
use Rattle.demangle_v0_parser.specs.Steps.{Machine}
use Rattle.demangle_v0_parser.specs.StepRuns.{Runs, bare, name_frames}
use Rattle.demangle_v0_parser.specs.declared.Continuation.{Continuation}
use Rattle.demangle_v0_parser.specs.declared.Continuation.TheVariants as continuation
use Rattle.demangle_v0_parser.proofs.parse.Parser.plain_names.Given as goal

abbrev pub invariant-names : goal.invariant-names
invariant-names g l =
    let m = l.initial.self in
    record {
      bound : l.left ≤ l.count;
      source : l.self.source ≡ m.source;
      stack : l.self.stack ≡ m.stack;
      lifetimes : l.self.state.lifetimes ≡ m.state.lifetimes;
      no_pending_text : l.self.state.pending_text ≡ None;
      grows : m.looks ≤ l.self.looks;
      reads : l.self.looks + 4 * left_at (length m.source.symbol.now) l.self.state.place ≤ m.looks + 4 * left_at (length m.source.symbol.now) m.state.place + 5 * (l.count - l.left);
      ready : g.V.Output.ready l.output;
      ran : (p : Continuation) (before : Machine _) → Runs (env_of g.V.Output m) p (bare before) continuation.End (machine_over (name_frames m.state.in_value m.state.lifetimes l.outer l.count) m l.initial.output) → Runs (env_of g.V.Output m) p (bare before) continuation.End (machine_over (name_frames l.self.state.in_value l.self.state.lifetimes l.outer l.left) l.self l.output);
    }

abbrev pub decreases-names : goal.decreases-names
decreases-names g l = l.left
