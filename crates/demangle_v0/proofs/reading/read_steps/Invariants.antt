use Rattle.std.proofs.Common.{◌≡◌, ◌++◌, ◌≤◌, List, length, false}
use Rattle.demangle_v0_parser.specs.Parsers.{Same}
use Rattle.demangle_v0_parser.specs.Measure.{AllInner, measure}
use Rattle.demangle_v0_parser.specs.Loops.{Valid, Reads, no_output_env, no_output_machine}
use Rattle.demangle_v0_parser.specs.declared.frames.Frame.{Frame}
use Rattle.demangle_v0.proofs.reading.read_steps.Given as goal

abbrev pub invariant-steps : goal.invariant-steps
invariant-steps l = record {
  valid : Valid l.continuation l.parser.state l.parser.stack.frames;
  reads : (below above : List Frame) → l.initial.parser.stack.frames ≡ below ++ above → length below ≡ l.base → AllInner above → Reads (no_output_env l.initial.parser.source.symbol.now l.initial.parser.source.form) below l.initial.parser.continuation (no_output_machine l.initial.parser.state above l.initial.parser.looks) l.continuation (no_output_machine l.parser.state l.parser.stack.frames l.parser.looks);
  same : Same l.initial.parser l.parser;
  grows : l.initial.parser.looks ≤ l.parser.looks;
}

abbrev pub decreases-steps : goal.decreases-steps
decreases-steps l = measure l.initial.parser.source.symbol.now l.initial.parser.source.form false l.continuation l.parser.state l.parser.stack.frames
