use Rattle.std.proofs.Common.{◌≡◌, ◌+◌, ◌≤◌, ◌++◌, List, length, true}
use Rattle.demangle_sink.specs.Limit.{Ready}
use Rattle.demangle_v0_parser.specs.Parsers.{Same, machine_of}
use Rattle.demangle_v0_parser.specs.Measure.{measure}
use Rattle.demangle_v0.specs.Above.{RunsAbove}
use Rattle.demangle_v0_parser.specs.Loops.{Valid, first_looks, printing}
use Rattle.demangle_v0_parser.specs.Steps.{machine}
use Rattle.demangle_v0_parser.specs.declared.frames.Frame.{Frame}
use Rattle.demangle_v0.proofs.printer.print_above.Given as goal

abbrev pub invariant-steps : goal.invariant-steps
invariant-steps g l = record {
  ready : Ready g.S.TextSink l.out;
  valid : Valid l.continuation l.parser.state l.parser.stack.frames;
  ran : (below above : List Frame) → l.initial.parser.stack.frames ≡ below ++ above → length below ≡ l.scope.base → RunsAbove (printing g.S.TextSink l.initial.parser.source.symbol.now l.initial.parser.source.form) below l.initial.parser.continuation (machine l.initial.parser.state above l.initial.out l.initial.parser.looks) l.continuation (machine_of l.parser l.out);
  same : Same l.initial.parser l.parser;
  less : measure l.initial.parser.source.symbol.now l.initial.parser.source.form true l.continuation l.parser.state l.parser.stack.frames ≤ measure l.initial.parser.source.symbol.now l.initial.parser.source.form true l.initial.parser.continuation l.initial.parser.state l.initial.parser.stack.frames;
  grows : l.initial.parser.looks ≤ l.parser.looks;
  least : l.initial.parser.looks + first_looks l.initial.parser.continuation l.initial.parser.state ≤ l.parser.looks + first_looks l.continuation l.parser.state;
}

abbrev pub decreases-steps : goal.decreases-steps
decreases-steps g l = measure l.initial.parser.source.symbol.now l.initial.parser.source.form true l.continuation l.parser.state l.parser.stack.frames
