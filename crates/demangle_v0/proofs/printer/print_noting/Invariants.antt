use Rattle.std.proofs.Common.{◌≡◌, ◌≤◌, ◌⊎◌, false, Ok}
use Rattle.demangle_sink.specs.Limit.{Ready}
use Rattle.demangle_v0.specs.Above.{StopsAtTarget, work_after}
use Rattle.demangle_v0.specs.HeldTexts.{HoldsTexts}
use Rattle.demangle_v0_parser.specs.Loops.{PrintDone, printing}
use Rattle.demangle_v0_parser.specs.Parsers.{Same, UnfinishedIsValid, checkpoint_of, machine_of}
use Rattle.demangle_v0.proofs.printer.print_noting.Given as goal

abbrev pub invariant-noting : goal.invariant-noting
invariant-noting g l = record {
  ready : Ready g.S.TextSink l.out;
  ran : PrintDone (printing g.S.TextSink l.initial.parser.source.symbol.now l.initial.parser.source.form) l.initial.parser.continuation (machine_of l.initial.parser l.initial.out) (Ok l.left) (checkpoint_of l.parser) l.parser.stack.frames l.out l.parser.looks;
  valid : UnfinishedIsValid 0 (Ok l.left) l.parser;
  full : l.may_stop ≡ false → StopsAtTarget (Ok l.left) l.parser ⊎ UnfinishedIsValid l.parser.stack.room (Ok l.left) l.parser;
  held : HoldsTexts g.S.TextSink l.initial.parser.source.symbol.now l.initial.parser.source.form l.out l.texts;
  same : Same l.initial.parser l.parser;
  grows : l.initial.parser.looks ≤ l.parser.looks;
}

abbrev pub decreases-noting : goal.decreases-noting
decreases-noting g l = work_after l.left l.parser
