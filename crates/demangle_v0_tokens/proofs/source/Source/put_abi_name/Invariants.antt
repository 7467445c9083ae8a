use Rattle.std.proofs.Common.{◌≡◌, ◌+◌, ◌≤◌, [], slice_range}
use Rattle.demangle_v0_grammar.specs.Table.{hyphenated_abi}
use Rattle.demangle_sink.specs.Limit.{PrintedPrefix}
use Rattle.demangle_v0_tokens.proofs.source.Source.put_abi_name.Given as goal

abbrev pub invariant-loop-at : goal.invariant-loop-at
invariant-loop-at g l = record {
  begun : l.name.from ≤ l.from;
  order : l.from ≤ l.at;
  printed : PrintedPrefix g.S.TextSink l.fn.out (hyphenated_abi [] (slice_range l.self.symbol.now l.name.from l.name.to)) (hyphenated_abi (slice_range l.self.symbol.now l.from l.at) (slice_range l.self.symbol.now l.at l.name.to)) l.out;
  looked : l.looks + l.name.from ≡ l.initial.looks + l.at;
}
