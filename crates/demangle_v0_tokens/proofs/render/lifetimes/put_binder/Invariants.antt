use Rattle.std.proofs.Common.{◌+◌, ◌-◌}
use Rattle.demangle_v0_grammar.specs.Binders.{binder_texts, more_texts}
use Rattle.demangle_sink.specs.Limit.{PrintedPrefix}
use Rattle.demangle_v0_tokens.proofs.render.lifetimes.put_binder.Given as goal

abbrev pub invariant-loop-at : goal.invariant-loop-at
invariant-loop-at g l = PrintedPrefix g.S.TextSink l.fn.out (binder_texts l.fn.count l.fn.first) (more_texts (l.fn.count - l.at) (l.fn.first + l.at)) l.out
