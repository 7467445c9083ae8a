use Rattle.std.proofs.Common.{take, Ok, map}
use Rattle.std.specs.Prelude.{encode_utf8}
use Rattle.demangle_sink.specs.Limit.{Prints}
use Rattle.demangle_sink.proofs.chars.put_chars.Given as goal

abbrev pub invariant-loop-c : goal.invariant-loop-c
invariant-loop-c g l = Prints g.S.TextSink l.fn.out (map encode_utf8 (take l.c-index l.characters)) (Ok tt) l.out
