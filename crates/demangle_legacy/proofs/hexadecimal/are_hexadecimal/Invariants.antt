use Rattle.std.proofs.Common.{◌≡◌, take, eqb}
use Rattle.std.specs.List.{list_all}
use Rattle.std.specs.Char.{is_ascii_hexdigit}
use Rattle.demangle_legacy.proofs.hexadecimal.are_hexadecimal.Given as goal

abbrev pub invariant-loop-k : goal.invariant-loop-k
invariant-loop-k l = eqb l.any 0 ≡ list_all is_ascii_hexdigit (take l.k l.bytes)
