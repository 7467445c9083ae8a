use Rattle.std.proofs.Common.{drop, map}
use Rattle.std.specs.String.{string_bytes}
use Rattle.kodliwe_program.specs.CommandLine.{ParsedAs, ParsesTo, anything, defaults, options_of}
use Rattle.kodliwe_program.specs.OneArgument.{expected_of}
use Rattle.kodliwe_program.proofs.arguments.parse_arguments.Given as goal

abbrev pub invariant-loop-argument : goal.invariant-loop-argument
invariant-loop-argument l = (answer : ParsedAs) → ParsesTo (expected_of l.next) (options_of l.request) (map string_bytes (drop l.argument-index l.arguments)) answer
    → ParsesTo anything defaults (map string_bytes l.arguments) answer
