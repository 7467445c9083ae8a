use Rattle.std.proofs.Common.{IfSome, map, subst, sym}
use Rattle.std.specs.String.{string_bytes}
use Rattle.kodliwe_program.specs.CommandLine.{ParsesTo, anything, defaults, options_of}
use Rattle.kodliwe_program.proofs.ArgumentLemmas.{ends_there, lacks_there, lacks_shell, arguments_left}
use Rattle.kodliwe_program.proofs.arguments.parse_arguments.Goals as goal

pub returns-in-Anything : goal.returns-in-Anything
returns-in-Anything c = record {
  parsed = c.loop-argument.invariant _ (ends_there c.loop-argument.next (options_of c.loop-argument.request) _ (arguments_left string_bytes c.args.arguments.now _ c.loop-argument-test.false) c.in-Anything.is);
  refused = tt;
}

pub returns-in-Value-clause-refused : goal.returns-in-Value-clause-refused
returns-in-Value-clause-refused c =
    let refused = c.loop-argument.invariant _ (lacks_there c.loop-argument.next (options_of c.loop-argument.request) _ c.in-Value.option c.in-Value.argument (arguments_left string_bytes c.args.arguments.now _ c.loop-argument-test.false) c.in-Value.is) in
    subst (λ o. IfSome o (λ answer. ParsesTo anything defaults (map string_bytes c.args.arguments.now) answer)) (sym c.missing_value.ensures) refused

pub returns-clause-refused : goal.returns-clause-refused
returns-clause-refused c =
    c.loop-argument.invariant _ (lacks_shell c.loop-argument.next (options_of c.loop-argument.request) _ (arguments_left string_bytes c.args.arguments.now _ c.loop-argument-test.false) c.in-Shell.is)
