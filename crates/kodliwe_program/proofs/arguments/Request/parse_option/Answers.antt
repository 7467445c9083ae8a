use Rattle.std.proofs.Common.{subst}
use Rattle.std.proofs.lemmas.Result.{err_from_is_err_and}
use Rattle.kodliwe_program.specs.declared.arguments.Argument.TheVariants as kind
use Rattle.kodliwe_program.specs.CommandLine.{IsInvalidValue, anything, options_of, has_value, has_refused, is_alone}
use Rattle.kodliwe_program.specs.OneArgument.{IsArgument, Rejects}
use Rattle.kodliwe_program.proofs.ArgumentLemmas.{refusal_then}
use Rattle.kodliwe_program.proofs.arguments.Request.parse_option.Goals as goal

pub returns-in_default-clause-takes : goal.returns-in_default-clause-takes
returns-in_default-clause-takes c = λ is arguments answer asks. is_alone c.args.option (subst (λ o. IsArgument c.args.argument.now (kind.Valued c.args.option o)) c.in_default.is is) asks

pub returns-in_err-set_value-clause-refused : goal.returns-in_err-set_value-clause-refused
returns-in_err-set_value-clause-refused c = λ is.
    let value = c.in-Some.value in
    let within = subst (λ o. IsArgument c.args.argument.now (kind.Valued c.args.option o)) c.in-Some.is is in
    let p = err_from_is_err_and c.from_residual.result c.from_residual.ensures.1 in
    rw (p.1, p.2) (refusal_then _ {P = λ a. IsInvalidValue (options_of c.args.self.now) c.args.option c.args.argument.now value.now a} {Q = λ a. Rejects anything (options_of c.args.self.now) c.args.argument.now a}
    (λ answer refused arguments. has_refused c.args.option value.now within refused) c.in_err-set_value.ensures.refused)

pub returns-clause-takes : goal.returns-clause-takes
returns-clause-takes c = λ is arguments answer asks.
    has_value c.args.option c.in-Some.value.now (subst (λ o. IsArgument c.args.argument.now (kind.Valued c.args.option o)) c.in-Some.is is) c.in_ok-set_value.ensures.sets asks
