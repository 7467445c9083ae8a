use Rattle.std.proofs.Common.{◌∷◌, subst, sym}
use Rattle.std.proofs.lemmas.Result.{err_from_is_err_and}
use Rattle.kodliwe_program.specs.declared.about.About.TheVariants.{Completions}
use Rattle.kodliwe_program.specs.CommandLine.{ParsesTo, prints, a_symbol, options_of, is_value, is_refused, is_shell, is_bad_shell, is_symbol}
use Rattle.kodliwe_program.specs.OneArgument.{Rejects, expected_of}
use Rattle.kodliwe_program.proofs.ArgumentLemmas.{refusal_then}
use Rattle.kodliwe_program.proofs.arguments.Request.parse_argument.Goals as goal

pub returns-in_err-set_value-in-Value-clause-refused : goal.returns-in_err-set_value-in-Value-clause-refused
returns-in_err-set_value-in-Value-clause-refused c =
    let p = err_from_is_err_and c.from_residual.result c.from_residual.ensures.1 in
    rw (p.1, p.2) (refusal_then _ (λ answer refused.
    subst (λ n. Rejects (expected_of n) (options_of c.args.self.now) c.args.argument.now answer) (sym c.in-Value.is) (λ arguments. is_refused refused)) c.in_err-set_value-in-Value.ensures.refused)

pub returns-in_ok-set_value-in-Value-clause-takes : goal.returns-in_ok-set_value-in-Value-clause-takes
returns-in_ok-set_value-in-Value-clause-takes c = λ arguments answer asks.
    subst (λ n. ParsesTo (expected_of n) (options_of c.args.self.now) (c.args.argument.now ∷ arguments) answer) (sym c.in-Value.is) (is_value c.in_ok-set_value-in-Value.ensures.sets asks)

pub returns-in_ok-add_symbol-in-Symbol-clause-takes : goal.returns-in_ok-add_symbol-in-Symbol-clause-takes
returns-in_ok-add_symbol-in-Symbol-clause-takes c = λ arguments answer asks.
    subst (λ n. ParsesTo (expected_of n) (options_of c.args.self.now) (c.args.argument.now ∷ arguments) answer) (sym c.in-Symbol.is)
    (is_symbol (subst (λ o. ParsesTo a_symbol o arguments answer) c.in_ok-add_symbol-in-Symbol.ensures asks))

pub returns-in_err-shell-in-Shell-clause-refused : goal.returns-in_err-shell-in-Shell-clause-refused
returns-in_err-shell-in-Shell-clause-refused c =
    let left = c.from_residual-in_err-shell-in-Shell in
    let p = err_from_is_err_and left.result left.ensures.1 in
    rw (p.1, p.2) (refusal_then _ (λ answer refused.
    subst (λ n. Rejects (expected_of n) (options_of c.args.self.now) c.args.argument.now answer) (sym c.in-Shell.is) (λ arguments. is_bad_shell refused)) c.in_err-shell-in-Shell.ensures.refused)

pub returns-in_ok-shell-in-Shell-clause-takes : goal.returns-in_ok-shell-in-Shell-clause-takes
returns-in_ok-shell-in-Shell-clause-takes c = λ arguments.
    let shell = c.in_ok-shell-in-Shell.shell in
    subst (λ n. ParsesTo (expected_of n) (options_of c.args.self.now) (c.args.argument.now ∷ arguments) (prints (Completions shell))) (sym c.in-Shell.is)
    (is_shell shell c.in_ok-shell-in-Shell.ensures.named)
