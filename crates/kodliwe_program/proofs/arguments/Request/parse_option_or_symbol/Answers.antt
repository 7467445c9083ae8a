use Rattle.std.proofs.Common.{◌≡◌, ◌++◌, ◌∙◌, codes, ap, subst}
use Rattle.std.proofs.lemmas.Result.{err_from_is_err_and}
use Rattle.kodliwe_program.specs.declared.about.About.TheVariants.{Completions}
use Rattle.kodliwe_program.specs.declared.arguments.Request.{Request}
use Rattle.kodliwe_program.specs.CommandLine.{IsInvalidShell, Options, ParsesTo, anything, options_of, takes_symbol, takes_stdin, takes_hash, takes_fold, takes_text, has_bad_shell, awaits_shell, takes_end, is_unknown}
use Rattle.kodliwe_program.specs.OneArgument.{Rejects}
use Rattle.kodliwe_program.proofs.ArgumentLemmas.{sets_stdin, refusal_then}
use Rattle.kodliwe_program.proofs.arguments.Request.parse_option_or_symbol.Goals as goal
use Rattle.kodliwe_program.proofs.arguments.Request.parse_option_or_symbol.Goals.{in-Symbol+in_ok-add_symbol-in-Symbol, in-Stdin+in_ok-add_file-in-Stdin, in-Hash, in-Fold}

pub returns-in-End-clause-takes : goal.returns-in-End-clause-takes
returns-in-End-clause-takes c = λ arguments answer asks. takes_end c.in-End.ensures.is asks

pub returns-in-Print-clause-takes : goal.returns-in-Print-clause-takes
returns-in-Print-clause-takes c = λ arguments. takes_text c.in-Print.about c.in-Print.ensures.is

pub returns-in-Completions-clause-takes : goal.returns-in-Completions-clause-takes
returns-in-Completions-clause-takes c = λ arguments answer asks. awaits_shell c.in-Completions.ensures.is asks

pub returns-in_err-shell-in-CompletionsOf-clause-refused : goal.returns-in_err-shell-in-CompletionsOf-clause-refused
returns-in_err-shell-in-CompletionsOf-clause-refused c =
    let left = c.from_residual-in_err-shell-in-CompletionsOf in
    let p = err_from_is_err_and left.result left.ensures.1 in
    let name = c.in-CompletionsOf.name.now in
    rw (p.1, p.2) (refusal_then _ {P = λ a. IsInvalidShell name a} {Q = λ a. Rejects anything (options_of c.args.self.now) c.args.argument.now a}
    (λ answer refused arguments. has_bad_shell name c.in-CompletionsOf.ensures.is refused) c.in_err-shell-in-CompletionsOf.ensures.refused)

pub returns-in-CompletionsOf-clause-takes : goal.returns-in-CompletionsOf-clause-takes
returns-in-CompletionsOf-clause-takes c = λ arguments.
    takes_text (Completions c.in_ok-shell-in-CompletionsOf.shell) (c.in-CompletionsOf.ensures.is ∙ ap (λ name. codes "--completions=" ++ name) c.in_ok-shell-in-CompletionsOf.ensures.named)

pub returns-in-Unknown-clause-refused : goal.returns-in-Unknown-clause-refused
returns-in-Unknown-clause-refused c = λ arguments. is_unknown c.in-Unknown.ensures.is

pub returns-clause-takes : goal.returns-clause-takes
returns-clause-takes c = λ arguments answer asks.
    let old = options_of c.args.self.now in
    let left : Options → Type 0 = λ o. ParsesTo anything o arguments answer in
    let parsed : (r : Request) → c.match-classify.self ≡ r → ParsesTo anything (options_of r) arguments answer = λ r e. subst (λ r. ParsesTo anything (options_of r) arguments answer) e asks in
    elim c.match-classify.branch [
      | in-Symbol+in_ok-add_symbol-in-Symbol w ↦ takes_symbol w.in-Symbol.ensures.is (subst left w.in_ok-add_symbol-in-Symbol.ensures (parsed _ w.self-is))
      | in-Stdin+in_ok-add_file-in-Stdin w ↦ takes_stdin w.in-Stdin.ensures.is (subst left (sets_stdin _ _ w.in_ok-add_file-in-Stdin.ensures.sets) (parsed _ w.self-is))
      | in-Hash w ↦ takes_hash w.in-Hash.ensures.is (parsed _ w.self-is)
      | in-Fold w ↦ takes_fold w.in-Fold.ensures.is (parsed _ w.self-is)
    ]
