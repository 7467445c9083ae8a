use Rattle.std.proofs.Common.{rules, ◌≡◌, ◌++◌, ◌∷◌, ℕ, List}
use Rattle.kodliwe_program.proofs.ArgumentLemmas.{not_alone, no_value, no_long_value}
use Rattle.kodliwe_program.proofs.arguments.kinds.option_value.Goals as goal
use Rattle.kodliwe_program.proofs.arguments.kinds.option_value.Goals.{in-Some+in_default-strip_prefix, in_default}

pub returns-in-None-clause-none : goal.returns-in-None-clause-none
returns-in-None-clause-none c =
    let argument = c.args.argument.now in
    let no_short : argument ≡ c.args.short.now → ⊥ = search rules in
    let no_long : argument ≡ c.args.long.now → ⊥ = search rules in
    let no_long_with_value : (value : List ℕ) → argument ≡ c.args.long.now ++ 61 ∷ value → ⊥ = elim c.match-strip_prefix.branch [
      | in-Some+in_default-strip_prefix w ↦ (let s = w.in-Some.ensures.cases in no_long_value _ _ _ s.0 s.1.0 s.2 w.in_default-strip_prefix.ensures.cases)
      | in_default w ↦ (λ value. w.in_default.ensures.cases (61 ∷ value))
    ] in
    (not_alone _ _ _ no_short no_long, no_value _ _ _ no_long_with_value c.in-None.ensures.cases)
