-- The kind of one argument, and its effect.
use Rattle.std.specs.Prelude.{◌≡◌, ℕ, false, nat_eq, List, ◌∷◌, ◌++◌, codes, Some, None}
use Rattle.std.specs.List.{starts_with}
use Rattle.kodliwe_program.specs.declared.arguments.Argument.{Argument}
use Rattle.kodliwe_program.specs.declared.arguments.Argument.TheVariants as kind
use Rattle.kodliwe_program.specs.declared.arguments.NextArgument.{NextArgument}
use Rattle.kodliwe_program.specs.declared.arguments.NextArgument.TheVariants as next
use Rattle.kodliwe_program.specs.declared.arguments.AfterArgument.{AfterArgument}
use Rattle.kodliwe_program.specs.declared.arguments.AfterArgument.TheVariants as taken
use Rattle.kodliwe_program.specs.CommandLine.{short_name, long_name, IsAlone, HasValue, Requests, IsUnknown, Options, ParsedAs, prints, ExpectedArgument, anything, a_value, a_shell, a_symbol, ParsesTo}

-- the kind of an argument before `--`
abbrev pub IsArgument : List ℕ → Argument → Type 0
IsArgument argument kind.Symbol = starts_with nat_eq argument (codes "-") ≡ false
IsArgument argument kind.Stdin = argument ≡ codes "-"
IsArgument argument kind.End = argument ≡ codes "--"
IsArgument argument (kind.Valued option None) = IsAlone (short_name option) (long_name option) argument
IsArgument argument (kind.Valued option (Some value)) = HasValue (short_name option) (long_name option) argument value.now
IsArgument argument kind.Hash = argument ≡ codes "--hash"
IsArgument argument kind.Fold = IsAlone (codes "-f") (codes "--fold") argument
IsArgument argument (kind.Print about) = Requests about argument
IsArgument argument kind.Completions = argument ≡ codes "--completions"
IsArgument argument (kind.CompletionsOf name) = argument ≡ codes "--completions=" ++ name.now
IsArgument argument kind.Unknown = IsUnknown argument

-- the meaning of the next argument
abbrev pub expected_of : NextArgument → ExpectedArgument
expected_of next.Anything = anything
expected_of (next.Value option argument) = a_value option argument.now
expected_of next.Shell = a_shell
expected_of next.Symbol = a_symbol

-- The effect of one argument, whatever follows it. It changes the options and determines the meaning of the next
-- argument, or it is the result.
abbrev pub Accepts : ExpectedArgument → Options → List ℕ → Options → AfterArgument → Type 0
Accepts place old argument new (taken.NextArgument place_after) = (arguments : List (List ℕ)) (answer : ParsedAs)
    → ParsesTo (expected_of place_after) new arguments answer → ParsesTo place old (argument ∷ arguments) answer
Accepts place old argument new (taken.Print about) = (arguments : List (List ℕ)) → ParsesTo place old (argument ∷ arguments) (prints about)

abbrev pub Rejects : ExpectedArgument → Options → List ℕ → ParsedAs → Type 0
Rejects place old argument answer = (arguments : List (List ℕ)) → ParsesTo place old (argument ∷ arguments) answer
