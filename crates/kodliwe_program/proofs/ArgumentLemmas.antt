-- Lemmas on the arguments of the command line.
use Rattle.std.proofs.Common.{◌≡◌, ℕ, List, [], ◌∷◌, ◌++◌, codes, drop, length, map, reverse, ap, sym, ◌∙◌, subst, refl, ◌⊎◌, ◌≤◌, inl, inr, IfSome}
use Rattle.std.specs.Borrow.{Bor}
use Rattle.std.proofs.lemmas.Option.{IfSome_then}
use Rattle.std.proofs.lemmas.List.{drop_at, drop_all, map-append, reverse-append}
use Rattle.kodliwe_program.specs.declared.arguments.InputSource.{InputSource}
use Rattle.kodliwe_program.specs.declared.arguments.UsageError.{UsageError}
use Rattle.kodliwe_program.specs.declared.arguments.ValuedOption.{ValuedOption}
use Rattle.kodliwe_program.specs.declared.arguments.ValuedOption.TheVariants.{Input}
use Rattle.kodliwe_program.specs.declared.arguments.NextArgument.{NextArgument}
use Rattle.kodliwe_program.specs.declared.arguments.NextArgument.TheVariants as next
use Rattle.kodliwe_program.specs.CommandLine.{Options, ParsedAs, filter, InputPart, stdin, file, symbol, IsInputPart, input_part_of, IsAlone, HasValue, Sets, ParsesTo, anything, a_value, a_shell, a_symbol, no_shell, misses_shell, ends, ends_symbols, misses_value, missing_value_error, rejection_of}
use Rattle.kodliwe_program.specs.OneArgument.{expected_of}

pub not_alone : (short long argument : List ℕ) → (argument ≡ short → ⊥) → (argument ≡ long → ⊥) → IsAlone short long argument → ⊥
not_alone short long argument no_short no_long (inl e) = no_short e
not_alone short long argument no_short no_long (inr e) = no_long e

pub no_value : (short long argument : List ℕ) → ((value : List ℕ) → argument ≡ long ++ 61 ∷ value → ⊥) → ((rest : List ℕ) → argument ≡ short ++ rest → ⊥)
    → (value : List ℕ) → HasValue short long argument value → ⊥
no_value short long argument no_long no_short value (inl e) = no_long value e
no_value short long argument no_long no_short value (inr e) = no_short value e.0

-- an argument that has more text after the long name, and no `=`
pub no_long_value : (long argument rest : List ℕ) (n : ℕ) → n ≡ length long → rest ≡ drop n argument → ((more : List ℕ) → rest ≡ codes "=" ++ more → ⊥)
    → (value : List ℕ) → argument ≡ long ++ 61 ∷ value → ⊥
no_long_value long argument rest n len is none value e = none value (is ∙ ap (drop n) e ∙ drop_at long (61 ∷ value) n (sym len))

-- the source that is pushed becomes the first part
pub parts_pushed : (items new : List InputSource) (source : InputSource) → new ≡ items ++ source ∷ [] → reverse (map input_part_of new) ≡ input_part_of source ∷ reverse (map input_part_of items)
parts_pushed items new source e = ap (λ l. reverse (map input_part_of l)) e ∙ ap reverse (map-append input_part_of items (source ∷ [])) ∙ reverse-append (map input_part_of items) (input_part_of source ∷ [])

-- if each result in `P` is one in `Q`, an error that is in `P` is in `Q`
pub refusal_then : (fault : UsageError) {P Q : ParsedAs → Type 0} → ((answer : ParsedAs) → P answer → Q answer) → IfSome (rejection_of fault) P → IfSome (rejection_of fault) Q
refusal_then fault f h = IfSome_then (rejection_of fault) h f

-- `-` as a file is standard input
pub sets_stdin : (old new : Options) → Sets Input (codes "-") old new → new ≡ record old { parts = stdin ∷ old.parts }
sets_stdin old new sets = at sets.0 sets.1 sets.2
  where
    at : (part : InputPart) → IsInputPart (codes "-") part → new ≡ record old { parts = part ∷ old.parts } → new ≡ record old { parts = stdin ∷ old.parts }
    at stdin is e = e
    at (file name) is e = absurd (is.0 refl)
    at (symbol text) is e = absurd is

-- no argument is left, and no option needs its value
pub ends_there : (there : NextArgument) (o : Options) (arguments : List (List ℕ)) → arguments ≡ [] → (there ≡ next.Anything) ⊎ (there ≡ next.Symbol) → ParsesTo (expected_of there) o arguments (filter o)
ends_there there o arguments none (inl e) = subst (λ n. ParsesTo (expected_of n) o arguments (filter o)) (sym e) (subst (λ ws. ParsesTo anything o ws (filter o)) (sym none) ends)
ends_there there o arguments none (inr e) = subst (λ n. ParsesTo (expected_of n) o arguments (filter o)) (sym e) (subst (λ ws. ParsesTo a_symbol o ws (filter o)) (sym none) ends_symbols)

-- no argument is left, and an option needs its value
pub lacks_there : (there : NextArgument) (o : Options) (arguments : List (List ℕ)) (option : ValuedOption) (argument : Bor (List ℕ)) → arguments ≡ [] → there ≡ next.Value option argument
    → ParsesTo (expected_of there) o arguments (missing_value_error option argument.now)
lacks_there there o arguments option argument none e =
    subst (λ n. ParsesTo (expected_of n) o arguments (missing_value_error option argument.now)) (sym e) (subst (λ ws. ParsesTo (a_value option argument.now) o ws (missing_value_error option argument.now)) (sym none) misses_value)

-- no argument is left, and `--completions` needs its value
pub lacks_shell : (there : NextArgument) (o : Options) (arguments : List (List ℕ)) → arguments ≡ [] → there ≡ next.Shell → ParsesTo (expected_of there) o arguments no_shell
lacks_shell there o arguments none e = subst (λ n. ParsesTo (expected_of n) o arguments no_shell) (sym e) (subst (λ ws. ParsesTo a_shell o ws no_shell) (sym none) misses_shell)

-- the arguments after the last one
pub arguments_left : {X : Type 0} (f : X → List ℕ) (xs : List X) (n : ℕ) → length xs ≤ n → map f (drop n xs) ≡ []
arguments_left f xs n all = ap (map f) (drop_all n xs all)
