-- The meaning of the command-line arguments.
use Rattle.std.specs.Prelude.{◌≡◌, ◌≢◌, ◌<◌, ◌^◌, ℕ, Bool, true, false, nat_eq, List, [], ◌∷◌, ◌++◌, map, reverse, codes, Some, None, ◌⊎◌}
use Rattle.std.specs.declared.option.Option.{Option}
use Rattle.std.specs.Option.{option_map}
use Rattle.std.specs.List.{starts_with}
use Rattle.std.specs.Str.Parse.{IsNumeral, digits_value, without_leading_plus}
use Rattle.demangle_value.specs.declared.format.SizeLimit.{SizeLimit}
use Rattle.demangle_value.specs.declared.format.SizeLimit.TheVariants as size
use Rattle.kodliwe_program.specs.declared.about.About.{About}
use Rattle.kodliwe_program.specs.declared.about.About.TheVariants.{Help, Version, Manual, Completions}
use Rattle.kodliwe_program.specs.declared.about.Shell.{Shell}
use Rattle.kodliwe_program.specs.declared.about.Shell.TheVariants.{Bash, Zsh, Fish}
use Rattle.kodliwe_program.specs.declared.arguments.InputSource.{InputSource}
use Rattle.kodliwe_program.specs.declared.arguments.InputSource.TheVariants.{Stdin, File, Symbol}
use Rattle.kodliwe_program.specs.declared.arguments.Target.{Target}
use Rattle.kodliwe_program.specs.declared.arguments.Target.TheVariants as targets
use Rattle.kodliwe_program.specs.declared.arguments.Request.{Request}
use Rattle.kodliwe_program.specs.declared.arguments.Command.{Command}
use Rattle.kodliwe_program.specs.declared.arguments.Command.TheVariants.{Print, Filter}
use Rattle.kodliwe_program.specs.declared.arguments.UsageError.{UsageError}
use Rattle.kodliwe_program.specs.declared.arguments.UsageError.TheVariants.{Unknown, NoFile, NoNumber, BadNumber, SecondOutput, NoShell, BadShell, Memory}
use Rattle.kodliwe_program.specs.declared.arguments.ValuedOption.{ValuedOption}
use Rattle.kodliwe_program.specs.declared.arguments.ValuedOption.TheVariants.{Input, Output, Limit}

-- a part of the output: standard input or a file, filtered, or a SYMBOL argument
pub data InputPart : Type 0 where
  stdin : InputPart
  file : List ℕ → InputPart
  symbol : List ℕ → InputPart

-- a place to write to: standard output, or a file
pub data OutputTarget : Type 0 where
  stdout : OutputTarget
  a_file : List ℕ → OutputTarget

-- The options that were read so far. `parts` is in reverse order: the last part comes first.
pub record Options : Type 0 where
  pub parts : List InputPart
  pub output : Option OutputTarget
  pub keeps_hash : Bool
  pub folds : Bool
  pub limit : Option ℕ

-- the limit of each path: that of `-l`, or, without it, one that is linear in the length of the symbol
abbrev pub size_limit : Option ℕ → SizeLimit
size_limit None = size.Linear
size_limit (Some bytes) = size.Bytes bytes

-- the options before any argument is read
abbrev pub defaults : Options
defaults = record { parts = []; output = None; keeps_hash = false; folds = false; limit = None }

-- The result of parsing the arguments: a request, or the error and the argument that caused it.
pub data ParsedAs : Type 0 where
  prints : About → ParsedAs
  filter : Options → ParsedAs
  unknown no_file no_number second_output : List ℕ → ParsedAs
  -- the option's argument, and the value
  bad_number : List ℕ → List ℕ → ParsedAs
  no_shell : ParsedAs
  bad_shell : List ℕ → ParsedAs

-- The meaning of the next argument: anything, the value of the option in this argument, the value of `--completions`,
-- or a symbol.
pub data ExpectedArgument : Type 0 where
  anything : ExpectedArgument
  a_value : ValuedOption → List ℕ → ExpectedArgument
  a_shell : ExpectedArgument
  a_symbol : ExpectedArgument

-- `-` as an input file is standard input
abbrev pub IsInputPart : List ℕ → InputPart → Type 0
IsInputPart path stdin = path ≡ codes "-"
IsInputPart path (file name) = (path ≢ codes "-") × (name ≡ path)
IsInputPart path (symbol text) = ⊥

-- `-` as an output file is standard output
abbrev pub IsOutputTarget : List ℕ → OutputTarget → Type 0
IsOutputTarget path stdout = path ≡ codes "-"
IsOutputTarget path (a_file name) = (path ≢ codes "-") × (name ≡ path)

abbrev pub short_name : ValuedOption → List ℕ
short_name Input = codes "-i"
short_name Output = codes "-o"
short_name Limit = codes "-l"

abbrev pub long_name : ValuedOption → List ℕ
long_name Input = codes "--input"
long_name Output = codes "--output"
long_name Limit = codes "--limit"

-- The argument is an option without its value, such as `-i` or `--input`. `HasValue`: it includes the value, as
-- `-iFILE` or `--input=FILE`.
abbrev pub IsAlone : List ℕ → List ℕ → List ℕ → Type 0
IsAlone short long argument = (argument ≡ short) ⊎ (argument ≡ long)

abbrev pub HasValue : List ℕ → List ℕ → List ℕ → List ℕ → Type 0
HasValue short long argument value = (argument ≡ long ++ 61 ∷ value) ⊎ ((argument ≡ short ++ value) × (value ≢ []))

abbrev pub IsNotOption : List ℕ → List ℕ → List ℕ → Type 0
IsNotOption short long argument = (IsAlone short long argument → ⊥) × ((value : List ℕ) → HasValue short long argument value → ⊥)

abbrev pub shell_name : Shell → List ℕ
shell_name Bash = codes "bash"
shell_name Zsh = codes "zsh"
shell_name Fish = codes "fish"

-- the value of `--completions` is an error
abbrev pub IsInvalidShell : List ℕ → ParsedAs → Type 0
IsInvalidShell name answer = ((shell : Shell) → name ≢ shell_name shell) × (answer ≡ bad_shell name)

-- The option that prints a text. `--completions` may also have its value in the next argument.
abbrev pub Requests : About → List ℕ → Type 0
Requests Help argument = IsAlone (codes "-h") (codes "--help") argument
Requests Version argument = IsAlone (codes "-V") (codes "--version") argument
Requests Manual argument = argument ≡ codes "--man"
Requests (Completions shell) argument = argument ≡ codes "--completions=" ++ shell_name shell

-- decimal digits of a number that fits a `usize`, with or without a `+` before them
abbrev pub IsNumber : List ℕ → Type 0
IsNumber text = IsNumeral 10 (without_leading_plus text) × (digits_value 10 (without_leading_plus text) < 2 ^ 64)

-- the options after an option's value is read
abbrev pub Sets : ValuedOption → List ℕ → Options → Options → Type 0
Sets Input value old new = (part : InputPart) × IsInputPart value part × (new ≡ record old { parts = part ∷ old.parts })
Sets Output value old new = (old.output ≡ None) × (target : OutputTarget) × IsOutputTarget value target × (new ≡ record old { output = Some target })
Sets Limit value old new = IsNumber value × (new ≡ record old { limit = Some (digits_value 10 (without_leading_plus value)) })

-- the value is an error: a second output, or not a number of bytes
abbrev pub IsInvalidValue : Options → ValuedOption → List ℕ → List ℕ → ParsedAs → Type 0
IsInvalidValue old Input argument value answer = ⊥
IsInvalidValue old Output argument value answer = (old.output ≢ None) × (answer ≡ second_output argument)
IsInvalidValue old Limit argument value answer = (IsNumber value → ⊥) × (answer ≡ bad_number argument value)

-- the error for an option without a value at the end of the arguments
abbrev pub missing_value_error : ValuedOption → List ℕ → ParsedAs
missing_value_error Input argument = no_file argument
missing_value_error Output argument = no_file argument
missing_value_error Limit argument = no_number argument

-- an argument that starts with `-` and has no meaning
pub record IsUnknown (argument : List ℕ) : Type 0 where
  pub begins : starts_with nat_eq argument (codes "-") ≡ true
  pub no_stdin : argument ≢ codes "-"
  pub no_end : argument ≢ codes "--"
  pub no_hash : argument ≢ codes "--hash"
  pub no_fold : IsAlone (codes "-f") (codes "--fold") argument → ⊥
  pub no_help : Requests Help argument → ⊥
  pub no_version : Requests Version argument → ⊥
  pub no_manual : Requests Manual argument → ⊥
  pub no_shell_after : argument ≢ codes "--completions"
  pub no_shell_within : (name : List ℕ) → argument ≢ codes "--completions=" ++ name
  pub no_input : IsNotOption (codes "-i") (codes "--input") argument
  pub no_output : IsNotOption (codes "-o") (codes "--output") argument
  pub no_limit : IsNotOption (codes "-l") (codes "--limit") argument

-- The result of parsing the remaining arguments. The first one has the meaning of the `ExpectedArgument`, and the
-- options were read before.
pub data ParsesTo : ExpectedArgument → Options → List (List ℕ) → ParsedAs → Type 0 where
  ends : {o : Options} → ParsesTo anything o [] (filter o)
  takes_symbol : {o : Options} {w : List ℕ} {ws : List (List ℕ)} {a : ParsedAs} → starts_with nat_eq w (codes "-") ≡ false
      → ParsesTo anything (record o { parts = symbol w ∷ o.parts }) ws a → ParsesTo anything o (w ∷ ws) a
  takes_stdin : {o : Options} {w : List ℕ} {ws : List (List ℕ)} {a : ParsedAs} → w ≡ codes "-"
      → ParsesTo anything (record o { parts = stdin ∷ o.parts }) ws a → ParsesTo anything o (w ∷ ws) a
  takes_hash : {o : Options} {w : List ℕ} {ws : List (List ℕ)} {a : ParsedAs} → w ≡ codes "--hash"
      → ParsesTo anything (record o { keeps_hash = true }) ws a → ParsesTo anything o (w ∷ ws) a
  takes_fold : {o : Options} {w : List ℕ} {ws : List (List ℕ)} {a : ParsedAs} → IsAlone (codes "-f") (codes "--fold") w
      → ParsesTo anything (record o { folds = true }) ws a → ParsesTo anything o (w ∷ ws) a
  takes_text : {o : Options} {w : List ℕ} {ws : List (List ℕ)} (about : About) → Requests about w → ParsesTo anything o (w ∷ ws) (prints about)
  has_bad_shell : {o : Options} {w : List ℕ} {ws : List (List ℕ)} {a : ParsedAs} (name : List ℕ) → w ≡ codes "--completions=" ++ name → IsInvalidShell name a
      → ParsesTo anything o (w ∷ ws) a
  -- `--completions` without a value: the next argument is the value
  awaits_shell : {o : Options} {w : List ℕ} {ws : List (List ℕ)} {a : ParsedAs} → w ≡ codes "--completions" → ParsesTo a_shell o ws a → ParsesTo anything o (w ∷ ws) a
  is_shell : {o : Options} {w : List ℕ} {ws : List (List ℕ)} (shell : Shell) → w ≡ shell_name shell → ParsesTo a_shell o (w ∷ ws) (prints (Completions shell))
  is_bad_shell : {o : Options} {w : List ℕ} {ws : List (List ℕ)} {a : ParsedAs} → IsInvalidShell w a → ParsesTo a_shell o (w ∷ ws) a
  misses_shell : {o : Options} → ParsesTo a_shell o [] no_shell
  is_unknown : {o : Options} {w : List ℕ} {ws : List (List ℕ)} → IsUnknown w → ParsesTo anything o (w ∷ ws) (unknown w)
  -- after `--` each argument is a symbol
  takes_end : {o : Options} {w : List ℕ} {ws : List (List ℕ)} {a : ParsedAs} → w ≡ codes "--" → ParsesTo a_symbol o ws a → ParsesTo anything o (w ∷ ws) a
  is_symbol : {o : Options} {w : List ℕ} {ws : List (List ℕ)} {a : ParsedAs}
      → ParsesTo a_symbol (record o { parts = symbol w ∷ o.parts }) ws a → ParsesTo a_symbol o (w ∷ ws) a
  ends_symbols : {o : Options} → ParsesTo a_symbol o [] (filter o)
  -- an option that includes its value
  has_value : {o p : Options} {w : List ℕ} {ws : List (List ℕ)} {a : ParsedAs} (v : ValuedOption) (value : List ℕ)
      → HasValue (short_name v) (long_name v) w value → Sets v value o p → ParsesTo anything p ws a → ParsesTo anything o (w ∷ ws) a
  has_refused : {o : Options} {w : List ℕ} {ws : List (List ℕ)} {a : ParsedAs} (v : ValuedOption) (value : List ℕ)
      → HasValue (short_name v) (long_name v) w value → IsInvalidValue o v w value a → ParsesTo anything o (w ∷ ws) a
  -- an option without a value: the next argument is the value
  is_alone : {o : Options} {w : List ℕ} {ws : List (List ℕ)} {a : ParsedAs} (v : ValuedOption)
      → IsAlone (short_name v) (long_name v) w → ParsesTo (a_value v w) o ws a → ParsesTo anything o (w ∷ ws) a
  is_value : {o p : Options} {v : ValuedOption} {w value : List ℕ} {ws : List (List ℕ)} {a : ParsedAs}
      → Sets v value o p → ParsesTo anything p ws a → ParsesTo (a_value v w) o (value ∷ ws) a
  is_refused : {o : Options} {v : ValuedOption} {w value : List ℕ} {ws : List (List ℕ)} {a : ParsedAs}
      → IsInvalidValue o v w value a → ParsesTo (a_value v w) o (value ∷ ws) a
  misses_value : {o : Options} {v : ValuedOption} {w : List ℕ} → ParsesTo (a_value v w) o [] (missing_value_error v w)

-- the parts and the options of a request
abbrev pub input_part_of : InputSource → InputPart
input_part_of Stdin = stdin
input_part_of (File path) = file path.now
input_part_of (Symbol text) = symbol text.now

abbrev pub output_target_of : Target → OutputTarget
output_target_of targets.Stdout = stdout
output_target_of (targets.File path) = a_file path.now

abbrev pub options_of : Request → Options
options_of request = record {
  parts = reverse (map input_part_of request.sources.items);
  output = option_map output_target_of request.output;
  keeps_hash = request.include_hash;
  folds = request.fold_arguments;
  limit = request.limit;
}

-- The result that a value of the code represents. A failed allocation has none.
abbrev pub parsed_as : Command → ParsedAs
parsed_as (Print about) = prints about
parsed_as (Filter request) = filter (options_of request)

abbrev pub rejection_of : UsageError → Option ParsedAs
rejection_of (Unknown argument) = Some (unknown argument.now)
rejection_of (NoFile argument) = Some (no_file argument.now)
rejection_of (NoNumber argument) = Some (no_number argument.now)
rejection_of (BadNumber argument value) = Some (bad_number argument.now value.now)
rejection_of (SecondOutput argument) = Some (second_output argument.now)
rejection_of NoShell = Some no_shell
rejection_of (BadShell name) = Some (bad_shell name.now)
rejection_of Memory = None
