-- Internal: no public contract cites this.
-- The items, frames and continuations that the contracts of single productions name.
use Rattle.std.specs.Prelude.{Bool, List, None, Option, Some, [], false, if◌then◌else◌, true, ℕ, ◌*◌, ◌+◌, ◌∷◌, ◌≡◌, ◌≤◌}
use Prim.Native.Char.{code}
use Rattle.demangle_v0_grammar.specs.Items.{Items, Kind, a_path, a_type, child, done, dyn_trait, skip, target, unit}
use Rattle.demangle_v0_grammar.specs.Table.{binding_value, constant, constant_inside, disambiguator, field, in_binder, list, path, print_str}
use Rattle.demangle_v0_parser.specs.declared.Continuation.{Continuation}
use Rattle.demangle_v0_parser.specs.declared.Continuation.TheVariants as continuation
use Rattle.demangle_v0_parser.specs.declared.out_of_line.OutOfLine.{OutOfLine}
use Rattle.demangle_v0_parser.specs.declared.out_of_line.OutOfLine.TheVariants as out_of_line
use Rattle.demangle_v0_parser.specs.declared.frames.Frame.{Frame}
use Rattle.demangle_v0_parser.specs.declared.State.{State}
use Rattle.demangle_v0_grammar.specs.Traces.{Trace, context_at, of}
use Rattle.demangle_v0_grammar.specs.Reading.{Form, level_of, levels, parse}
use Rattle.demangle_symbol.specs.Digits.{is_byte}
use Rattle.demangle_v0_tokens.specs.declared.fixed_texts.FixedText.{FixedText}
use Rattle.demangle_v0_tokens.specs.declared.fixed_texts.FixedText.TheVariants as fixed
use Rattle.demangle_v0_parser.specs.declared.constant_lists.ConstantList.{ConstantList}
use Rattle.demangle_v0_parser.specs.declared.constant_lists.ConstantList.TheVariants as list
use Rattle.demangle_v0_parser.specs.declared.fixed_texts.TextStep.{TextStep}
use Rattle.demangle_symbol.specs.declared.cursor.ParseError.{ParseError}
use Rattle.demangle_symbol.specs.declared.cursor.ParseError.TheVariants as error
use Rattle.demangle_v0_parser.specs.Continuations.{items_at}
use Rattle.demangle_v0_parser.specs.Traces.{frame_of, trace_at, with_closed_bracket}
use Rattle.demangle_v0_parser.specs.Measure.{Fits, height_at, weight_at}
use Rattle.demangle_v0_parser.specs.Steps.{Env, StepPart, env, part}

-- The items, frames and continuations that the contracts of continuations name.

-- the items after the `C` of a crate's path
abbrev pub crate_path : Bool → Items
crate_path v = path v (code "C")

-- the items after the `R` of a string or a reference, and after the `V` of a variant
abbrev pub shared_constant : Bool → Items
shared_constant v = constant v (code "R")

abbrev pub variant_constant : Bool → Items
variant_constant v = constant v (code "V")

-- the frame for the brace that closes a constant outside value position
abbrev pub brace_after : State → Option Frame
brace_after s = if s.in_value then None else Some (frame_of continuation.CloseBrace s.in_value s.letter s.depth_left s.lifetimes)

-- the continuations that run out of line
abbrev pub out_of_line_continuation : OutOfLine → Continuation
out_of_line_continuation out_of_line.Lifetime = continuation.Lifetime
out_of_line_continuation out_of_line.FunctionQualifiers = continuation.FunctionQualifiers
out_of_line_continuation out_of_line.DynBinder = continuation.DynBinder
out_of_line_continuation out_of_line.BindingName = continuation.BindingName
out_of_line_continuation out_of_line.DynLifetime = continuation.DynLifetime
out_of_line_continuation out_of_line.Constant = continuation.Constant
out_of_line_continuation out_of_line.Number = continuation.Number
out_of_line_continuation out_of_line.StrLiteral = continuation.StrLiteral
out_of_line_continuation out_of_line.Variant = continuation.Variant
out_of_line_continuation out_of_line.Field = continuation.Field

-- Paths of impls.

-- the items after `M`, or after `X` if the impl is of a trait
abbrev pub impl_items : Bool → Items
impl_items false = disambiguator (λ _. skip (print_str "<" (child a_type false (print_str ">" done))))
impl_items true = disambiguator (λ _. skip (print_str "<" (child a_type false (print_str " as " (child a_path false (print_str ">" done))))))

-- the continuation at the impl path
abbrev pub impl_path_continuation : Bool → Continuation
impl_path_continuation false = continuation.InherentImplPath
impl_path_continuation true = continuation.TraitImplPath

-- the continuation after it
abbrev pub self_type_continuation : Bool → Continuation
self_type_continuation false = continuation.InherentSelfType
self_type_continuation true = continuation.TraitSelfType

-- The productions to which back references lead.

-- a dyn trait path may leave its bracket open, other productions do not
abbrev pub none_open_if : Bool → Trace → Trace
none_open_if true h = with_closed_bracket h
none_open_if false h = h

-- a continuation with which a production of this kind starts
pub record IsProduction (b : List ℕ) (form : Form) (p : Continuation) (in_value : Bool) (letter lifetimes : ℕ) (closed : Bool) (k : Kind) (value : Bool) : Type 0 where
  pub same : (left t : ℕ) → trace_at b form true p in_value letter left lifetimes (Some t) false ≡ none_open_if closed (of form true (level_of b form.fold_arguments (levels b form.fold_arguments left) true k value lifetimes t))
  pub light : weight_at p ≤ 2
  pub low : (left : ℕ) → height_at p left ≤ 8 * left + 2
  pub fits : (left : ℕ) → Fits continuation.Path left lifetimes → Fits p left lifetimes

-- a back reference to a production of this kind, as a part
abbrev pub target_part : {V : Type 0} → Env V → Bool → Kind → Bool → State → StepPart
target_part env closed k value s = part 1 (none_open_if closed (of env.form env.output.is_printed (parse (target k value) (context_at env.symbol env.form env.output.is_printed s.depth_left s.lifetimes) s.place))) 1 (8 * s.depth_left + 2)

-- The generic arguments of paths.

-- the text before an element of a list: none before the first
abbrev pub separator : Bool → FixedText → Option FixedText
separator is_first m = if is_first then None else Some m

abbrev pub arguments_continuation : Bool → Continuation
arguments_continuation is_first = if is_first then continuation.FirstArgument else continuation.NextArgument

-- For an argument at i: its continuation, the place at which it begins, and the looks that determine both.

abbrev pub argument_continuation : List ℕ → ℕ → Continuation
argument_continuation b i = if is_byte b i (code "L") then continuation.Lifetime else if is_byte b i (code "K") then continuation.Constant else continuation.«Type»

abbrev pub argument_place : List ℕ → ℕ → ℕ
argument_place b i = if is_byte b i (code "L") then i + 1 else if is_byte b i (code "K") then i + 1 else i

abbrev pub argument_costs : List ℕ → ℕ → List ℕ
argument_costs b i = if is_byte b i (code "L") then 1 ∷ [] else 1 ∷ 1 ∷ []

-- The continuations of lists of constants.

-- the continuation at the first element or the end
abbrev pub at_first : ConstantList → Continuation
at_first list.Array = continuation.FirstArrayConstant
at_first list.Tuple = continuation.FirstTupleConstant
at_first list.TupleVariant = continuation.FirstVariantConstant
at_first list.Fields = continuation.FirstField

-- the continuation after the first element
abbrev pub after_first : ConstantList → Continuation
after_first list.Array = continuation.NextArrayConstant
after_first list.Tuple = continuation.SecondTupleConstant
after_first list.TupleVariant = continuation.NextVariantConstant
after_first list.Fields = continuation.NextField

-- the continuation after a further element
abbrev pub after_next : ConstantList → Continuation
after_next list.Array = continuation.NextArrayConstant
after_next list.Tuple = continuation.NextTupleConstant
after_next list.TupleVariant = continuation.NextVariantConstant
after_next list.Fields = continuation.NextField

abbrev pub element_continuation : ConstantList → Continuation
element_continuation list.Fields = continuation.Field
element_continuation _ = continuation.Constant

abbrev pub list_element : ConstantList → Items
list_element list.Fields = field
list_element _ = constant_inside

abbrev pub close_of : ConstantList → FixedText
close_of list.Array = fixed.CloseBracket
close_of list.Tuple = fixed.CloseParen
close_of list.TupleVariant = fixed.CloseParen
close_of list.Fields = fixed.CloseStruct

-- Dyn types, after their tag.

abbrev pub dyn_type : Items
dyn_type = print_str "dyn " (unit (in_binder (list " + " (dyn_trait binding_value) done)) (items_at continuation.DynLifetime false 0))

-- The continuations that only queue a fixed text.

abbrev text_step : FixedText → Continuation → Bool → Option TextStep
text_step m p v = Some (record { pending_text = m; next = p; in_value = v })

abbrev pub text_step_at : Continuation → Option TextStep
text_step_at continuation.CloseParen = text_step fixed.CloseParen continuation.End false
text_step_at continuation.CloseAngle = text_step fixed.Greater continuation.End false
text_step_at continuation.Mut = text_step fixed.Mut continuation.«Type» false
text_step_at continuation.StrConstant = text_step fixed.Star continuation.StrLiteral false
text_step_at continuation.ReferenceConstant = text_step fixed.Ampersand continuation.Constant true
text_step_at continuation.OpenArguments = text_step fixed.Less continuation.FirstArgument false
text_step_at continuation.FoldedArguments = text_step fixed.Placeholder continuation.CloseAngle false
text_step_at continuation.Const = text_step fixed.Const continuation.«Type» false
text_step_at continuation.PatternIs = text_step fixed.Is continuation.Pattern false
text_step_at continuation.OpenParameters = text_step fixed.Function continuation.FirstParameter false
text_step_at continuation.OpenTraitArguments = text_step fixed.Less continuation.FirstTraitArgument false
text_step_at continuation.CloseBracket = text_step fixed.CloseBracket continuation.End false
text_step_at continuation.RangeEnd = text_step fixed.Range continuation.Constant false
text_step_at continuation.MutReferenceConstant = text_step fixed.Ampersand continuation.MutableConstant false
text_step_at continuation.MutableConstant = text_step fixed.Mut continuation.Constant true
text_step_at continuation.ArrayConstant = text_step fixed.OpenBracket continuation.FirstArrayConstant false
text_step_at continuation.TupleConstant = text_step fixed.OpenParen continuation.FirstTupleConstant false
text_step_at continuation.FieldColon = text_step fixed.Colon continuation.Constant true
text_step_at continuation.CloseBrace = text_step fixed.CloseBrace continuation.End false
text_step_at _ = None

-- The error texts of primitives.

-- the text with which a production ends after an error
abbrev pub error_text_of : ParseError → FixedText
error_text_of error.Invalid = fixed.Invalid
error_text_of error.RecursedTooDeep = fixed.Recursion
