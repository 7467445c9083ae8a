-- Internal: no public contract cites this.
-- The specification of each continuation: the items that remain of its production, and its place in the measures.
use Rattle.std.specs.Prelude.{Bool, List, None, Option, Some, [], false, if◌then◌else◌, nat_le, true, ℕ, ◌+◌, ◌-◌, ◌==◌, ◌∷◌}
use Prim.Native.Char.{code}
use Rattle.demangle_symbol.specs.Digits.{is_byte}
use Rattle.demangle_symbol.specs.Primitives.{some_or}
use Rattle.demangle_v0_grammar.specs.Items.{Items, a_constant, a_path, a_pattern, a_type, bindings, byte, child, done, dyn_trait, identifier, if_ok, integer, invalid, leave_open, lifetime, next, skip, unit, until_end}
use Rattle.demangle_v0_grammar.specs.Table.{argument, arguments, at_end, binding_value, constant_inside, field, function, in_binder, in_namespace, integer_constant, list, more, parameters, print_if, print_name, print_str, returns, string, tuple, type_inside, type_tagged, variant}
use Rattle.demangle_v0_grammar.specs.Reading.{Place}
use Rattle.demangle_v0_tokens.specs.Tags.{lifetime_before}
use Rattle.demangle_v0_tokens.specs.declared.token.Token.{Token}
use Rattle.demangle_v0_tokens.specs.declared.token.Token.TheVariants.{SpacedLifetime, SpacedLifetimeError}
use Rattle.demangle_v0_parser.specs.declared.Continuation.{Continuation}
use Rattle.demangle_v0_parser.specs.declared.Continuation.TheVariants as continuation

-- The remaining grammar.

-- the bindings of a dyn trait, then the remaining dyn traits; `o` says whether the `<` is open
abbrev pub bindings_left : Bool → Items
bindings_left o = unit (bindings o binding_value) (more " + " (dyn_trait binding_value) done)

-- the most primitives that one step reads: integers, identifiers, hexadecimal strings and single bytes
abbrev pub max_primitives : ℕ
max_primitives = 8

-- The specification of a continuation.
pub record ContinuationSpec : Type 0 where
  -- the items still to be parsed; `None` for the start of a production, `End`, `Bindings` and `AfterBackref`
  pub items : Option Items
  -- the most primitives that its step reads
  pub words : ℕ
  -- its weight in the termination measure
  pub weight : ℕ
  -- the most frames that it adds at its own depth
  pub above : ℕ

abbrev pub spec_of_production : ℕ → ℕ → ℕ → ContinuationSpec
spec_of_production words weight above = record { items = None; words = words; weight = weight; above = above }

abbrev pub spec_of_rest : ℕ → ℕ → ℕ → Items → ContinuationSpec
spec_of_rest words weight above items = record { items = Some items; words = words; weight = weight; above = above }

-- The entry of each continuation. `v` is the value position and `n` the letter of the state.
--
-- A step that makes no look must lower the measure. So a continuation weighs more than the next one and the frame that
-- its step pushes, taken together.
abbrev pub spec_of : Continuation → Bool → ℕ → ContinuationSpec
spec_of continuation.End v n = spec_of_production max_primitives 1 0
spec_of continuation.Path v n = spec_of_production max_primitives 1 1
spec_of continuation.«Type» v n = spec_of_production max_primitives 1 1
spec_of continuation.TraitPath v n = spec_of_production max_primitives 1 2
spec_of continuation.Bindings v n = spec_of_production max_primitives 2 4
spec_of continuation.Pattern v n = spec_of_production max_primitives 1 2
spec_of continuation.Constant v n = spec_of_production max_primitives 1 1
spec_of continuation.AfterBackref v n = spec_of_production max_primitives 1 1
spec_of continuation.TargetPath v n = spec_of_production max_primitives 2 1
spec_of continuation.TargetType v n = spec_of_production max_primitives 2 1
spec_of continuation.TargetConstant v n = spec_of_production max_primitives 2 1
-- paths
spec_of continuation.NestedName v n = spec_of_rest max_primitives 1 2 (if_ok (in_namespace n) (print_str "::" (in_namespace n)))
spec_of continuation.InherentImplPath v n = spec_of_rest max_primitives 7 2 (skip (print_str "<" (child a_type false (print_str ">" done))))
spec_of continuation.TraitImplPath v n = spec_of_rest max_primitives 10 2 (skip (print_str "<" (child a_type false (print_str " as " (child a_path false (print_str ">" done))))))
spec_of continuation.InherentSelfType v n = spec_of_rest 0 4 2 (print_str "<" (child a_type false (print_str ">" done)))
spec_of continuation.TraitSelfType v n = spec_of_rest 0 7 2 (print_str "<" (child a_type false (print_str " as " (child a_path false (print_str ">" done)))))
spec_of continuation.AsTrait v n = spec_of_rest max_primitives 4 2 (print_str " as " (child a_path false (print_str ">" done)))
spec_of continuation.CloseAngle v n = spec_of_rest max_primitives 1 2 (print_str ">" done)
spec_of continuation.Generic v n = spec_of_rest max_primitives 5 2 (print_if v "::" (print_str "<" (arguments (print_str ">" done))))
spec_of continuation.OpenArguments v n = spec_of_rest max_primitives 4 2 (print_str "<" (arguments (print_str ">" done)))
spec_of continuation.FirstArgument v n = spec_of_rest max_primitives 3 2 (arguments (print_str ">" done))
spec_of continuation.FoldedArguments v n = spec_of_rest max_primitives 2 2 (print_str "_" (print_str ">" done))
spec_of continuation.NextArgument v n = spec_of_rest max_primitives 1 2 (more ", " argument (print_str ">" done))
spec_of continuation.Lifetime v n = spec_of_rest max_primitives 1 1 (integer (λ k. lifetime k done))
-- types
spec_of continuation.TaggedType v n = spec_of_rest 7 1 1 type_tagged
spec_of continuation.ArrayLength v n = spec_of_rest max_primitives 4 2 (print_str "; " (child a_constant true (print_str "]" done)))
spec_of continuation.CloseBracket v n = spec_of_rest max_primitives 1 2 (print_str "]" done)
spec_of continuation.FirstTupleType v n = spec_of_rest max_primitives 1 2 (tuple type_inside (print_str ")" done))
spec_of continuation.SecondTupleType v n = spec_of_rest max_primitives 2 2 (at_end (print_str "," (print_str ")" done)) (more ", " type_inside (print_str ")" done)))
spec_of continuation.NextTupleType v n = spec_of_rest max_primitives 1 2 (more ", " type_inside (print_str ")" done))
spec_of continuation.CloseParen v n = spec_of_rest max_primitives 1 2 (print_str ")" done)
spec_of continuation.ReferenceLifetime v n = spec_of_rest max_primitives 2 2 (lifetime_before type_inside)
spec_of continuation.MutReferenceLifetime v n = spec_of_rest max_primitives 3 2 (lifetime_before (print_str "mut " type_inside))
spec_of continuation.Mut v n = spec_of_rest max_primitives 2 2 (print_str "mut " type_inside)
spec_of continuation.Const v n = spec_of_rest max_primitives 2 2 (print_str "const " type_inside)
spec_of continuation.PatternIs v n = spec_of_rest max_primitives 2 2 (print_str " is " (child a_pattern false done))
spec_of continuation.FunctionQualifiers v n = spec_of_rest 4 5 2 (next (code "U") (function true) (function false))
spec_of continuation.OpenParameters v n = spec_of_rest 0 4 2 parameters
spec_of continuation.FirstParameter v n = spec_of_rest max_primitives 3 2 (list ", " type_inside (print_str ")" returns))
spec_of continuation.NextParameter v n = spec_of_rest max_primitives 3 2 (more ", " type_inside (print_str ")" returns))
spec_of continuation.Returns v n = spec_of_rest max_primitives 2 2 returns
-- dyn traits
spec_of continuation.DynBinder v n = spec_of_rest max_primitives 1 4 (in_binder (list " + " (dyn_trait binding_value) done))
spec_of continuation.FirstDynTrait v n = spec_of_rest 1 1 4 (list " + " (dyn_trait binding_value) done)
spec_of continuation.NextDynTrait v n = spec_of_rest 1 1 4 (more " + " (dyn_trait binding_value) done)
spec_of continuation.OpenTraitArguments v n = spec_of_rest max_primitives 3 2 (print_str "<" (arguments (leave_open done)))
spec_of continuation.FirstTraitArgument v n = spec_of_rest max_primitives 2 2 (arguments (leave_open done))
spec_of continuation.FoldedTraitArguments v n = spec_of_rest max_primitives 1 2 (print_str "_" (leave_open done))
spec_of continuation.NextTraitArgument v n = spec_of_rest max_primitives 1 2 (more ", " argument (leave_open done))
spec_of continuation.FurtherBindings v n = spec_of_rest max_primitives 2 4 (bindings_left true)
spec_of continuation.BindingName v n = spec_of_rest max_primitives 6 4 (identifier (λ a. print_name a (print_str " = " (unit binding_value (bindings_left true)))))
spec_of continuation.BindingValue v n = spec_of_rest max_primitives 5 4 (unit binding_value (bindings_left true))
spec_of continuation.DynLifetime v n = spec_of_rest max_primitives 1 2 (next (code "L") (integer (λ k. if k == 0 then done else print_str " + " (lifetime k done))) invalid)
-- patterns
spec_of continuation.RangeEnd v n = spec_of_rest max_primitives 2 2 (print_str "..=" (child a_constant false done))
spec_of continuation.NextPattern v n = spec_of_rest max_primitives 1 3 (until_end (print_str " | " (child a_pattern false done)) (if_ok done invalid))
-- constants
spec_of continuation.Number v n = spec_of_rest 4 1 2 (integer_constant n)
spec_of continuation.StrConstant v n = spec_of_rest max_primitives 2 2 (print_str "*" (unit string done))
spec_of continuation.StrLiteral v n = spec_of_rest 4 1 2 string
spec_of continuation.ReferenceConstant v n = spec_of_rest max_primitives 2 2 (print_str "&" (child a_constant true done))
spec_of continuation.MutReferenceConstant v n = spec_of_rest max_primitives 3 2 (print_str "&" (print_str "mut " (child a_constant true done)))
spec_of continuation.MutableConstant v n = spec_of_rest max_primitives 2 2 (print_str "mut " (child a_constant true done))
spec_of continuation.ArrayConstant v n = spec_of_rest max_primitives 2 2 (print_str "[" (list ", " constant_inside (print_str "]" done)))
spec_of continuation.FirstArrayConstant v n = spec_of_rest max_primitives 1 2 (list ", " constant_inside (print_str "]" done))
spec_of continuation.NextArrayConstant v n = spec_of_rest max_primitives 1 2 (more ", " constant_inside (print_str "]" done))
spec_of continuation.TupleConstant v n = spec_of_rest max_primitives 2 2 (print_str "(" (tuple constant_inside (print_str ")" done)))
spec_of continuation.FirstTupleConstant v n = spec_of_rest max_primitives 1 2 (tuple constant_inside (print_str ")" done))
spec_of continuation.SecondTupleConstant v n = spec_of_rest max_primitives 2 2 (at_end (print_str "," (print_str ")" done)) (more ", " constant_inside (print_str ")" done)))
spec_of continuation.NextTupleConstant v n = spec_of_rest max_primitives 1 2 (more ", " constant_inside (print_str ")" done))
spec_of continuation.Variant v n = spec_of_rest max_primitives 1 3 (byte (variant (if v then done else print_str "}" done)))
spec_of continuation.FirstVariantConstant v n = spec_of_rest max_primitives 1 2 (list ", " constant_inside (print_str ")" done))
spec_of continuation.NextVariantConstant v n = spec_of_rest max_primitives 1 2 (more ", " constant_inside (print_str ")" done))
spec_of continuation.FirstField v n = spec_of_rest max_primitives 1 2 (list ", " field (print_str " }" done))
spec_of continuation.NextField v n = spec_of_rest max_primitives 1 2 (more ", " field (print_str " }" done))
spec_of continuation.Field v n = spec_of_rest max_primitives 3 1 field
spec_of continuation.FieldColon v n = spec_of_rest max_primitives 2 1 (print_str ": " constant_inside)
spec_of continuation.CloseBrace v n = spec_of_rest max_primitives 1 2 (print_str "}" done)

abbrev pub items_at : Continuation → Bool → ℕ → Items
items_at p v n = some_or done (spec_of p v n).items (λ items. items)

-- A list ends at its `E`, which is read. It also ends if parsing has failed.

abbrev pub is_list_end : List ℕ → Place → Bool
is_list_end b None = true
is_list_end b (Some i) = is_byte b i (code "E")

abbrev pub after_list : List ℕ → Place → Place
after_list b None = None
after_list b (Some i) = if is_byte b i (code "E") then Some (i + 1) else Some i

abbrev pub list_costs : Place → List ℕ
list_costs None = []
list_costs (Some i) = 1 ∷ []

-- the continuations of a reference, mutable or not: its lifetime, and the rest after that
abbrev pub lifetime_continuation : Bool → Continuation
lifetime_continuation is_mut = if is_mut then continuation.MutReferenceLifetime else continuation.ReferenceLifetime

abbrev pub after_reference_lifetime : Bool → Continuation
after_reference_lifetime is_mut = if is_mut then continuation.Mut else continuation.«Type»

-- the token of a lifetime whose index is above 0, and the place after it
abbrev pub spaced_lifetime : ℕ → ℕ → ℕ → Token × Place
spaced_lifetime lifetimes k j = if nat_le k lifetimes then (SpacedLifetime (lifetimes - k), Some j) else (SpacedLifetimeError, None)
