-- Internal: no public contract cites this.
-- The items after each tag.
use Rattle.std.specs.Prelude.{ℕ, Bool, true, false, if◌then◌else◌, ◌==◌, List, [], ◌∷◌}
use Prim.Native.Char.{code}
use Prim.Native.String.{String}
use Rattle.demangle_v0_grammar.specs.Items.{Items, done, invalid, integer, next, lifetime}
use Rattle.demangle_v0_grammar.specs.Table.{row_of, path, print_str, print_if, type_inside, type_rows, constant, integer_constant, variant, pattern_of}
use Rattle.demangle_v0_tokens.specs.declared.tags.PathKind.{PathKind}
use Rattle.demangle_v0_tokens.specs.declared.tags.PathKind.TheVariants as kind
use Rattle.demangle_v0_tokens.specs.declared.tags.TypeKind.{TypeKind}
use Rattle.demangle_v0_tokens.specs.declared.tags.TypeKind.TheVariants as type_kind
use Rattle.demangle_v0_tokens.specs.declared.tags.ConstructedType.{ConstructedType}
use Rattle.demangle_v0_tokens.specs.declared.tags.ConstructedType.TheVariants as constructed
use Rattle.demangle_v0_tokens.specs.declared.tags.ConstantKind.{ConstantKind}
use Rattle.demangle_v0_tokens.specs.declared.tags.ConstantKind.TheVariants as constant_kind
use Rattle.demangle_v0_tokens.specs.declared.tags.VariantKind.{VariantKind}
use Rattle.demangle_v0_tokens.specs.declared.tags.VariantKind.TheVariants as variant_kind
use Rattle.demangle_v0_tokens.specs.declared.tags.PatternKind.{PatternKind}
use Rattle.demangle_v0_tokens.specs.declared.tags.PatternKind.TheVariants as pattern_kind

abbrev pub path_kinds : List (String × PathKind)
path_kinds = ("C", kind.CrateRoot) ∷ ("N", kind.NestedName) ∷ ("M", kind.InherentImpl) ∷ ("X", kind.TraitImpl) ∷ ("Y", kind.TraitDefinition) ∷ ("I", kind.Generic) ∷ ("B", kind.Backref) ∷ []

-- the items after the tag of a path
abbrev pub path_of : Bool → PathKind → Items
path_of v kind.CrateRoot = path v (code "C")
path_of v kind.NestedName = path v (code "N")
path_of v kind.InherentImpl = path v (code "M")
path_of v kind.TraitImpl = path v (code "X")
path_of v kind.TraitDefinition = path v (code "Y")
path_of v kind.Generic = path v (code "I")
path_of v kind.Backref = path v (code "B")

abbrev pub constructed_types : List (String × TypeKind)
constructed_types =
    ("P", type_kind.Constructed constructed.ConstPointer) ∷ ("O", type_kind.Constructed constructed.MutPointer) ∷ ("A", type_kind.Constructed constructed.Array)
    ∷ ("S", type_kind.Constructed constructed.Slice) ∷ ("T", type_kind.Constructed constructed.Tuple) ∷ ("F", type_kind.Constructed constructed.Function)
    ∷ ("D", type_kind.Constructed constructed.Dyn) ∷ ("B", type_kind.Constructed constructed.Backref) ∷ ("W", type_kind.Constructed constructed.Pattern) ∷ []

abbrev pub type_kinds : ℕ → List (String × TypeKind)
type_kinds tag = ("RQ", (if tag == code "Q" then type_kind.MutReference else type_kind.SharedReference)) ∷ constructed_types

-- the lifetime of a reference, whose `L` was read, and the items after it
abbrev pub lifetime_before : Items → Items
lifetime_before rest = integer (λ k. if k == 0 then rest else lifetime k (print_str " " rest))

-- a reference, mutable or not
abbrev pub reference_to : Bool → Items
reference_to is_mut = let rest = print_if is_mut "mut " type_inside in print_str "&" (next (code "L") (lifetime_before rest) rest)

-- the items in the row of a type's tag
abbrev pub type_row : ℕ → Items
type_row tag = row_of tag invalid (type_rows tag)

-- the items after the tag of a constructed type
abbrev pub constructed_of : ConstructedType → Items
constructed_of constructed.ConstPointer = type_row (code "P")
constructed_of constructed.MutPointer = type_row (code "O")
constructed_of constructed.Array = type_row (code "A")
constructed_of constructed.Slice = type_row (code "S")
constructed_of constructed.Tuple = type_row (code "T")
constructed_of constructed.Function = type_row (code "F")
constructed_of constructed.Dyn = type_row (code "D")
constructed_of constructed.Backref = type_row (code "B")
constructed_of constructed.Pattern = type_row (code "W")

abbrev pub type_of : TypeKind → Items
type_of type_kind.SharedReference = reference_to false
type_of type_kind.MutReference = reference_to true
type_of (type_kind.Constructed k) = constructed_of k

abbrev pub constant_kinds : List (String × ConstantKind)
constant_kinds =
    ("p", constant_kind.Placeholder) ∷ ("htmyoj", constant_kind.Unsigned) ∷ ("aslxni", constant_kind.Signed) ∷ ("b", constant_kind.Bool) ∷ ("c", constant_kind.Char) ∷ ("e", constant_kind.Text)
    ∷ ("R", constant_kind.Shared) ∷ ("Q", constant_kind.Mut) ∷ ("A", constant_kind.Array) ∷ ("T", constant_kind.Tuple) ∷ ("V", constant_kind.Variant) ∷ ("B", constant_kind.Backref) ∷ []

-- the items after the tag of a constant
abbrev pub constant_of : Bool → ℕ → ConstantKind → Items
constant_of v tag constant_kind.Placeholder = constant v (code "p")
constant_of v tag constant_kind.Unsigned = integer_constant tag
constant_of v tag constant_kind.Signed = next (code "n") (print_str "-" (integer_constant tag)) (integer_constant tag)
constant_of v tag constant_kind.Bool = constant v (code "b")
constant_of v tag constant_kind.Char = constant v (code "c")
constant_of v tag constant_kind.Text = constant v (code "e")
constant_of v tag constant_kind.Shared = constant v (code "R")
constant_of v tag constant_kind.Mut = constant v (code "Q")
constant_of v tag constant_kind.Array = constant v (code "A")
constant_of v tag constant_kind.Tuple = constant v (code "T")
constant_of v tag constant_kind.Variant = constant v (code "V")
constant_of v tag constant_kind.Backref = constant v (code "B")

abbrev pub variant_kinds : List (String × VariantKind)
variant_kinds = ("U", variant_kind.Unit) ∷ ("T", variant_kind.Tuple) ∷ ("S", variant_kind.Fields) ∷ []

-- `}` after a variant outside value position
abbrev pub closes : Bool → Items
closes v = if v then done else print_str "}" done

abbrev pub variant_of : Bool → VariantKind → Items
variant_of v variant_kind.Unit = variant (closes v) (code "U")
variant_of v variant_kind.Tuple = variant (closes v) (code "T")
variant_of v variant_kind.Fields = variant (closes v) (code "S")

abbrev pub pattern_kinds : List (String × PatternKind)
pattern_kinds = ("R", pattern_kind.Range) ∷ ("O", pattern_kind.Or) ∷ ("N", pattern_kind.NotNull) ∷ []

abbrev pub pattern_kind_of : PatternKind → Items
pattern_kind_of pattern_kind.Range = pattern_of (code "R")
pattern_kind_of pattern_kind.Or = pattern_of (code "O")
pattern_kind_of pattern_kind.NotNull = pattern_of (code "N")
