-- Internal: no public contract cites this.
-- The fixed texts, the search for a tag in a list of rows, and the items of the table that each kind of token reads.
use Rattle.std.specs.Prelude.{ℕ, true, false, if◌then◌else◌, ◌==◌, Option, Some, None, List, [], ◌∷◌, codes}
use Prim.Native.Char.{code}
use Prim.Native.String.{String}
use Rattle.demangle_symbol.specs.Primitives.{some_or}
use Rattle.demangle_symbol.specs.Primitives.{number_of}
use Rattle.demangle_symbol.specs.Literals.{literal, string_of}
use Rattle.demangle_v0_grammar.specs.Items.{Text, Items, invalid, print_plain, integer, identifier, nibbles, next, lifetime}
use Rattle.demangle_v0_grammar.specs.Table.{is_among, print_str, print_all, print_name, print_bool, print_char, disambiguator, function_qualifiers, row_text, basic_types, number_pieces}
use Rattle.demangle_v0_tokens.specs.declared.fixed_texts.FixedText.{FixedText}
use Rattle.demangle_v0_tokens.specs.declared.fixed_texts.FixedText.TheVariants as fixed
use Rattle.demangle_v0_tokens.specs.declared.token.TokenKind.{TokenKind}
use Rattle.demangle_v0_tokens.specs.declared.token.TokenKind.TheVariants as token_kind

abbrev pub text : FixedText → Text
text fixed.Invalid = codes "{invalid syntax}"
text fixed.Recursion = codes "{recursion limit reached}"
text fixed.AfterError = codes "?"
text fixed.Bool = codes "bool"
text fixed.Char = codes "char"
text fixed.Str = codes "str"
text fixed.Unit = codes "()"
text fixed.I8 = codes "i8"
text fixed.I16 = codes "i16"
text fixed.I32 = codes "i32"
text fixed.I64 = codes "i64"
text fixed.I128 = codes "i128"
text fixed.Isize = codes "isize"
text fixed.U8 = codes "u8"
text fixed.U16 = codes "u16"
text fixed.U32 = codes "u32"
text fixed.U64 = codes "u64"
text fixed.U128 = codes "u128"
text fixed.Usize = codes "usize"
text fixed.F32 = codes "f32"
text fixed.F64 = codes "f64"
text fixed.Never = codes "!"
text fixed.Placeholder = codes "_"
text fixed.Ellipsis = codes "..."
text fixed.Splat = codes "#[splat] "
text fixed.Less = codes "<"
text fixed.Greater = codes ">"
text fixed.Comma = codes ", "
text fixed.TrailingComma = codes ","
text fixed.PathSeparator = codes "::"
text fixed.AsTrait = codes " as "
text fixed.Ampersand = codes "&"
text fixed.Mut = codes "mut "
text fixed.Star = codes "*"
text fixed.Const = codes "const "
text fixed.OpenBracket = codes "["
text fixed.CloseBracket = codes "]"
text fixed.Semicolon = codes "; "
text fixed.OpenParen = codes "("
text fixed.CloseParen = codes ")"
text fixed.Dyn = codes "dyn "
text fixed.Plus = codes " + "
text fixed.Is = codes " is "
text fixed.Or = codes " | "
text fixed.Range = codes "..="
text fixed.NotNull = codes "!null"
text fixed.Function = codes "fn("
text fixed.Arrow = codes " -> "
text fixed.OpenBrace = codes "{"
text fixed.CloseBrace = codes "}"
text fixed.OpenStruct = codes " { "
text fixed.CloseStruct = codes " }"
text fixed.Colon = codes ": "
text fixed.Minus = codes "-"
text fixed.False = codes "false"
text fixed.True = codes "true"

abbrev pub found : {A : Type 0} → ℕ → List (String × A) → Option A
found b [] = None
found b (r ∷ rs) = if is_among b (codes r.0) then Some r.1 else found b rs

abbrev pub basic_type_texts : List (String × FixedText)
basic_type_texts = ("b", fixed.Bool) ∷ ("c", fixed.Char) ∷ ("e", fixed.Str) ∷ ("u", fixed.Unit) ∷ ("a", fixed.I8) ∷ ("s", fixed.I16) ∷ ("l", fixed.I32) ∷ ("x", fixed.I64) ∷ ("n", fixed.I128) ∷ ("i", fixed.Isize) ∷ ("h", fixed.U8) ∷ ("t", fixed.U16) ∷ ("m", fixed.U32) ∷ ("y", fixed.U64) ∷ ("o", fixed.U128) ∷ ("j", fixed.Usize) ∷ ("f", fixed.F32) ∷ ("d", fixed.F64) ∷ ("z", fixed.Never) ∷ ("p", fixed.Placeholder) ∷ ("v", fixed.Ellipsis) ∷ []

-- a token of this kind, and the items after it; a number has a tag
abbrev pub token_items : TokenKind → ℕ → Items → Items
token_items token_kind.FieldName tag p = disambiguator (λ _. identifier (λ a. print_name a p))
token_items token_kind.BindingName tag p = identifier (λ a. print_name a (print_str " = " p))
token_items token_kind.LifetimeIndex tag p = integer (λ k. lifetime k p)
token_items token_kind.DynLifetime tag p = next (code "L") (integer (λ k. if k == 0 then p else print_str " + " (lifetime k p))) invalid
token_items token_kind.FunctionQualifiers tag p = next (code "U") (function_qualifiers true p) (function_qualifiers false p)
token_items token_kind.Number tag p = nibbles (λ h. number_pieces h (some_or p (row_text tag basic_types) (λ text. print_plain text p)))
token_items token_kind.Bool tag p = nibbles (λ h. print_bool p (number_of h))
token_items token_kind.Character tag p = nibbles (λ h. print_char p (number_of h))
token_items token_kind.StrLiteral tag p = nibbles (λ h. some_or invalid (string_of h) (λ cs. print_all (literal (code "\"") cs) p))
