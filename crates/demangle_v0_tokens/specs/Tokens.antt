-- Internal: no public contract cites this.
-- The tokens: how each is read, and the texts that it prints.
use Rattle.std.specs.Prelude.{Bool, IsSome, List, None, Option, Some, [], codes, decimal, false, if◌then◌else◌, length, nat_le, slice_range, true, ℕ, ◌*◌, ◌++◌, ◌+◌, ◌-◌, ◌<◌, ◌==◌, ◌^◌, ◌∷◌, ◌≤◌}
use Rattle.std.specs.Fmt.{digits}
use Prim.Native.Char.{code}
use lib.Utf8.{scalar}
use Rattle.demangle_symbol.specs.Digits.{is_byte}
use Rattle.demangle_symbol.specs.Primitives.{Name, Read, integer_at, is_upper, number_of, optional_at, some_or}
use Rattle.demangle_symbol.specs.Names.{is_empty, is_empty_name, name_pieces}
use Rattle.demangle_symbol.specs.Literals.{literal, string_of}
use Rattle.demangle_symbol.specs.Idents.{IsIdentWithin, ident_at, name_in, name_size}
use Rattle.demangle_symbol.specs.Nibbles.{HexPart, hex_at}
use Rattle.demangle_v0_grammar.specs.Items.{Text}
use Rattle.demangle_v0_grammar.specs.Table.{basic_types, extern, row_text}
use Rattle.demangle_v0_grammar.specs.Reading.{Form, Place, letter_of}
use Rattle.demangle_v0_tokens.specs.Texts.{text}
use Rattle.demangle_v0_grammar.specs.Binders.{binder_texts}
use Rattle.demangle_symbol.specs.declared.cursor.Part.{Part}
use Rattle.demangle_symbol.specs.declared.cursor.ident.Ident.{Ident}
use Rattle.demangle_v0_tokens.specs.declared.fixed_texts.FixedText.TheVariants as fixed
use Rattle.demangle_v0_tokens.specs.declared.token.TokenKind.{TokenKind}
use Rattle.demangle_v0_tokens.specs.declared.token.TokenKind.TheVariants as token_kind
use Rattle.demangle_v0_tokens.specs.declared.token.Abi.{Abi}
use Rattle.demangle_v0_tokens.specs.declared.token.Abi.TheVariants as abi
use Rattle.demangle_v0_tokens.specs.declared.token.Token.{Token}
use Rattle.demangle_v0_tokens.specs.declared.token.Token.TheVariants.{Binder, BindingName, Character, CrateName, DynLifetime, DynLifetimeError, FieldName, Fixed, FunctionQualifiers, Lifetime, LifetimeError, NameAfterError, NestedName, Nothing, Number, SpacedLifetime, SpacedLifetimeError, StrLiteral}
use Rattle.demangle_v0_tokens.specs.declared.read.TokenOutcome.{TokenOutcome}
use Rattle.demangle_v0_tokens.specs.declared.read.TokenOutcome.TheVariants.{NotParsed, Parsed}
use Rattle.demangle_v0_tokens.specs.declared.token.Abi.TheVariants.{Named}

-- The tokens: their texts, and the looks that are allowed for them.

abbrev pub bytes_in : List ℕ → Part → List ℕ
bytes_in b part = slice_range b part.from part.to

-- The texts of a token.

abbrev pub abi_texts : List ℕ → Abi → List Text
abi_texts b abi.Rust = []
abi_texts b abi.C = extern (codes "C")
abi_texts b (abi.Named part) = extern (bytes_in b part)

abbrev pub special_texts : ℕ → ℕ → Name → List Text
special_texts n d a =
    codes "::{" ∷ (if n == code "C" then codes "closure" else if n == code "S" then codes "shim" else n ∷ [])
    ∷ ((if is_empty_name a then [] else codes ":" ∷ name_pieces a) ++ codes "#" ∷ decimal d ∷ codes "}" ∷ [])

abbrev pub nested_texts : ℕ → ℕ → Name → List Text
nested_texts n d a =
    if is_upper n then special_texts n d a
    else if is_empty_name a then [] else codes "::" ∷ name_pieces a

abbrev pub number_texts : List ℕ → Option ℕ → List Text
number_texts h None = codes "0x" ∷ h ∷ []
number_texts h (Some n) = decimal n ∷ []

abbrev pub lifetime_texts : Option ℕ → List Text
lifetime_texts None = codes "_" ∷ []
lifetime_texts (Some n) = letter_of n

-- texts of the plain form only
abbrev pub if_plain : Bool → List Text → List Text
if_plain true ts = ts
if_plain false ts = []

abbrev pub texts_of : List ℕ → Form → Token → List Text
texts_of b form Nothing = []
texts_of b form (Fixed m) = text m ∷ []
texts_of b form (CrateName a d) = name_pieces (name_in b a) ++ (if d == 0 then [] else if_plain form.include_hash (codes "[" ∷ digits 16 false d ∷ codes "]" ∷ []))
texts_of b form (FieldName a) = name_pieces (name_in b a)
texts_of b form (NestedName n d a) = nested_texts n d (name_in b a)
texts_of b form NameAfterError = codes "::" ∷ codes "?" ∷ []
texts_of b form (Lifetime n) = codes "'" ∷ lifetime_texts n
texts_of b form LifetimeError = codes "'" ∷ codes "{invalid syntax}" ∷ []
texts_of b form (SpacedLifetime n) = codes "'" ∷ (letter_of n ++ codes " " ∷ [])
texts_of b form SpacedLifetimeError = codes "'" ∷ codes "{invalid syntax}" ∷ codes " " ∷ []
texts_of b form (DynLifetime n) = codes " + " ∷ codes "'" ∷ letter_of n
texts_of b form DynLifetimeError = codes " + " ∷ codes "'" ∷ codes "{invalid syntax}" ∷ []
texts_of b form (FunctionQualifiers unsafe a) = if unsafe then codes "unsafe " ∷ abi_texts b a else abi_texts b a
texts_of b form (Number n part tag) = number_texts (bytes_in b part) n ++ some_or [] (row_text tag basic_types) (λ t. if_plain form.include_hash (t ∷ []))
texts_of b form (Character c) = literal (code "'") (c ∷ [])
texts_of b form (StrLiteral part) = some_or [] (string_of (bytes_in b part)) (literal (code "\""))
texts_of b form (Binder n m) = binder_texts m n
texts_of b form (BindingName a) = name_pieces (name_in b a) ++ codes " = " ∷ []

-- how many looks are left to print a token
abbrev pub print_looks : Token → ℕ
print_looks (CrateName a d) = name_size a
print_looks (FieldName a) = name_size a
print_looks (NestedName n d a) = name_size a
print_looks (FunctionQualifiers unsafe (abi.Named part)) = part.to - part.from
print_looks (StrLiteral part) = part.to - part.from
print_looks (BindingName a) = name_size a
print_looks _ = 0

-- Reading tokens.

abbrev pub token_of : TokenOutcome → Token
token_of (Parsed x j) = x
token_of (NotParsed m) = Fixed m

-- the result of reading a token, and the looks that are allowed for it
pub record TokenSpec : Type 0 where
  pub reads : TokenOutcome
  pub costs : List ℕ

abbrev pub token_read : Token → Place → TokenSpec
token_read x j = record { reads = Parsed x j; costs = [] }

abbrev pub invalid_token : TokenSpec
invalid_token = record { reads = NotParsed fixed.Invalid; costs = [] }

abbrev pub with_cost : ℕ → TokenSpec → TokenSpec
with_cost k g = record { reads = g.reads; costs = k ∷ g.costs }

-- a primitive at i, and the result after it
abbrev pub after_primitive : {A : Type 0} → ℕ → ℕ → Read A → (A → ℕ → TokenSpec) → TokenSpec
after_primitive n i None f = with_cost (4 * (n - i + 1)) invalid_token
after_primitive n i (Some r) f = with_cost (4 * (r.1 - i + 1)) (f r.0 r.1)

abbrev pub byte_group : Bool → TokenSpec → TokenSpec → TokenSpec
byte_group c g h = with_cost 1 (if c then g else h)

-- a name after a disambiguator
abbrev pub named_group : List ℕ → ℕ → (Ident → ℕ → Token) → TokenSpec
named_group b i f = after_primitive (length b) i (optional_at 115 b i) (λ d j. after_primitive (length b) j (ident_at b j) (λ a k. token_read (f a d) (Some k)))

abbrev pub crate_group : List ℕ → ℕ → TokenSpec
crate_group b i = named_group b i CrateName

abbrev pub nested_group : List ℕ → ℕ → ℕ → TokenSpec
nested_group b c i = named_group b i (λ a d. NestedName c d a)

abbrev pub field_group : List ℕ → ℕ → TokenSpec
field_group b i = named_group b i (λ a d. FieldName a)

abbrev pub binding_group : List ℕ → ℕ → TokenSpec
binding_group b i = after_primitive (length b) i (ident_at b i) (λ a j. token_read (BindingName a) (Some j))

-- a lifetime is checked only if it is printed
abbrev pub checked_lifetime : Bool → ℕ → ℕ → ℕ → Token → Token → TokenSpec
checked_lifetime false lifetimes k j named fault = token_read Nothing (Some j)
checked_lifetime true lifetimes k j named fault = if nat_le k lifetimes then token_read named (Some j) else token_read fault None

abbrev pub lifetime_group : List ℕ → Bool → ℕ → ℕ → TokenSpec
lifetime_group b out lifetimes i = after_primitive (length b) i (integer_at b i) (λ k j.
    if k == 0 then token_read (Lifetime None) (Some j) else checked_lifetime out lifetimes k j (Lifetime (Some (lifetimes - k))) LifetimeError)

abbrev pub dyn_group : List ℕ → Bool → ℕ → ℕ → TokenSpec
dyn_group b out lifetimes i = byte_group (is_byte b i (code "L")) (after_primitive (length b) (i + 1) (integer_at b (i + 1)) (λ k j.
    if k == 0 then token_read Nothing (Some j) else checked_lifetime out lifetimes k j (DynLifetime (lifetimes - k)) DynLifetimeError))
    invalid_token

-- an identifier that names an ABI
abbrev pub abi_named : Bool → Ident → List ℕ → ℕ → TokenSpec
abi_named unsafe a b j =
    if is_empty (bytes_in b a.ascii) then invalid_token
    else if is_empty (bytes_in b a.punycode) then token_read (FunctionQualifiers unsafe (abi.Named a.ascii)) (Some j) else invalid_token

abbrev pub abi_group : List ℕ → Bool → ℕ → TokenSpec
abi_group b unsafe i = byte_group (is_byte b i (code "K"))
    (byte_group (is_byte b (i + 1) (code "C")) (token_read (FunctionQualifiers unsafe abi.C) (Some (i + 1 + 1)))
    (after_primitive (length b) (i + 1) (ident_at b (i + 1)) (λ a j. abi_named unsafe a b j)))
    (token_read (FunctionQualifiers unsafe abi.Rust) (Some i))

abbrev pub head_group : List ℕ → ℕ → TokenSpec
head_group b i = byte_group (is_byte b i (code "U")) (abi_group b true (i + 1)) (abi_group b false i)

abbrev pub number_group : List ℕ → ℕ → ℕ → TokenSpec
number_group b tag i = after_primitive (length b) i (hex_at b i) (λ h j. token_read (Number (number_of (bytes_in b h)) h tag) (Some j))

abbrev pub bool_token : Option ℕ → ℕ → TokenSpec
bool_token None j = invalid_token
bool_token (Some n) j = if n == 0 then token_read (Fixed fixed.False) (Some j) else if n == 1 then token_read (Fixed fixed.True) (Some j) else invalid_token

abbrev pub bool_group : List ℕ → ℕ → TokenSpec
bool_group b i = after_primitive (length b) i (hex_at b i) (λ h j. bool_token (number_of (bytes_in b h)) j)

abbrev pub character_token : Option ℕ → ℕ → TokenSpec
character_token None j = invalid_token
character_token (Some c) j = if scalar c then token_read (Character c) (Some j) else invalid_token

abbrev pub character_group : List ℕ → ℕ → TokenSpec
character_group b i = after_primitive (length b) i (hex_at b i) (λ h j. character_token (number_of (bytes_in b h)) j)

abbrev pub literal_token : Option (List ℕ) → Part → ℕ → TokenSpec
literal_token None h j = invalid_token
literal_token (Some cs) h j = token_read (StrLiteral h) (Some j)

abbrev pub literal_group : List ℕ → ℕ → TokenSpec
literal_group b i = after_primitive (length b) i (hex_at b i) (λ h j. literal_token (string_of (bytes_in b h)) h j)

abbrev pub token_at : List ℕ → TokenKind → ℕ → Bool → ℕ → ℕ → TokenSpec
token_at b token_kind.FieldName tag out lifetimes i = field_group b i
token_at b token_kind.BindingName tag out lifetimes i = binding_group b i
token_at b token_kind.LifetimeIndex tag out lifetimes i = lifetime_group b out lifetimes i
token_at b token_kind.DynLifetime tag out lifetimes i = dyn_group b out lifetimes i
token_at b token_kind.FunctionQualifiers tag out lifetimes i = head_group b i
token_at b token_kind.Number tag out lifetimes i = number_group b tag i
token_at b token_kind.Bool tag out lifetimes i = bool_group b i
token_at b token_kind.Character tag out lifetimes i = character_group b i
token_at b token_kind.StrLiteral tag out lifetimes i = literal_group b i

-- the result after an error
abbrev pub token_after_error : TokenKind → TokenOutcome
token_after_error token_kind.DynLifetime = NotParsed fixed.Invalid
token_after_error token_kind.FunctionQualifiers = Parsed (FunctionQualifiers false abi.Rust) None
token_after_error _ = NotParsed fixed.AfterError

abbrev pub token_spec : List ℕ → TokenKind → ℕ → Bool → ℕ → Place → TokenSpec
token_spec b w tag out lifetimes None = record { reads = token_after_error w; costs = [] }
token_spec b w tag out lifetimes (Some i) = token_at b w tag out lifetimes i

-- The texts of the parts of a token.

-- a disambiguator in brackets
abbrev pub disambiguator_texts : Form → ℕ → List Text
disambiguator_texts form d = if d == 0 then [] else if_plain form.include_hash (codes "[" ∷ digits 16 false d ∷ codes "]" ∷ [])

abbrev pub crate_texts : Form → Name → ℕ → List Text
crate_texts form a d = name_pieces a ++ disambiguator_texts form d

-- a name after a text, or nothing if the name is empty
abbrev pub prefixed_name : Text → Name → List Text
prefixed_name before a = if is_empty_name a then [] else before ∷ name_pieces a

-- the name of the special namespace n
abbrev pub kind_text : ℕ → Text
kind_text n = if n == code "C" then codes "closure" else if n == code "S" then codes "shim" else n ∷ []

-- how many looks are left to print an ABI
abbrev pub abi_looks : Abi → ℕ
abi_looks (Named part) = part.to - part.from
abi_looks _ = 0

abbrev pub head_texts : List ℕ → Bool → Abi → List Text
head_texts b unsafe a = if unsafe then codes "unsafe " ∷ abi_texts b a else abi_texts b a

-- the name of the basic type of a tag
abbrev pub type_texts : Form → ℕ → List Text
type_texts form tag = some_or [] (row_text tag basic_types) (λ t. if_plain form.include_hash (t ∷ []))

abbrev pub constant_texts : List ℕ → Form → Option ℕ → Part → ℕ → List Text
constant_texts b form n part tag = number_texts (bytes_in b part) n ++ type_texts form tag

-- Back references as they are read, and tokens whose parts are in a symbol.

-- Steps.

-- the part is in the symbol
abbrev pub PartIn : List ℕ → Part → Type 0
PartIn b part = (part.from ≤ part.to) × (part.to ≤ length b)

abbrev pub AbiIn : List ℕ → Abi → Type 0
AbiIn b (abi.Named part) = PartIn b part
AbiIn b _ = Unit {0}

-- The parts of the token are in the symbol, and those of a literal spell a text. The number of each lifetime of a
-- binder has 128 bits.
abbrev pub IsTokenWithin : List ℕ → Token → Type 0
IsTokenWithin b (CrateName a d) = IsIdentWithin b a
IsTokenWithin b (FieldName a) = IsIdentWithin b a
IsTokenWithin b (NestedName n d a) = IsIdentWithin b a
IsTokenWithin b (FunctionQualifiers unsafe a) = AbiIn b a
IsTokenWithin b (Number n part tag) = PartIn b part
IsTokenWithin b (StrLiteral part) = HexPart b part × IsSome (string_of (bytes_in b part))
IsTokenWithin b (Binder n m) = n + m < 2 ^ 128
IsTokenWithin b (BindingName a) = IsIdentWithin b a
IsTokenWithin b _ = Unit {0}
