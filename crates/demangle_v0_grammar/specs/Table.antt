-- The productions of v0 symbols, and the texts that each prints.
--
-- A row is one of Rust RFC 2603, unless it names another source. That is the rustc book, in its chapter on the v0
-- symbol format, or the crate: rustc-demangle 0.1.28, which alone has the row.
use Rattle.std.specs.Prelude.{ℕ, Bool, true, false, ◌||◌, if◌then◌else◌, ◌==◌, List, [], ◌∷◌, ◌++◌, Option, Some, None, codes, decimal}
use Rattle.std.specs.Fmt.{digits}
use lib.Utf8.{scalar}
use Prim.Native.Char.{code}
use Prim.Native.String.{String}
use Rattle.demangle_symbol.specs.Primitives.{is_upper, some_or, Name, number_of}
use Rattle.demangle_symbol.specs.Names.{name_pieces, is_empty, is_empty_name}
use Rattle.demangle_symbol.specs.Literals.{literal, string_of}
use Rattle.demangle_v0_grammar.specs.Items.{Text, Kind, a_path, a_type, a_constant, a_pattern, a_trait_path, Items, done, invalid, print, print_plain, byte, namespace, integer, optional, identifier, nibbles, peek, next, if_ok, until_end, raise, unit, child, skip, folded, target, lifetime, binder, leave_open, dyn_trait}

abbrev pub is_among : ℕ → List ℕ → Bool
is_among b [] = false
is_among b (c ∷ cs) = b == c || is_among b cs

-- the items in the row of the tag b; without such a row, `other`
abbrev pub row_of : ℕ → Items → List (String × Items) → Items
row_of b other [] = other
row_of b other (r ∷ rs) = if is_among b (codes r.0) then r.1 else row_of b other rs

abbrev pub print_str : String → Items → Items
print_str text p = print (codes text) p

abbrev pub print_if : Bool → String → Items → Items
print_if test text p = if test then print_str text p else p

abbrev pub print_all : List Text → Items → Items
print_all [] p = p
print_all (t ∷ ts) p = print t (print_all ts p)

-- p at an `E`, which is consumed, or after an error; otherwise q
abbrev pub at_end : Items → Items → Items
at_end p q = next (code "E") p (if_ok q p)

-- further elements up to `E`, each after the text, and then p
abbrev pub more : String → Items → Items → Items
more text element p = until_end (print_str text element) p

-- elements up to `E` with the text between them, and then p
abbrev pub list : String → Items → Items → Items
list text element p = at_end p (unit element (more text element p))

-- the same with `, ` between them, and with `,` after a single one
abbrev pub tuple : Items → Items → Items
tuple element p = at_end p (unit element (at_end (print_str "," p) (more ", " element p)))

abbrev pub type_inside : Items
type_inside = child a_type false done

abbrev pub constant_inside : Items
constant_inside = child a_constant true done

abbrev pub disambiguator : (ℕ → Items) → Items
disambiguator = optional (code "s")

abbrev pub print_name : Name → Items → Items
print_name a = print_all (name_pieces a)

abbrev pub argument : Items
argument =
    next (code "L") (integer (λ k. lifetime k done))
    (next (code "K") (child a_constant false done) type_inside)

-- the generic arguments of a path up to `E`, and then p
abbrev pub arguments : Items → Items
arguments p = folded (list ", " argument done) p

-- Paths.

abbrev pub in_special : ℕ → ℕ → Name → Items
in_special n d a =
    let ending = print_str "#" (print (decimal d) (print_str "}" done)) in
    print_str "::{" (print (if n == code "C" then codes "closure" else if n == code "S" then codes "shim" else n ∷ [])
    (if is_empty_name a then ending else print_str ":" (print_name a ending)))

abbrev pub in_namespace : ℕ → Items
in_namespace n = disambiguator (λ d. identifier (λ a.
    if is_upper n then in_special n d a
    else if is_empty_name a then done else print_str "::" (print_name a done)))

abbrev pub path_rows : Bool → List (String × Items)
path_rows value = (
  "C",
  disambiguator (λ d. identifier (λ a. print_name a
      (if d == 0 then done else print_plain (codes "[") (print_plain (digits 16 false d) (print_plain (codes "]") done))))),
)
    ∷ (
      "N",
      namespace (λ n. child a_path value (if_ok (in_namespace n) (print_str "::" (in_namespace n)))),
    )
    ∷ ("M", disambiguator (λ _. skip (print_str "<" (child a_type false (print_str ">" done)))))
    ∷ ("X", disambiguator (λ _. skip (print_str "<" (child a_type false (print_str " as " (child a_path false (print_str ">" done)))))))
    ∷ ("Y", print_str "<" (child a_type false (print_str " as " (child a_path false (print_str ">" done)))))
    ∷ ("I", child a_path value (print_if value "::" (print_str "<" (arguments (print_str ">" done)))))
    ∷ ("B", target a_path value)
    ∷ []

abbrev pub path : Bool → ℕ → Items
path value tag = row_of tag invalid (path_rows value)

-- Types.

abbrev pub basic_types : List (String × String)
basic_types =
    ("b", "bool") ∷ ("c", "char") ∷ ("e", "str") ∷ ("u", "()") ∷ ("a", "i8") ∷ ("s", "i16") ∷ ("l", "i32") ∷ ("x", "i64")
    ∷ ("n", "i128") ∷ ("i", "isize") ∷ ("h", "u8") ∷ ("t", "u16") ∷ ("m", "u32") ∷ ("y", "u64") ∷ ("o", "u128")
    ∷ ("j", "usize") ∷ ("f", "f32") ∷ ("d", "f64") ∷ ("z", "!") ∷ ("p", "_") ∷ ("v", "...") ∷ []

abbrev pub row_text : ℕ → List (String × String) → Option Text
row_text tag [] = None
row_text tag (r ∷ rs) = if is_among tag (codes r.0) then Some (codes r.1) else row_text tag rs

abbrev pub in_binder : Items → Items
in_binder p = optional (code "G") (λ m. binder m p)

-- the parts between `_`, with `-` between them; `part` is the read prefix of the first
abbrev pub hyphenated_abi : List ℕ → List ℕ → List Text
hyphenated_abi part [] = part ∷ []
hyphenated_abi part (b ∷ bs) = if b == code "_" then part ∷ codes "-" ∷ hyphenated_abi [] bs else hyphenated_abi (part ++ b ∷ []) bs

abbrev pub extern : List ℕ → List Text
extern abi = codes "extern \"" ∷ hyphenated_abi [] abi ++ codes "\" " ∷ []

-- the text of a function type before its parameters
abbrev pub print_qualifiers : Bool → List Text → Items → Items
print_qualifiers unsafe abi p = print_if unsafe "unsafe " (print_all abi p)

-- the ABI of a function type, after the `U` of an unsafe one, and then p
abbrev pub function_qualifiers : Bool → Items → Items
function_qualifiers unsafe p =
    next (code "K") (next (code "C") (print_qualifiers unsafe (extern (codes "C")) p)
    (identifier (λ a. if is_empty a.ascii then invalid else if is_empty a.punycode then print_qualifiers unsafe (extern a.ascii) p else invalid)))
    (print_qualifiers unsafe [] p)

-- the return type of a function type
abbrev pub returns : Items
returns = next (code "u") done (print_str " -> " type_inside)

-- the parameters of a function type, and its return type
abbrev pub parameters : Items
parameters = print_str "fn(" (list ", " type_inside (print_str ")" returns))

abbrev pub function : Bool → Items
function unsafe = function_qualifiers unsafe parameters

-- the value of a binding: a constant (of the rustc book) or a type
abbrev pub binding_value : Items
binding_value = next (code "K") (child a_constant false done) type_inside

-- the rows, each of which first reads its tag
abbrev pub after_tag : List (String × Items) → List (String × Items)
after_tag [] = []
after_tag (r ∷ rs) = (r.0, byte (λ _. r.1)) ∷ after_tag rs

-- `W`, a pattern type, is of the rustc book.
abbrev pub type_rows : ℕ → List (String × Items)
type_rows tag = (
  "RQ",
  let rest = print_if (tag == code "Q") "mut " type_inside in
      print_str "&" (next (code "L") (integer (λ k. if k == 0 then rest else lifetime k (print_str " " rest))) rest),
)
    ∷ ("P", print_str "*" (print_str "const " type_inside))
    ∷ ("O", print_str "*" (print_str "mut " type_inside))
    ∷ ("A", print_str "[" (child a_type false (print_str "; " (child a_constant true (print_str "]" done)))))
    ∷ ("S", print_str "[" (child a_type false (print_str "]" done)))
    ∷ ("T", print_str "(" (tuple type_inside (print_str ")" done)))
    ∷ ("F", in_binder (next (code "U") (function true) (function false)))
    ∷ (
      "D",
      print_str "dyn " (unit (in_binder (list " + " (dyn_trait binding_value) done))
          (next (code "L") (integer (λ k. if k == 0 then done else print_str " + " (lifetime k done))) invalid)),
    )
    ∷ ("B", target a_type false)
    ∷ ("W", child a_type false (print_str " is " (child a_pattern false done)))
    ∷ []

-- any other tag is that of a path
abbrev pub type_after_tag : ℕ → Items
type_after_tag tag = row_of tag (child a_path false done) (after_tag (type_rows tag))

abbrev pub type_tagged : Items
type_tagged = peek (λ tag. some_or (raise (type_after_tag tag)) (row_text tag basic_types) (λ text. byte (λ _. print text done)))

abbrev pub trait_path : Items
trait_path =
    next (code "B") (target a_trait_path false)
    (next (code "I") (child a_path false (print_str "<" (arguments (leave_open done))))
    (child a_path false done))

-- `R` and `O` are of the rustc book, and `N` is of the crate.
abbrev pub pattern_rows : List (String × Items)
pattern_rows =
    ("R", child a_constant false (print_str "..=" (child a_constant false done)))
    ∷ ("O", raise (child a_pattern false (until_end (print_str " | " (child a_pattern false done)) (if_ok done invalid))))
    ∷ ("N", print_str "!null" done)
    ∷ []

abbrev pub pattern_of : ℕ → Items
pattern_of tag = row_of tag invalid pattern_rows

-- Constants.

-- `{` before and `}` after the items, outside value position
abbrev pub braces : Bool → (Items → Items) → Items
braces value inside = if value then inside done else print_str "{" (inside (print_str "}" done))

abbrev pub number_pieces : List ℕ → Items → Items
number_pieces h p = some_or (print_str "0x" (print h p)) (number_of h) (λ n. print (decimal n) p)

abbrev pub integer_constant : ℕ → Items
integer_constant tag = nibbles (λ h. number_pieces h (some_or done (row_text tag basic_types) (λ text. print_plain text done)))

-- a character, and then p
abbrev pub print_char : Items → Option ℕ → Items
print_char p None = invalid
print_char p (Some c) = if scalar c then print_all (literal (code "'") (c ∷ [])) p else invalid

-- a bool, and then p
abbrev pub print_bool : Items → Option ℕ → Items
print_bool p None = invalid
print_bool p (Some n) = if n == 0 then print_str "false" p else if n == 1 then print_str "true" p else invalid

abbrev pub string : Items
string = nibbles (λ h. some_or invalid (string_of h) (λ cs. print_all (literal (code "\"") cs) done))

abbrev pub field : Items
field = disambiguator (λ _. identifier (λ a. print_name a (print_str ": " constant_inside)))

-- These are of the crate.
abbrev pub variant_rows : Items → List (String × Items)
variant_rows p =
    ("U", p)
    ∷ ("T", print_str "(" (list ", " constant_inside (print_str ")" p)))
    ∷ ("S", print_str " { " (list ", " field (print_str " }" p)))
    ∷ []

abbrev pub variant : Items → ℕ → Items
variant p tag = row_of tag invalid (variant_rows p)

-- The RFC has the placeholder `p`, a type with its value, and `B`. The values of `b` and `c` are of the rustc book.
-- Of the crate are the strings `e` and `Re`, the references `R` and `Q`, the arrays `A`, the tuples `T`, and `V`.
abbrev pub constant_rows : Bool → ℕ → List (String × Items)
constant_rows value tag =
    ("p", print_str "_" done)
    ∷ ("htmyoj", integer_constant tag)
    ∷ ("aslxni", next (code "n") (print_str "-" (integer_constant tag)) (integer_constant tag))
    ∷ ("b", nibbles (λ h. print_bool done (number_of h)))
    ∷ ("c", nibbles (λ h. print_char done (number_of h)))
    ∷ ("e", braces value (λ p. print_str "*" (unit string p)))
    ∷ ("R", next (code "e") string (braces value (λ p. print_str "&" (child a_constant true p))))
    ∷ ("Q", braces value (λ p. print_str "&" (print_str "mut " (child a_constant true p))))
    ∷ ("A", braces value (λ p. print_str "[" (list ", " constant_inside (print_str "]" p))))
    ∷ ("T", braces value (λ p. print_str "(" (tuple constant_inside (print_str ")" p))))
    ∷ ("V", braces value (λ p. child a_path true (byte (variant p))))
    ∷ ("B", target a_constant value)
    ∷ []

abbrev pub constant : Bool → ℕ → Items
constant value tag = row_of tag invalid (constant_rows value tag)

-- The items of a production, by its kind. The `w` before a type is of the crate. It is for splat, an unstable feature.
abbrev pub items : Kind → Bool → Items
items a_path value = raise (byte (path value))
items a_type value = next (code "w") (print_str "#[splat] " type_tagged) type_tagged
items a_constant value = byte (λ tag. raise (constant value tag))
items a_pattern value = byte pattern_of
items a_trait_path value = trait_path
