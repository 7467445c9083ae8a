-- No row of the table prints a line feed.
use Rattle.std.proofs.Common.{◌≡◌, ◌≢◌, ◌==◌, ℕ, Bool, true, false, cond, List, [], ◌∷◌, Option, None, Some, refl, arith, codes}
use Rattle.std.specs.Prelude.{decimal}
use Prim.Native.Char.{code}
use Prim.Native.String.{String}
use lib.Utf8.{scalar}
use Rattle.rustc_demangle.specs.Lines.{line_feeds}
use Rattle.demangle_symbol.specs.Primitives.{Name, is_upper, some_or, number_of}
use Rattle.demangle_symbol.specs.Names.{is_empty, is_empty_name, name_pieces}
use Rattle.demangle_symbol.specs.Literals.{literal, string_of}
use Rattle.demangle_v0_grammar.specs.Items.{Text, Kind, a_path, a_type, a_constant, a_pattern, a_trait_path, Items, done, invalid, print, print_plain, byte, next, raise, unit, child, leave_open, dyn_trait}
use Rattle.demangle_v0_grammar.specs.Table.{is_among, row_of, print_str, print_if, print_all, list, tuple, type_inside, constant_inside, argument, arguments, in_special, in_namespace, path_rows, basic_types, row_text, extern, parameters, print_qualifiers, function, binding_value, after_tag, type_rows, type_after_tag, type_tagged, pattern_rows, braces, integer_constant, print_char, print_bool, string, field, variant, variant_rows, constant_rows, items}
use Rattle.demangle_laws.proofs.LineFeeds.{line_feeds-other}
use Rattle.demangle_laws.proofs.PrimitiveLineFeeds.{AreClear, number_clear, name_clear, extern_clear, literal_clear}
use Rattle.demangle_laws.proofs.ItemLineFeeds.{SaysClear}

cond_clear : (b : Bool) (p q : Items) → SaysClear p → SaysClear q → SaysClear (cond b p q)
cond_clear true p q h k = h
cond_clear false p q h k = k

some_clear : {A : Type 0} (p : Items) (o : Option A) (f : A → Items) → SaysClear p → ((v : A) → SaysClear (f v)) → SaysClear (some_or p o f)
some_clear p None f h k = h
some_clear p (Some v) f h k = k v

all_clear : (ts : List Text) (p : Items) → AreClear ts → SaysClear p → SaysClear (print_all ts p)
all_clear [] p h k = k
all_clear (t ∷ ts) p h k = (h.0, all_clear ts p h.1 k)

abbrev RowsClear : List (String × Items) → Type 0
RowsClear [] = Unit {0}
RowsClear (r ∷ rs) = SaysClear r.1 × RowsClear rs

row_clear : (tag : ℕ) (p : Items) (rs : List (String × Items)) → SaysClear p → RowsClear rs → SaysClear (row_of tag p rs)
row_clear tag p [] h k = h
row_clear tag p (r ∷ rs) h k = cond_clear (is_among tag (codes r.0)) r.1 (row_of tag p rs) k.0 (row_clear tag p rs h k.1)

after_clear : (rs : List (String × Items)) → RowsClear rs → RowsClear (after_tag rs)
after_clear [] h = tt
after_clear (r ∷ rs) h = ((λ _. h.0), after_clear rs h.1)

list_clear : (t : String) (element p : Items) → line_feeds (codes t) ≡ 0 → SaysClear element → SaysClear p → SaysClear (list t element p)
list_clear t element p s x y = (y, ((x, ((s, x), y)), y))

tuple_clear : (element p : Items) → SaysClear element → SaysClear p → SaysClear (tuple element p)
tuple_clear element p x y = (y, ((x, ((refl, y), (((refl, x), y), (refl, y)))), y))

infixr 5 ◌▸◌
◌▸◌ : {A B : Type 0} → A → B → A × B
a ▸ b = (a, b)

argument_clear : SaysClear argument
argument_clear = ((λ _. tt), (tt, tt))

arguments_clear : (p : Items) → SaysClear p → SaysClear (arguments p)
arguments_clear p x = (list_clear ", " argument done refl argument_clear tt, x)

field_clear : SaysClear field
field_clear = λ _ a h k. all_clear (name_pieces a) _ (name_clear a h k) (refl, tt)

-- Paths.

special_clear : (n d : ℕ) (a : Name) → n ≢ 10 → line_feeds a.ascii ≡ 0 → line_feeds a.punycode ≡ 0 → SaysClear (in_special n d a)
special_clear n d a ne h k = (refl, (tag (n == code "C") (n == code "S"), cond_clear (is_empty_name a) _ _ ending (refl, all_clear (name_pieces a) _ (name_clear a h k) ending)))
  where
    tag : (x y : Bool) → line_feeds (cond x (codes "closure") (cond y (codes "shim") (n ∷ []))) ≡ 0
    tag true y = refl
    tag false true = refl
    tag false false = line_feeds-other n [] ne

    ending : SaysClear (print_str "#" (print (decimal d) (print_str "}" done)))
    ending = (refl, (number_clear 10 d, (refl, tt)))

in_namespace_clear : (n : ℕ) → n ≢ 10 → SaysClear (in_namespace n)
in_namespace_clear n ne = λ d a h k. cond_clear (is_upper n) _ _ (special_clear n d a ne h k)
    (cond_clear (is_empty_name a) _ _ tt (refl, all_clear (name_pieces a) _ (name_clear a h k) tt))

paths_clear : (value : Bool) → RowsClear (path_rows value)
paths_clear value =
    (λ d a h k. all_clear (name_pieces a) _ (name_clear a h k) (cond_clear (d == 0) _ _ tt (refl, (number_clear 16 d, (refl, tt)))))
    ▸ (λ n ne. (in_namespace_clear n ne, (refl, in_namespace_clear n ne)))
    ▸ (λ _. (refl, (refl, tt)))
    ▸ (λ _. (refl, (refl, (refl, tt))))
    ▸ (refl, (refl, (refl, tt)))
    ▸ (
    let after : SaysClear (print_str "<" (arguments (print_str ">" done))) = (refl, arguments_clear (print_str ">" done) (refl, tt)) in
    cond_clear value (print_str "::" (print_str "<" (arguments (print_str ">" done)))) _ (refl, after) after
    )
    ▸ tt
    ▸ tt

-- Types.

abbrev TextsClear : List (String × String) → Type 0
TextsClear [] = Unit {0}
TextsClear (r ∷ rs) = (line_feeds (codes r.1) ≡ 0) × TextsClear rs

found_clear : (tag : ℕ) (rs : List (String × String)) (p : Items) (f : Text → Items) → TextsClear rs → SaysClear p → ((t : Text) → line_feeds t ≡ 0 → SaysClear (f t)) → SaysClear (some_or p (row_text tag rs) f)
found_clear tag [] p f h x y = x
found_clear tag (r ∷ rs) p f h x y = at (is_among tag (codes r.0)) (y (codes r.1) h.0) (found_clear tag rs p f h.1 x y)
  where
    at : (b : Bool) → SaysClear (f (codes r.1)) → SaysClear (some_or p (row_text tag rs) f) → SaysClear (some_or p (cond b (Some (codes r.1)) (row_text tag rs)) f)
    at true x y = x
    at false x y = y

basic_clear : TextsClear basic_types
basic_clear =
    refl ▸ refl ▸ refl ▸ refl ▸ refl ▸ refl ▸ refl ▸ refl ▸ refl ▸ refl ▸ refl ▸ refl ▸ refl ▸ refl ▸ refl
    ▸ refl ▸ refl ▸ refl ▸ refl ▸ refl ▸ refl ▸ tt

qualifiers_clear : (unsafe : Bool) (abi : List Text) → AreClear abi → SaysClear (print_qualifiers unsafe abi parameters)
qualifiers_clear unsafe abi h =
    let inner = list ", " type_inside (print_str ")" (next (code "u") done (print_str " -> " type_inside))) in
    let after : SaysClear (print_all abi (print_str "fn(" inner)) = all_clear abi (print_str "fn(" inner) h (refl, list_clear ", " type_inside (print_str ")" (next (code "u") done (print_str " -> " type_inside))) refl tt (refl, (tt, (refl, tt)))) in
    cond_clear unsafe (print_str "unsafe " (print_all abi (print_str "fn(" inner))) (print_all abi (print_str "fn(" inner)) (refl, after) after

function_clear : (unsafe : Bool) → SaysClear (function unsafe)
function_clear unsafe = (
  (
    qualifiers_clear unsafe (extern (codes "C")) (extern_clear (codes "C") refl),
    (λ a h _. cond_clear (is_empty a.ascii) _ _ tt (cond_clear (is_empty a.punycode) _ _ (qualifiers_clear unsafe (extern a.ascii) (extern_clear a.ascii h)) tt)),
  ),
  qualifiers_clear unsafe [] tt,
)

types_clear : (tag : ℕ) → RowsClear (type_rows tag)
types_clear tag =
    (refl, ((λ k. cond_clear (k == 0) _ _ rest (refl, rest)), rest))
    ▸ (refl, (refl, tt))
    ▸ (refl, (refl, tt))
    ▸ (refl, (refl, (refl, tt)))
    ▸ (refl, (refl, tt))
    ▸ (refl, tuple_clear type_inside (print_str ")" done) tt (refl, tt))
    ▸ (λ _. (function_clear true, function_clear false))
    ▸ (refl, ((λ _. list_clear " + " (dyn_trait binding_value) done refl (tt, tt) tt), ((λ k. cond_clear (k == 0) _ _ tt (refl, tt)), tt)))
    ▸ tt
    ▸ (refl, tt)
    ▸ tt
  where
    rest : SaysClear (print_if (tag == code "Q") "mut " type_inside)
    rest = cond_clear (tag == code "Q") (print_str "mut " type_inside) type_inside (refl, tt) tt

tagged_clear : SaysClear type_tagged
tagged_clear = λ tag. found_clear tag basic_types (raise (type_after_tag tag)) (λ text. byte (λ _. print text done)) basic_clear
    (row_clear tag (child a_path false done) (after_tag (type_rows tag)) tt (after_clear (type_rows tag) (types_clear tag))) (λ _ h _. (h, tt))

patterns_clear : RowsClear pattern_rows
patterns_clear = (refl, tt) ▸ ((refl, tt), (tt, tt)) ▸ (refl, tt) ▸ tt

-- Constants.

braces_clear : (value : Bool) (inside : Items → Items) → ((p : Items) → SaysClear p → SaysClear (inside p)) → SaysClear (braces value inside)
braces_clear value inside h = cond_clear value (inside done) (print_str "{" (inside (print_str "}" done))) (h done tt) (refl, h (print_str "}" done) (refl, tt))

digits_clear : (tag : ℕ) → SaysClear (integer_constant tag)
digits_clear tag = λ h none.
    let last = some_or done (row_text tag basic_types) (λ text. print_plain text done) in
    let ends : SaysClear last = found_clear tag basic_types done (λ text. print_plain text done) basic_clear tt (λ _ k. (k, tt)) in
    some_clear (print_str "0x" (print h last)) (number_of h) (λ n. print (decimal n) last) (refl, (none, ends)) (λ n. (number_clear 10 n, ends))

string_clear : SaysClear string
string_clear = λ h _. some_clear invalid (string_of h) (λ cs. print_all (literal (code "\"") cs) done) tt (λ cs. all_clear (literal (code "\"") cs) done (literal_clear 34 cs (λ same. omega (arith, same))) tt)

bool_clear : (o : Option ℕ) → SaysClear (print_bool done o)
bool_clear None = tt
bool_clear (Some n) = cond_clear (n == 0) _ _ (refl, tt) (cond_clear (n == 1) _ _ (refl, tt) tt)

char_clear : (o : Option ℕ) → SaysClear (print_char done o)
char_clear None = tt
char_clear (Some c) = cond_clear (scalar c) _ _ (all_clear (literal (code "'") (c ∷ [])) done (literal_clear 39 (c ∷ []) (λ same. omega (arith, same))) tt) tt

variants_clear : (p : Items) → SaysClear p → RowsClear (variant_rows p)
variants_clear p x = x
    ▸ (refl, list_clear ", " constant_inside (print_str ")" p) refl tt (refl, x))
    ▸ (refl, list_clear ", " field (print_str " }" p) refl field_clear (refl, x))
    ▸ tt

constants_clear : (value : Bool) (tag : ℕ) → RowsClear (constant_rows value tag)
constants_clear value tag =
    (refl, tt)
    ▸ digits_clear tag
    ▸ ((refl, digits_clear tag), digits_clear tag)
    ▸ (λ h _. bool_clear (number_of h))
    ▸ (λ h _. char_clear (number_of h))
    ▸ braces_clear value (λ p. print_str "*" (unit string p)) (λ p x. (refl, (string_clear, x)))
    ▸ (string_clear, braces_clear value (λ p. print_str "&" (child a_constant true p)) (λ p x. (refl, x)))
    ▸ braces_clear value (λ p. print_str "&" (print_str "mut " (child a_constant true p))) (λ p x. (refl, (refl, x)))
    ▸ braces_clear value (λ p. print_str "[" (list ", " constant_inside (print_str "]" p))) (λ p x. (refl, list_clear ", " constant_inside (print_str "]" p) refl tt (refl, x)))
    ▸ braces_clear value (λ p. print_str "(" (tuple constant_inside (print_str ")" p))) (λ p x. (refl, tuple_clear constant_inside (print_str ")" p) tt (refl, x)))
    ▸ braces_clear value (λ p. child a_path true (byte (variant p))) (λ p x tag'. row_clear tag' invalid (variant_rows p) tt (variants_clear p x))
    ▸ tt
    ▸ tt

pub items_clear : (kind : Kind) (value : Bool) → SaysClear (items kind value)
items_clear a_path value = λ tag. row_clear tag invalid (path_rows value) tt (paths_clear value)
items_clear a_type value = ((refl, tagged_clear), tagged_clear)
items_clear a_constant value = λ tag. row_clear tag invalid (constant_rows value tag) tt (constants_clear value tag)
items_clear a_pattern value = λ tag. row_clear tag invalid pattern_rows tt patterns_clear
items_clear a_trait_path value = (tt, ((refl, arguments_clear (leave_open done) tt), tt))
