-- Two depths for each byte, and one or two more, are enough for each row of the table.
use Rattle.std.specs.Prelude.{ℕ, suc, ◌≤◌, ◌==◌, codes}
use Rattle.std.proofs.Common.{Bool, true, false, List, [], ◌∷◌, Option, Some, None, arith}
use Prim.Native.Char.{code}
use Prim.Native.String.{String}
use lib.Utf8.{scalar}
use Rattle.demangle_symbol.specs.Primitives.{Name, number_of, is_upper, some_or}
use Rattle.demangle_symbol.specs.Names.{name_pieces, is_empty, is_empty_name}
use Rattle.demangle_symbol.specs.Literals.{literal, string_of}
use Rattle.demangle_v0_grammar.specs.Items.{Text, Kind, a_path, a_type, a_constant, a_pattern, a_trait_path, Items, done, invalid, print, byte, child, until_end, unit}
use Rattle.demangle_v0_grammar.specs.Table.{variant, type_inside, constant_inside, print_if, extern, binding_value, type_tagged, braces, integer_constant, string, print_bool, print_char, argument, arguments, list, more, tuple, print_str, in_special, in_namespace, path_rows, pattern_rows, variant_rows, constant_rows, field, function, parameters, print_qualifiers, items, type_rows, row_of, after_tag, row_text, basic_types, type_after_tag, print_all}
use Rattle.demangle_v0_grammar.proofs.EnoughDepth.{Shallow, depths_of}
use Rattle.demangle_v0_grammar.proofs.TableCost.{AllRows, cond_fits, some_fits, row_fits}

after_shallow : (c : ℕ) (rs : List (String × Items)) → AllRows (Shallow (suc (suc c))) rs → AllRows (Shallow c) (after_tag rs)
after_shallow c [] x = tt
after_shallow c (r ∷ rs) x = (λ _. x.0, after_shallow c rs x.1)

all_shallow : (c : ℕ) (ts : List Text) (p : Items) → Shallow c p → Shallow c (print_all ts p)
all_shallow c [] p x = x
all_shallow c (t ∷ ts) p x = all_shallow c ts p x

if_shallow : (c : ℕ) (b : Bool) (text : String) (p : Items) → Shallow c p → Shallow c (print_if b text p)
if_shallow c b text p x = cond_fits (Shallow c) b (print_str text p) p x x

-- Lists. After the `E` two more depths are known.

list_shallow : (c : ℕ) (t : String) (el p : Items) → Shallow c el → Shallow c p → Shallow (suc (suc c)) p → Shallow c (list t el p)
list_shallow c t el p x y z = (z, ((x, (x, y)), y))

tuple_shallow : (c : ℕ) (el p : Items) → Shallow c el → Shallow c p → Shallow (suc (suc c)) p → Shallow c (tuple el p)
tuple_shallow c el p x y z = (z, ((x, (z, ((x, y), y))), y))

argument_shallow : (c : ℕ) → 2 ≤ c → Shallow c argument
argument_shallow c l = ((λ k. tt), ((omega arith, tt), (l, tt)))

arguments_shallow : (c : ℕ) (p : Items) → 2 ≤ c → Shallow c p → Shallow c (arguments p)
arguments_shallow c p l x = (list_shallow c ", " argument done (argument_shallow c l) tt tt, x)

-- Paths.

special_shallow : (c n d : ℕ) (a : Name) → Shallow c (in_special n d a)
special_shallow c n d a = cond_fits (Shallow c) (is_empty_name a) _ _ tt (all_shallow c (name_pieces a) _ tt)

namespace_shallow : (c n : ℕ) → Shallow c (in_namespace n)
namespace_shallow c n = λ d a. cond_fits (Shallow c) (is_upper n) _ _ (special_shallow c n d a) (cond_fits (Shallow c) (is_empty_name a) _ _ tt (all_shallow c (name_pieces a) _ tt))

infixr 5 ◌▸◌
◌▸◌ : {A B : Type 0} → A → B → A × B
a ▸ b = (a, b)

path_shallow : (value : Bool) → AllRows (Shallow 2) (path_rows value)
path_shallow value =
    (λ d a. all_shallow 2 (name_pieces a) _ (cond_fits (Shallow 2) (d == 0) _ _ tt tt))
    ▸ (λ n. (omega arith, (namespace_shallow 4 n, namespace_shallow 4 n)))
    ▸ (λ d. (omega arith, (omega arith, tt)))
    ▸ (λ d. (omega arith, (omega arith, (omega arith, tt))))
    ▸ (omega arith, (omega arith, tt))
    ▸ (omega arith, if_shallow 2 value "::" (print_str "<" (arguments (print_str ">" done))) (arguments_shallow 2 (print_str ">" done) (omega arith) tt))
    ▸ tt
    ▸ tt

-- Types.

qualifiers_shallow : (c : ℕ) (unsafe : Bool) (abi : List Text) → 2 ≤ c → Shallow c (print_qualifiers unsafe abi parameters)
qualifiers_shallow c unsafe abi l =
    let last = print_str ")" (Rattle.demangle_v0_grammar.specs.Table.returns) in
    if_shallow c unsafe "unsafe " (print_all abi parameters) (all_shallow c abi parameters (list_shallow c ", " type_inside last (l, tt) (tt, (l, tt)) (tt, (omega (arith, l), tt))))

function_shallow : (c : ℕ) (unsafe : Bool) → 2 ≤ c → Shallow c (function unsafe)
function_shallow c unsafe l = (
  (
    qualifiers_shallow (suc (suc (suc (suc c)))) unsafe (extern (codes "C")) (omega (arith, l)),
    (λ a. cond_fits (Shallow (suc (suc c))) (is_empty a.ascii) _ _ tt (cond_fits (Shallow (suc (suc c))) (is_empty a.punycode) _ _ (qualifiers_shallow (suc (suc c)) unsafe (extern a.ascii) (omega (arith, l))) tt)),
  ),
  qualifiers_shallow c unsafe [] l,
)

value_shallow : (c : ℕ) → 2 ≤ c → Shallow c binding_value
value_shallow c l = ((omega arith, tt), (l, tt))

types_shallow : (c tag : ℕ) → 3 ≤ c → AllRows (Shallow c) (type_rows tag)
types_shallow c tag m =
    ((λ k. cond_fits (Shallow (suc (suc c))) (k == 0) _ _ (rest (suc (suc c)) (omega (arith, m))) (rest (suc (suc c)) (omega (arith, m)))), rest c (omega (arith, m)))
    ▸ (omega (arith, m), tt)
    ▸ (omega (arith, m), tt)
    ▸ (omega (arith, m), (omega (arith, m), tt))
    ▸ (omega (arith, m), tt)
    ▸ tuple_shallow c type_inside (print_str ")" done) (omega (arith, m), tt) tt tt
    ▸ (λ n. (function_shallow (suc (suc c)) true (omega (arith, m)), function_shallow c false (omega (arith, m))))
    ▸ (
      (λ n. list_shallow c " + " (Rattle.demangle_v0_grammar.specs.Items.dyn_trait binding_value) done (omega (arith, m), value_shallow c (omega (arith, m))) tt tt),
      ((λ k. cond_fits (Shallow (suc (suc c))) (k == 0) _ _ tt tt), tt),
    )
    ▸ tt
    ▸ (omega (arith, m), (omega (arith, m), tt))
    ▸ tt
  where
    rest : (d : ℕ) → 2 ≤ d → Shallow d (print_if (tag == code "Q") "mut " type_inside)
    rest d l = if_shallow d (tag == code "Q") "mut " type_inside (l, tt)

constructed_shallow : (c tag : ℕ) → 1 ≤ c → Shallow c (type_after_tag tag)
constructed_shallow c tag l = row_fits (Shallow c) tag (child a_path false done) (after_tag (type_rows tag)) (l, tt) (after_shallow c (type_rows tag) (types_shallow (suc (suc c)) tag (omega (arith, l))))

tagged_shallow : (c : ℕ) → 1 ≤ c → Shallow (suc c) type_tagged
tagged_shallow c l = λ tag. some_fits (Shallow (suc c)) (Rattle.demangle_v0_grammar.specs.Items.raise (type_after_tag tag)) (row_text tag basic_types) (λ text. byte (λ _. print text done)) (constructed_shallow c tag l) (λ text _. tt)

patterns_shallow : AllRows (Shallow 3) pattern_rows
patterns_shallow = (omega arith, (omega arith, tt)) ▸ (omega arith, ((omega arith, tt), (tt, tt))) ▸ tt ▸ tt

-- Constants.

variants_shallow : (c : ℕ) (p : Items) → 1 ≤ c → ((d : ℕ) → Shallow d p) → AllRows (Shallow c) (variant_rows p)
variants_shallow c p l x = x c
    ▸ list_shallow c ", " constant_inside (print_str ")" p) (l, tt) (x c) (x (suc (suc c)))
    ▸ list_shallow c ", " field (print_str " }" p) (λ d a. all_shallow c (name_pieces a) _ (l, tt)) (x c) (x (suc (suc c)))
    ▸ tt

braces_shallow : (c : ℕ) (value : Bool) (inside : Items → Items) → ((p : Items) → ((d : ℕ) → Shallow d p) → Shallow c (inside p)) → Shallow c (braces value inside)
braces_shallow c value inside h = cond_fits (Shallow c) value (inside done) (print_str "{" (inside (print_str "}" done))) (h done (λ d. tt)) (h (print_str "}" done) (λ d. tt))

number_shallow : (c tag : ℕ) → Shallow c (integer_constant tag)
number_shallow c tag h =
    let last = some_or done (row_text tag basic_types) (λ text. Rattle.demangle_v0_grammar.specs.Items.print_plain text done) in
    let ends : Shallow c last = some_fits (Shallow c) done (row_text tag basic_types) (λ text. Rattle.demangle_v0_grammar.specs.Items.print_plain text done) tt (λ _. tt) in
    some_fits (Shallow c) _ (number_of h) _ ends (λ n. ends)

string_shallow : (c : ℕ) → Shallow c string
string_shallow c h = some_fits (Shallow c) invalid (string_of h) _ tt (λ cs. all_shallow c (literal (code "\"") cs) done tt)

bool_shallow : (c : ℕ) (o : Option ℕ) → Shallow c (print_bool done o)
bool_shallow c None = tt
bool_shallow c (Some n) = cond_fits (Shallow c) (n == 0) _ _ tt (cond_fits (Shallow c) (n == 1) _ _ tt tt)

char_shallow : (c : ℕ) (o : Option ℕ) → Shallow c (print_char done o)
char_shallow c None = tt
char_shallow c (Some n) = cond_fits (Shallow c) (scalar n) _ _ (all_shallow c (literal (code "'") (n ∷ [])) done tt) tt

constants_shallow : (value : Bool) (tag : ℕ) → AllRows (Shallow 2) (constant_rows value tag)
constants_shallow value tag =
    tt
    ▸ number_shallow 2 tag
    ▸ (number_shallow 4 tag, number_shallow 2 tag)
    ▸ (λ h. bool_shallow 2 (number_of h))
    ▸ (λ h. char_shallow 2 (number_of h))
    ▸ braces_shallow 2 value (λ p. print_str "*" (unit string p)) (λ p x. (string_shallow 2, x 2))
    ▸ (string_shallow 4, braces_shallow 2 value (λ p. print_str "&" (child a_constant true p)) (λ p x. (omega arith, x 2)))
    ▸ braces_shallow 2 value (λ p. print_str "&" (print_str "mut " (child a_constant true p))) (λ p x. (omega arith, x 2))
    ▸ braces_shallow 2 value (λ p. print_str "[" (list ", " constant_inside (print_str "]" p))) (λ p x. list_shallow 2 ", " constant_inside (print_str "]" p) (omega arith, tt) (x 2) (x 4))
    ▸ braces_shallow 2 value (λ p. print_str "(" (tuple constant_inside (print_str ")" p))) (λ p x. tuple_shallow 2 constant_inside (print_str ")" p) (omega arith, tt) (x 2) (x 4))
    ▸ braces_shallow 2 value (λ p. child a_path true (byte (variant p))) (λ p x. (omega arith, λ tag'. row_fits (Shallow 4) tag' invalid (variant_rows p) tt (variants_shallow 4 p (omega arith) x)))
    ▸ tt
    ▸ tt

pub shallow : (kind : Kind) (value : Bool) → Shallow (depths_of kind) (items kind value)
shallow a_path value = λ tag. row_fits (Shallow 2) tag invalid (path_rows value) tt (path_shallow value)
shallow a_type value = (tagged_shallow 3 (omega arith), tagged_shallow 1 (omega arith))
shallow a_constant value = λ tag. row_fits (Shallow 2) tag invalid (constant_rows value tag) tt (constants_shallow value tag)
shallow a_pattern value = λ tag. row_fits (Shallow 3) tag invalid pattern_rows tt patterns_shallow
shallow a_trait_path value = (tt, ((omega arith, arguments_shallow 3 (Rattle.demangle_v0_grammar.specs.Items.leave_open done) (omega arith) tt), (omega arith, tt)))
