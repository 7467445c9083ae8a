-- Each row of the table fits: it pays for its looks, and each repetition reads a byte. It starts and ends as its
-- production may.
use Rattle.std.specs.Prelude.{ℕ, suc, ◌&&◌, ◌≤◌, ◌||◌, ◌==◌, IsTrue, codes}
use Rattle.std.proofs.Common.{◌≡◌, Bool, true, false, cond, List, [], ◌∷◌, Option, Some, None, refl, ◌+◌, ◌-◌, arith}
use Prim.Native.Char.{code}
use Prim.Native.String.{String}
use lib.Utf8.{scalar}
use Rattle.demangle_symbol.specs.Primitives.{Name, number_of, is_upper, some_or}
use Rattle.demangle_symbol.specs.Names.{name_pieces, is_empty, is_empty_name}
use Rattle.demangle_symbol.specs.Literals.{literal, string_of}
use Rattle.demangle_v0_grammar.specs.Items.{Text, Kind, a_path, a_type, a_constant, a_pattern, a_trait_path, Items, done, invalid, print, print_plain, byte, namespace, integer, optional, identifier, nibbles, peek, next, if_ok, until_end, raise, unit, child, skip, folded, target, lifetime, binder, leave_open, dyn_trait, bindings}
use Rattle.demangle_v0_grammar.specs.Table.{at_end, more}
use Rattle.demangle_v0_grammar.specs.Table.{variant, type_inside, constant_inside, print_if, extern, binding_value, type_tagged, braces, integer_constant, string, print_bool, print_char, argument, arguments, list, tuple, print_str, in_special, in_namespace, path_rows, pattern_rows, variant_rows, constant_rows, field, function, parameters, print_qualifiers, items, type_rows, row_of, after_tag, row_text, basic_types, type_after_tag, print_all, is_among}
use Rattle.demangle_v0_grammar.proofs.ItemBudgets.{start, rank, is_below, is_closed, is_some_text, Fits}

abbrev Cheap : ℕ → ℕ → Bool → Items → Type 0
Cheap e k g p = Fits true 2 e k g p

-- A larger budget at the start, and a smaller one at the end.

or_true : (g g' x : Bool) → (IsTrue g → IsTrue g') → IsTrue (g || x) → IsTrue (g' || x)
or_true true true x h q = q
or_true true false x h q = let z : IsTrue false = h refl in absurd (cc z)
or_true false true x h q = refl
or_true false false x h q = q

and_true : (x g g' : Bool) → (IsTrue g → IsTrue g') → IsTrue (x && g) → IsTrue (x && g')
and_true true g g' h q = h q
and_true false g g' h q = q

cheaper : (c : Bool) (r : ℕ) (p : Items) (e e' k k' : ℕ) (g g' : Bool) → e' ≤ e → k ≤ k' → (IsTrue g → IsTrue g') → Fits c r e k g p → Fits c r e' k' g' p
cheaper z r done e e' k k' g g' b c d x = omega (arith, b, c, x)
cheaper z r invalid e e' k k' g g' b c d x = tt
cheaper z r (print t p) e e' k k' g g' b c d x = cheaper z r p e e' k k' (g || is_some_text t) (g' || is_some_text t) b c (or_true g g' (is_some_text t) d) x
cheaper z r (print_plain t p) e e' k k' g g' b c d x = cheaper z r p e e' k k' g g' b c d x
cheaper z r (byte f) e e' k k' g g' b c d x = λ v. cheaper z r (f v) e e' (k + 9) (k' + 9) g g' b (omega (arith, c)) d (x v)
cheaper z r (namespace f) e e' k k' g g' b c d x = λ v. cheaper z r (f v) e e' (k + 9) (k' + 9) g g' b (omega (arith, c)) d (x v)
cheaper z r (integer f) e e' k k' g g' b c d x = λ v. cheaper z r (f v) e e' (k + 9) (k' + 9) g g' b (omega (arith, c)) d (x v)
cheaper z r (optional tag f) e e' k k' g g' b c d x = (omega (arith, c, x.0), λ v. cheaper z r (f v) e e' (k - 4) (k' - 4) g g' b (omega (arith, c)) d (x.1 v))
cheaper z r (identifier f) e e' k k' g g' b c d x = λ v. cheaper z r (f v) e e' (k + 9) (k' + 9) g g' b (omega (arith, c)) d (x v)
cheaper z r (nibbles f) e e' k k' g g' b c d x = λ v. cheaper z r (f v) e e' (k + 9) (k' + 9) g g' b (omega (arith, c)) d (x v)
cheaper z r (peek f) e e' k k' g g' b c d x = (omega (arith, c, x.0), λ v. cheaper z r (f v) e e' (k - 1) (k' - 1) g g' b (omega (arith, c)) d (x.1 v))
cheaper z r (next y p q) e e' k k' g g' b c d x = (omega (arith, c, x.0), cheaper z r p e e' (k + 16) (k' + 16) g g' b (omega (arith, c)) d x.1, cheaper z r q e e' (k - 1) (k' - 1) g g' b (omega (arith, c)) d x.2)
cheaper z r (if_ok p q) e e' k k' g g' b c d x = (x.0, x.1, cheaper z r p e e' k k' g g' b c d x.2, cheaper z r q e e' x.0 x.0 x.1 x.1 b (omega arith) (λ z. z) x.3)
cheaper z r (until_end p q) e e' k k' g g' b c d x = (x.0, omega (arith, c, x.1), x.2, x.3, cheaper z r q e e' (x.0 + 16) (x.0 + 16) false false b (omega arith) (λ z. z) x.4)
cheaper z r (raise p) e e' k k' g g' b c d x = cheaper z 2 p e e' k k' g g' b c d x
cheaper z r (unit p q) e e' k k' g g' b c d x = (x.0, cheaper z r p x.0 x.0 k k' g g' (omega arith) c d x.1, cheaper z r q e e' x.0 x.0 false false b (omega arith) (λ z. z) x.2)
cheaper z r (child kind value p) e e' k k' g g' b c d x = (omega (arith, c, x.0), and_true (is_below r kind) g g' d x.1, cheaper z r p e e' 8 8 false false b (omega arith) (λ z. z) x.2)
cheaper z r (skip p) e e' k k' g g' b c d x = (x.0, cheaper z r p e e' 8 8 g g' b (omega arith) d x.1)
cheaper z r (folded p q) e e' k k' g g' b c d x = (x.0, cheaper z r p x.0 x.0 k k' g g' (omega arith) c d x.1, cheaper z r q e e' x.0 x.0 false false b (omega arith) (λ z. z) x.2)
cheaper z r (target kind value) e e' k k' g g' b c d x = (and_true (cond z (is_closed kind) true) g g' d x.0, omega (arith, b, c, x.1))
cheaper z r (lifetime n p) e e' k k' g g' b c d x = cheaper z r p e e' k k' g g' b c d x
cheaper z r (binder n p) e e' k k' g g' b c d x = cheaper z r p e e' k k' g g' b c d x
cheaper z r (leave_open p) e e' k k' g g' b c d x = (x.0, cheaper z r p e e' k k' g g' b c d x.1)
cheaper z r (dyn_trait p) e e' k k' g g' b c d x = (omega (arith, c, x.0), and_true (is_below r a_trait_path) g g' d x.1, (x.2.0, x.2.1, x.2.2, x.2.3, omega (arith, b, x.2.4)))
cheaper z r (bindings o p) e e' k k' g g' b c d x = (x.0, x.1, omega (arith, c, x.2), x.3, x.4, omega (arith, b, x.5))

-- Choices.

pub cond_fits : (P : Items → Type 0) (c : Bool) (p q : Items) → P p → P q → P (cond c p q)
cond_fits P true p q x y = x
cond_fits P false p q x y = y

pub some_fits : {A : Type 0} (P : Items → Type 0) (p : Items) (o : Option A) (f : A → Items) → P p → ((v : A) → P (f v)) → P (some_or p o f)
some_fits P p None f x y = x
some_fits P p (Some v) f x y = y v

abbrev pub AllRows : (Items → Type 0) → List (String × Items) → Type 0
AllRows P [] = Unit {0}
AllRows P (r ∷ rs) = P r.1 × AllRows P rs

pub row_fits : (P : Items → Type 0) (tag : ℕ) (p : Items) (rs : List (String × Items)) → P p → AllRows P rs → P (row_of tag p rs)
row_fits P tag p [] x y = x
row_fits P tag p (r ∷ rs) x y = cond_fits P (is_among tag _) r.1 (row_of tag p rs) y.0 (row_fits P tag p rs x y.1)

after_cheap : (rs : List (String × Items)) → AllRows (Cheap 8 9 true) rs → AllRows (Cheap 8 0 true) (after_tag rs)
after_cheap [] x = tt
after_cheap (r ∷ rs) x = (λ _. x.0, after_cheap rs x.1)

all_cheap : (e k : ℕ) (g : Bool) (ts : List Text) (p : Items) → Cheap e k g p → Cheap e k g (print_all ts p)
all_cheap e k g [] p x = x
all_cheap e k g (t ∷ ts) p x = all_cheap e k (g || is_some_text t) ts p (cheaper true 2 p e e k k g (g || is_some_text t) (omega arith) (omega arith) (λ z. rw z refl) x)

if_cheap : (e k : ℕ) (g c : Bool) (text : String) (p : Items) → Cheap e k g p → Cheap e k (g || is_some_text (codes text)) p → Cheap e k g (print_if c text p)
if_cheap e k g c text p x y = cond_fits (Cheap e k g) c (print_str text p) p y x

-- Lists. The budget is q looks at the start of a loop.

at_end_fits : (c : Bool) (r e k : ℕ) (g : Bool) (p q : Items) → 1 ≤ k → Fits c r e 16 false p → Fits c r e (k - 1) g q → Fits c r e k g (at_end p q)
at_end_fits c r e k g p q l x y = (omega (arith, l), cheaper c r p e e 16 (k + 16) false g (omega arith) (omega (arith, l)) (λ z. absurd (cc z)) x, (16, false, y, x))

more_fits : (c : Bool) (q r e k : ℕ) (t : String) (el p : Items) → is_some_text (codes t) ≡ true → 1 ≤ q → q ≤ k → Fits c r q (q - 1) true el → Fits c r e 16 false p → Fits c r e k false (more t el p)
more_fits c q r e k t el p s o l x y =
    (q, l, o, cheaper c r el q q (q - 1) (q - 1) true (is_some_text (codes t)) (omega arith) (omega arith) (λ _. s) x, cheaper c r p e e 16 (q + 16) false false (omega arith) (omega arith) (λ z. z) y)

list_fits : (c : Bool) (q r e k : ℕ) (t : String) (el p : Items) → is_some_text (codes t) ≡ true → 1 ≤ q → q ≤ k → Fits c r q (q - 1) true el → Fits c r e 16 false p → Fits c r e k true (list t el p)
list_fits c q r e k t el p s o l x y = at_end_fits c r e k true p (unit el (more t el p)) (omega (arith, o, l)) y
    (q, cheaper c r el q q (q - 1) (k - 1) true true (omega arith) (omega (arith, l)) (λ z. z) x, more_fits c q r e q t el p s o (omega arith) x y)

tuple_cheap : (e k : ℕ) (el p : Items) → 7 ≤ k → Cheap 8 6 true el → Cheap e 16 false p → Cheap e k true (tuple el p)
tuple_cheap e k el p l x y =
    let others = more_fits true 7 2 e 7 ", " el p refl (omega arith) (omega arith) (cheaper true 2 el 8 7 6 6 true true (omega arith) (omega arith) (λ z. z) x) y in
    let with_tree = at_end_fits true 2 e 8 false (print_str "," p) (more ", " el p) (omega arith) (cheaper true 2 p e e 16 16 false true (omega arith) (omega arith) (λ _. refl) y) others in
    at_end_fits true 2 e k true p (unit el (at_end (print_str "," p) (more ", " el p))) (omega (arith, l)) y (8, cheaper true 2 el 8 8 6 (k - 1) true true (omega arith) (omega (arith, l)) (λ z. z) x, with_tree)

-- Elements.

pub argument_fits : (c : Bool) (r : ℕ) → Fits c (suc r) 7 6 true argument
argument_fits c r = (omega arith, (λ k. omega arith), (omega arith, (omega arith, refl, omega arith), (omega arith, refl, omega arith)))

-- the generic arguments of a path, and of a dyn trait path
pub arguments_fit : Fits true 2 8 7 true (arguments (print_str ">" done))
arguments_fit = (8, list_fits true 7 2 8 7 ", " argument done refl (omega arith) (omega arith) (argument_fits true 1) (omega arith), omega arith)

pub trait_arguments_fit : Fits false 2 8 7 true (arguments (leave_open done))
trait_arguments_fit = (8, list_fits false 7 2 8 7 ", " argument done refl (omega arith) (omega arith) (argument_fits false 1) (omega arith), (refl, omega arith))

pub typed_cheap : (e k : ℕ) → e ≤ 8 → 2 ≤ k → Cheap e k true type_inside
typed_cheap e k l m = (m, refl, l)

pub inside_cheap : (e k : ℕ) → e ≤ 8 → Cheap e k true constant_inside
inside_cheap e k l = (omega arith, refl, l)

pub field_cheap : Cheap 7 6 true field
field_cheap = (omega arith, λ d a. all_cheap 7 11 true (name_pieces a) _ (omega arith, refl, omega arith))

trait_fits : (e k : ℕ) → e ≤ 7 → 2 ≤ k → Cheap e k true (dyn_trait binding_value)
trait_fits e k l m = (m, refl, (8, omega arith, omega arith, (omega arith, (omega arith, refl, omega arith), (omega arith, refl, omega arith)), omega (arith, l)))

pub trait_cheap : Cheap 7 6 true (dyn_trait binding_value)
trait_cheap = trait_fits 7 6 (omega arith) (omega arith)

-- Paths.

special_cheap : (n d : ℕ) (a : Name) → Cheap 8 13 false (in_special n d a)
special_cheap n d a = cond_fits (Cheap 8 13 true) (is_empty_name a) _ _ (omega arith) (all_cheap 8 13 true (name_pieces a) _ (omega arith))

namespace_cheap : (n : ℕ) → Cheap 8 8 false (in_namespace n)
namespace_cheap n = (
  omega arith,
  λ d a. cond_fits (Cheap 8 13 false) (is_upper n) _ _ (special_cheap n d a)
      (cond_fits (Cheap 8 13 false) (is_empty_name a) _ _ (omega arith) (all_cheap 8 13 true (name_pieces a) _ (omega arith))),
)

infixr 5 ◌▸◌
◌▸◌ : {A B : Type 0} → A → B → A × B
a ▸ b = (a, b)

path_cheap : (value : Bool) → AllRows (Cheap 8 9 true) (path_rows value)
path_cheap value =
    (omega arith, λ d a. all_cheap 8 14 true (name_pieces a) _ (cond_fits (Cheap 8 14 true) (d == 0) _ _ (omega arith) (omega arith)))
    ▸ (λ n. (omega arith, refl, (8, false, namespace_cheap n, cheaper true 2 (in_namespace n) 8 8 8 8 false true (omega arith) (omega arith) (λ _. refl) (namespace_cheap n))))
    ▸ (omega arith, λ d. (refl, (omega arith, refl, omega arith)))
    ▸ (omega arith, λ d. (refl, (omega arith, refl, (omega arith, refl, omega arith))))
    ▸ (omega arith, refl, (omega arith, refl, omega arith))
    ▸ (
      omega arith,
      refl,
      let after : Cheap 8 8 true (arguments (print_str ">" done)) = (16, list_fits true 7 2 16 8 ", " argument done refl (omega arith) (omega arith) (argument_fits true 1) (omega arith), omega arith) in
          if_cheap 8 8 false value "::" (print_str "<" (arguments (print_str ">" done))) after after,
    )
    ▸ (refl, omega arith)
    ▸ tt

-- Types.

qualifiers_cheap : (unsafe : Bool) (abi : List Text) (k : ℕ) → 3 ≤ k → Cheap 8 k true (print_qualifiers unsafe abi parameters)
qualifiers_cheap unsafe abi k l =
    let last = print_str ")" (next (code "u") done (print_str " -> " type_inside)) in
    let inner : Cheap 8 k true (print_all abi (print_str "fn(" (list ", " type_inside last))) =
    all_cheap 8 k true abi (print_str "fn(" (list ", " type_inside last)) (list_fits true 3 2 8 k ", " type_inside last refl (omega arith) l (typed_cheap 3 2 (omega arith) (omega arith)) (omega arith, omega arith, (omega arith, refl, omega arith))) in
    if_cheap 8 k true unsafe "unsafe " (print_all abi (print_str "fn(" (list ", " type_inside last))) inner inner

function_cheap : (unsafe : Bool) (k : ℕ) → 4 ≤ k → Cheap 8 k true (function unsafe)
function_cheap unsafe k l = (
  omega (arith, l),
  (
    omega arith,
    qualifiers_cheap unsafe (extern (codes "C")) (k + 16 + 16) (omega arith),
    (λ a. cond_fits (Cheap 8 (k + 16 - 1 + 9) true) (is_empty a.ascii) _ _ tt (cond_fits (Cheap 8 (k + 16 - 1 + 9) true) (is_empty a.punycode) _ _ (qualifiers_cheap unsafe (extern a.ascii) (k + 16 - 1 + 9) (omega arith)) tt)),
  ),
  qualifiers_cheap unsafe [] (k - 1) (omega (arith, l)),
)

types_cheap : (tag : ℕ) → AllRows (Cheap 8 9 true) (type_rows tag)
types_cheap tag =
    (omega arith, (λ k. cond_fits (Cheap 8 34 true) (k == 0) _ _ (rest 34 (omega arith)) (rest 34 (omega arith))), rest 8 (omega arith))
    ▸ (omega arith, refl, omega arith)
    ▸ (omega arith, refl, omega arith)
    ▸ (omega arith, refl, (omega arith, refl, omega arith))
    ▸ (omega arith, refl, omega arith)
    ▸ tuple_cheap 8 9 type_inside (print_str ")" done) (omega arith) (typed_cheap 8 6 (omega arith) (omega arith)) (omega arith)
    ▸ (omega arith, λ m. (omega arith, function_cheap true 21 (omega arith), function_cheap false 4 (omega arith)))
    ▸ (
      8,
      (omega arith, λ m. list_fits true 5 2 8 5 " + " (dyn_trait binding_value) done refl (omega arith) (omega arith) (trait_fits 5 4 (omega arith) (omega arith)) (omega arith)),
      (omega arith, (λ k. cond_fits (Cheap 8 33 false) (k == 0) _ _ (omega arith) (omega arith)), tt),
    )
    ▸ (refl, omega arith)
    ▸ (omega arith, refl, (omega arith, refl, omega arith))
    ▸ tt
  where
    rest : (k : ℕ) → 2 ≤ k → Cheap 8 k true (print_if (tag == code "Q") "mut " type_inside)
    rest k l = if_cheap 8 k true (tag == code "Q") "mut " type_inside (typed_cheap 8 k (omega arith) l) (typed_cheap 8 k (omega arith) l)

constructed_cheap : (tag : ℕ) → Cheap 8 0 true (type_after_tag tag)
constructed_cheap tag = row_fits (Cheap 8 0 true) tag (child a_path false done) (after_tag (type_rows tag)) (omega arith, refl, omega arith) (after_cheap (type_rows tag) (types_cheap tag))

tagged_fits : Fits true 0 8 1 true type_tagged
tagged_fits = (omega arith, λ tag. some_fits (Fits true 0 8 0 true) (raise (type_after_tag tag)) (row_text tag basic_types) (λ text. byte (λ _. print text done)) (constructed_cheap tag) (λ text _. omega arith))

patterns_fit : AllRows (Fits true 1 8 9 true) pattern_rows
patterns_fit =
    (omega arith, refl, (omega arith, refl, omega arith))
    ▸ (omega arith, refl, (8, omega arith, omega arith, (omega arith, refl, omega arith), (0, false, omega arith, tt)))
    ▸ omega arith
    ▸ tt

-- Constants.

freely : (k : ℕ) (g : Bool) (p : Items) → 8 ≤ k → Cheap 8 8 false p → Cheap 8 k g p
freely k g p l x = cheaper true 2 p 8 8 8 k false g (omega arith) l (λ z. absurd (cc z)) x

variants_cheap : (p : Items) → Cheap 8 8 false p → AllRows (Cheap 8 17 false) (variant_rows p)
variants_cheap p x = freely 17 false p (omega arith) x
    ▸ list_fits true 7 2 8 17 ", " constant_inside (print_str ")" p) refl (omega arith) (omega arith) (inside_cheap 7 6 (omega arith)) (freely 16 true p (omega arith) x)
    ▸ list_fits true 7 2 8 17 ", " field (print_str " }" p) refl (omega arith) (omega arith) field_cheap (freely 16 true p (omega arith) x)
    ▸ tt

braces_cheap : (k : ℕ) (value : Bool) (inside : Items → Items) → ((p : Items) → Cheap 8 8 false p → Cheap 8 k true (inside p)) → Cheap 8 k true (braces value inside)
braces_cheap k value inside h = cond_fits (Cheap 8 k true) value (inside done) (print_str "{" (inside (print_str "}" done))) (h done (omega arith)) (h (print_str "}" done) (omega arith))

number_cheap : (tag k : ℕ) → Cheap 8 k true (integer_constant tag)
number_cheap tag k h =
    let last = some_or done (row_text tag basic_types) (λ text. print_plain text done) in
    let ends : Cheap 8 (k + 9) true last = some_fits (Cheap 8 (k + 9) true) done (row_text tag basic_types) (λ text. print_plain text done) (omega arith) (λ _. omega arith) in
    some_fits (Cheap 8 (k + 9) true) _ (number_of h) _ ends (λ n. ends)

string_cheap : (k : ℕ) → Cheap 8 k true string
string_cheap k h = some_fits (Cheap 8 (k + 9) true) invalid (string_of h) _ tt (λ cs. all_cheap 8 (k + 9) true (literal (code "\"") cs) done (omega arith))

bool_cheap : (o : Option ℕ) → Cheap 8 18 true (print_bool done o)
bool_cheap None = tt
bool_cheap (Some n) = cond_fits (Cheap 8 18 true) (n == 0) _ _ (omega arith) (cond_fits (Cheap 8 18 true) (n == 1) _ _ (omega arith) tt)

char_cheap : (o : Option ℕ) → Cheap 8 18 true (print_char done o)
char_cheap None = tt
char_cheap (Some c) = cond_fits (Cheap 8 18 true) (scalar c) _ _ (all_cheap 8 18 true (literal (code "'") (c ∷ [])) done (omega arith)) tt

constants_cheap : (value : Bool) (tag : ℕ) → AllRows (Cheap 8 9 true) (constant_rows value tag)
constants_cheap value tag =
    omega arith
    ▸ number_cheap tag 9
    ▸ (omega arith, number_cheap tag 25, number_cheap tag 8)
    ▸ (λ h. bool_cheap (number_of h))
    ▸ (λ h. char_cheap (number_of h))
    ▸ braces_cheap 9 value (λ p. print_str "*" (unit string p)) (λ p x. (8, string_cheap 9, x))
    ▸ (omega arith, string_cheap 25, braces_cheap 8 value (λ p. print_str "&" (child a_constant true p)) (λ p x. (omega arith, refl, x)))
    ▸ braces_cheap 9 value (λ p. print_str "&" (print_str "mut " (child a_constant true p))) (λ p x. (omega arith, refl, x))
    ▸ braces_cheap 9 value (λ p. print_str "[" (list ", " constant_inside (print_str "]" p))) (λ p x. list_fits true 7 2 8 9 ", " constant_inside (print_str "]" p) refl (omega arith) (omega arith) (inside_cheap 7 6 (omega arith)) (freely 16 true p (omega arith) x))
    ▸ braces_cheap 9 value (λ p. print_str "(" (tuple constant_inside (print_str ")" p))) (λ p x. tuple_cheap 8 9 constant_inside (print_str ")" p) (omega arith) (inside_cheap 8 6 (omega arith)) (freely 16 true p (omega arith) x))
    ▸ braces_cheap 9 value (λ p. child a_path true (byte (variant p))) (λ p x. (omega arith, refl, λ tag'. row_fits (Cheap 8 17 false) tag' invalid (variant_rows p) tt (variants_cheap p x)))
    ▸ (refl, omega arith)
    ▸ tt

pub fits : (kind : Kind) (value : Bool) → Fits (is_closed kind) (rank kind) 8 (start kind) true (items kind value)
fits a_path value = λ tag. row_fits (Cheap 8 9 true) tag invalid (path_rows value) tt (path_cheap value)
fits a_type value = (omega arith, cheaper true 0 type_tagged 8 8 1 18 true true (omega arith) (omega arith) (λ z. z) tagged_fits, tagged_fits)
fits a_constant value = λ tag. row_fits (Cheap 8 9 true) tag invalid (constant_rows value tag) tt (constants_cheap value tag)
fits a_pattern value = λ tag. row_fits (Fits true 1 8 9 true) tag invalid pattern_rows tt patterns_fit
fits a_trait_path value = (omega arith, (refl, omega arith), (omega arith, (omega arith, refl, (16, list_fits false 7 1 16 8 ", " argument done refl (omega arith) (omega arith) (argument_fits false 0) (omega arith), (refl, omega arith))), (omega arith, refl, omega arith)))
