-- The parse of a v0 symbol, and the texts that it prints.
use Rattle.std.specs.Prelude.{ℕ, zero, suc, ◌+◌, ◌-◌, ◌*◌, Bool, true, false, ◌&&◌, if◌then◌else◌, nat_lt, nat_le, ◌==◌, List, [], ◌∷◌, ◌++◌, length, map, slice_get, Option, Some, None, codes, decimal}
use Prim.Native.Char.{code}
use Rattle.demangle_symbol.specs.Digits.{is_byte}
use Rattle.demangle_symbol.specs.Primitives.{Name, Read, is_upper, then_if_some, some_or, byte_at, namespace_at, integer_at, optional_at, backref_at, identifier_at, nibbles_at}
use Rattle.demangle_symbol.specs.Names.{name_pieces}
pub use Rattle.demangle_symbol.specs.Primitives.{max_depth}
pub use Rattle.demangle_symbol.specs.declared.form.Form.{Form}
use Rattle.demangle_v0_grammar.specs.Items.{Text, Kind, a_path, a_trait_path, Items, done, invalid, print, print_plain, byte, namespace, integer, optional, identifier, nibbles, peek, next, if_ok, until_end, raise, unit, child, skip, folded, target, lifetime, binder, leave_open, dyn_trait, bindings}
use Rattle.demangle_v0_grammar.specs.Table.{items}
use Rattle.demangle_v0_grammar.specs.LookBudget.{LookCost}

-- the output of a production: pieces and nested productions in order, perhaps with an error text at the end
pub data Tree : Type 0 where
  nothing : Tree
  piece : Text → Tree → Tree
  plain_piece : Text → Tree → Tree
  node : Tree → Tree → Tree
  -- this many looks may be made
  looked : ℕ → Tree → Tree
  -- a production that is read and not printed
  unprinted : Tree → Tree → Tree
  -- what a reference leads to: the place that it names, the place after the reference, the place after what is read
  -- there, and its output
  referred : ℕ → Option ℕ → Option ℕ → Tree → Tree
  invalid_syntax too_deep after_error : Tree

-- the texts that are printed, in the plain form or in the other
abbrev pub pieces : Bool → Tree → List Text
pieces plain nothing = []
pieces plain (piece t rest) = t ∷ pieces plain rest
pieces plain (plain_piece t rest) = if plain then t ∷ pieces plain rest else pieces plain rest
pieces plain (node inside rest) = pieces plain inside ++ pieces plain rest
pieces plain (looked k rest) = pieces plain rest
pieces plain (unprinted inside rest) = pieces plain rest
pieces plain (referred t j end inside) = pieces plain inside
pieces plain invalid_syntax = codes "{invalid syntax}" ∷ []
pieces plain too_deep = codes "{recursion limit reached}" ∷ []
pieces plain after_error = codes "?" ∷ []

-- no error text is printed
abbrev pub HasNoError : Tree → Type 0
HasNoError nothing = Unit {0}
HasNoError (piece t rest) = HasNoError rest
HasNoError (plain_piece t rest) = HasNoError rest
HasNoError (node inside rest) = HasNoError inside × HasNoError rest
HasNoError (looked k rest) = HasNoError rest
HasNoError (unprinted inside rest) = HasNoError rest
HasNoError (referred t j end inside) = HasNoError inside
HasNoError invalid_syntax = ⊥
HasNoError too_deep = ⊥
HasNoError after_error = ⊥

abbrev pub text_cost : Text → LookCost
text_cost t = record { bytes = length t; looks = 0 }

abbrev pub looks : ℕ → LookCost
looks k = record { bytes = 0; looks = k }

-- the costs of a part that is not printed: its looks only
abbrev pub looks_only : List LookCost → List LookCost
looks_only xs = map (λ x. looks x.looks) xs

-- the costs of the pieces and the looks, in order
abbrev pub costs_of : Bool → Tree → List LookCost
costs_of plain nothing = []
costs_of plain (piece t rest) = text_cost t ∷ costs_of plain rest
costs_of plain (plain_piece t rest) = if plain then text_cost t ∷ costs_of plain rest else costs_of plain rest
costs_of plain (node inside rest) = costs_of plain inside ++ costs_of plain rest
costs_of plain (looked k rest) = looks k ∷ costs_of plain rest
costs_of plain (unprinted inside rest) = looks_only (costs_of plain inside) ++ costs_of plain rest
costs_of plain (referred t j end inside) = costs_of plain inside
costs_of plain invalid_syntax = text_cost (codes "{invalid syntax}") ∷ []
costs_of plain too_deep = text_cost (codes "{recursion limit reached}") ∷ []
costs_of plain after_error = text_cost (codes "?") ∷ []

-- an offset into the symbol after its prefix, or `None` after an error
abbrev pub Place : Type 0
Place = Option ℕ

-- the result of a production: its output, the place after it and, for a dyn trait path, whether its `<` is open
pub record Outcome : Type 0 where
  pub tree : Tree
  pub place : Place
  pub is_bracket_open : Bool

abbrev pub failed_with : Tree → Outcome
failed_with stop = record { tree = stop; place = None; is_bracket_open = false }

abbrev pub at_place : Place → Outcome
at_place i = record { tree = nothing; place = i; is_bracket_open = false }

abbrev pub with_tree : (Tree → Tree) → Outcome → Outcome
with_tree f o = record o { tree = f o.tree }

-- a production, and the rest from the place after it
abbrev pub followed_by : Outcome → (Place → Outcome) → Outcome
followed_by o rest = with_tree (node o.tree) (rest o.place)

-- How the productions of one depth are read. The arguments are: whether to print, the kind, the value position, the
-- lifetimes in scope, and the place. References are followed and lifetimes checked only when printing.
abbrev pub Level : Type 0
Level = Bool → Kind → Bool → ℕ → ℕ → Outcome

-- the context of a production: the symbol, whether to fold arguments, whether to print, the productions of its own
-- depth and of deeper ones, and the lifetimes in scope
pub record Context : Type 0 where
  pub symbol : List ℕ
  pub folds : Bool
  pub printed : Bool
  pub here : Level
  pub deeper : List Level
  pub lifetimes : ℕ

-- Primitives.

-- a primitive at place i of a symbol of n bytes: the rest after it, or an error, which may be at the symbol's end
abbrev pub primitive_outcome : {A : Type 0} → ℕ → ℕ → (A → Place → Outcome) → Read A → Outcome
primitive_outcome n i rest None = failed_with (looked (4 * (n - i + 1)) invalid_syntax)
primitive_outcome n i rest (Some r) = with_tree (looked (4 * (r.1 - i + 1))) (rest r.0 (Some r.1))

abbrev pub primitive : {A : Type 0} → Context → Place → (List ℕ → ℕ → Read A) → (A → Place → Outcome) → Outcome
primitive s None reads rest = failed_with after_error
primitive s (Some i) reads rest = primitive_outcome (length s.symbol) i rest (reads s.symbol i)

-- the next byte, which is not consumed
abbrev pub peek_outcome : (ℕ → Outcome) → Option ℕ → Outcome
peek_outcome rest None = failed_with (looked 1 invalid_syntax)
peek_outcome rest (Some b) = with_tree (looked 1) (rest b)

abbrev pub is_next_byte : Context → ℕ → Place → Bool
is_next_byte s b None = false
is_next_byte s b (Some i) = is_byte s.symbol i b

-- the first if the byte is next, which is then consumed; otherwise the second
abbrev pub byte_choice : Bool → (Place → Outcome) → (Place → Outcome) → Place → Outcome
byte_choice c there other None = other None
byte_choice true there other (Some i) = with_tree (looked 1) (there (Some (i + 1)))
byte_choice false there other (Some i) = with_tree (looked 1) (other (Some i))

-- Productions.

-- one depth deeper, if there is one
abbrev pub one_level_deeper : List Level → (Level → List Level → Place → Outcome) → Place → Outcome
one_level_deeper [] rest i = failed_with too_deep
one_level_deeper (level ∷ levels) rest i = rest level levels i

-- repetitions up to an `E`, which is consumed, or up to an error; at most n
unfoldable pub repetitions : ℕ → List ℕ → (Place → Outcome) → Place → Outcome
repetitions n symbol turn None = at_place None
repetitions zero symbol turn (Some i) = failed_with invalid_syntax
repetitions (suc n) symbol turn (Some i) = byte_choice (is_byte symbol i (code "E")) at_place (λ j. followed_by (turn j) (repetitions n symbol turn)) (Some i)

abbrev pub unit_outcome : Context → Kind → Bool → Place → Outcome
unit_outcome s kind value None = failed_with after_error
unit_outcome s kind value (Some i) = s.here s.printed kind value s.lifetimes i

-- a path that is read and not printed
abbrev pub after_unprinted : Outcome → (Place → Outcome) → Outcome
after_unprinted o rest = with_tree (unprinted o.tree) (rest o.place)

abbrev pub unprinted_path : Context → (Place → Outcome) → Place → Outcome
unprinted_path s rest None = rest None
unprinted_path s rest (Some i) = after_unprinted (s.here false a_path false s.lifetimes i) rest

-- folded arguments, which are read and not printed, or other ones, which are printed; then the rest from the place
-- after them
abbrev pub folded_by : Bool → (skipped printed : Outcome) → (Place → Outcome) → Outcome
folded_by true skipped printed rest = after_unprinted skipped (λ i. with_tree (piece (codes "_")) (rest i))
folded_by false skipped printed rest = followed_by printed rest

abbrev pub all_pieces : List Text → Tree → Tree
all_pieces [] rest = rest
all_pieces (t ∷ ts) rest = piece t (all_pieces ts rest)

-- `>` if the bracket is open
abbrev pub angle_if_open : Bool → Place → Outcome
angle_if_open true i = with_tree (piece (codes ">")) (at_place i)
angle_if_open false i = at_place i

-- the text before the name of a binding
abbrev pub binding_separator : Bool → Tree → Tree
binding_separator true rest = piece (codes ", ") rest
binding_separator false rest = piece (codes "<") rest

abbrev pub name_equals : Name → Tree → Tree
name_equals a rest = all_pieces (name_pieces a) (piece (codes " = ") rest)

-- bindings as long as a `p` is next, then `>` if the bracket is open; at most n
unfoldable pub bound_by : ℕ → Context → (Place → Outcome) → Bool → Place → Outcome
bound_by n s turn open_ None = angle_if_open open_ None
bound_by zero s turn open_ (Some i) = failed_with invalid_syntax
bound_by (suc n) s turn open_ (Some i) = byte_choice (is_byte s.symbol i (code "p"))
    (λ j. with_tree (binding_separator open_) (primitive s j identifier_at (λ a k. with_tree (name_equals a) (followed_by (turn k) (bound_by n s turn true)))))
    (angle_if_open open_) (Some i)

-- a production, and the rest from the place after it, which depends on whether the bracket is open
abbrev pub followed_open : Outcome → (Bool → Place → Outcome) → Outcome
followed_open o rest = with_tree (node o.tree) (rest o.is_bracket_open o.place)

-- Back references.

-- the target, if references are followed; reading then continues after the reference itself
abbrev pub target_read : Bool → (ℕ → Outcome) → ℕ → Place → Outcome
target_read true reads t end = let o = reads t in record { tree = node (referred t end o.place o.tree) nothing; place = end; is_bracket_open = o.is_bracket_open }
target_read false reads t end = at_place end

-- a target is one depth deeper, if there is one
abbrev pub target_of : List Level → (Level → Outcome) → Outcome
target_of [] reads = failed_with too_deep
target_of (level ∷ levels) reads = reads level

-- Lifetimes.

-- the name of the lifetime with this number
abbrev pub letter_of : ℕ → List Text
letter_of n = if nat_lt n 26 then ((97 + n) ∷ []) ∷ [] else codes "_" ∷ decimal n ∷ []

-- the lifetime of index k, with `lifetimes` of them in scope
abbrev pub lifetime_named : ℕ → ℕ → Place → Outcome
lifetime_named lifetimes k i =
    if k == 0 then with_tree (piece (codes "_")) (at_place i)
    else if nat_le k lifetimes then with_tree (all_pieces (letter_of (lifetimes - k))) (at_place i)
    else failed_with invalid_syntax

abbrev pub lifetime_at : Bool → ℕ → ℕ → Place → Outcome
lifetime_at false lifetimes k i = at_place i
lifetime_at true lifetimes k i = with_tree (piece (codes "'")) (lifetime_named lifetimes k i)

-- m new lifetimes from the number n on, after other ones
abbrev pub new_lifetimes : ℕ → ℕ → Tree → Tree
new_lifetimes zero n rest = rest
new_lifetimes (suc m) n rest = piece (codes ", ") (piece (codes "'") (all_pieces (letter_of n) (new_lifetimes m (n + 1) rest)))

-- `for<..> ` with m new lifetimes from the number n on
abbrev pub binder_of : ℕ → ℕ → Tree → Tree
binder_of zero n rest = rest
binder_of (suc m) n rest =
    piece (codes "for<") (piece (codes "'") (all_pieces (letter_of n) (new_lifetimes m (n + 1) (piece (codes "> ") rest))))

abbrev pub binder_at : Bool → ℕ → ℕ → Tree → Tree
binder_at false m n rest = rest
binder_at true m n rest = binder_of m n rest

-- All items.

-- the outcome of reading items from a place on
unfoldable pub parse : Items → Context → Place → Outcome
parse done s i = at_place i
parse invalid s i = failed_with invalid_syntax
parse (print t p) s i = with_tree (piece t) (parse p s i)
parse (print_plain t p) s i = with_tree (plain_piece t) (parse p s i)
parse (byte f) s i = primitive s i byte_at (λ b. parse (f b) s)
parse (namespace f) s i = primitive s i namespace_at (λ b. parse (f b) s)
parse (integer f) s i = primitive s i integer_at (λ n. parse (f n) s)
parse (optional tag f) s i = primitive s i (optional_at tag) (λ n. parse (f n) s)
parse (identifier f) s i = primitive s i identifier_at (λ a. parse (f a) s)
parse (nibbles f) s i = primitive s i nibbles_at (λ h. parse (f h) s)
parse (peek f) s None = failed_with after_error
parse (peek f) s (Some i) = peek_outcome (λ b. parse (f b) s (Some i)) (slice_get s.symbol i)
parse (next b p q) s i = byte_choice (is_next_byte s b i) (parse p s) (parse q s) i
parse (if_ok p q) s None = parse q s None
parse (if_ok p q) s (Some i) = parse p s (Some i)
parse (until_end p q) s i = followed_by (repetitions (suc (length s.symbol)) s.symbol (parse p s) i) (parse q s)
parse (raise p) s i = one_level_deeper s.deeper (λ level levels. parse p (record s { here = level; deeper = levels })) i
parse (unit p q) s i = followed_by (parse p s i) (parse q s)
parse (child kind value p) s i = followed_by (unit_outcome s kind value i) (parse p s)
parse (skip p) s i = unprinted_path s (parse p s) i
parse (folded p q) s i = folded_by (s.printed && s.folds) (parse p (record s { printed = false }) i) (parse p s i) (parse q s)
parse (target kind value) s i = primitive s i backref_at (λ t j. target_of s.deeper (λ level. target_read s.printed (level true kind value s.lifetimes) t j))
parse (lifetime k p) s i = followed_by (lifetime_at s.printed s.lifetimes k i) (parse p s)
parse (binder m p) s i = with_tree (binder_at s.printed m s.lifetimes) (parse p (record s { lifetimes = s.lifetimes + m }) i)
parse (leave_open p) s i = record (parse p s i) { is_bracket_open = true }
parse (dyn_trait p) s i = followed_open (unit_outcome s a_trait_path false i) (bound_by (suc (length s.symbol)) s (parse p s))
parse (bindings open_ p) s i = bound_by (suc (length s.symbol)) s (parse p s) open_ i

-- no production starts here
abbrev pub nowhere : Level
nowhere printed kind value lifetimes i = failed_with invalid_syntax

-- The productions of a depth, over those of the depths below it. Paths, types and constants start others only after
-- they raise the depth. A pattern and a dyn trait path start constants, types and paths at their own depth.
unfoldable pub level_of : List ℕ → Bool → List Level → Level
level_of symbol folds deeper printed kind value lifetimes i =
    let at : Level → Bool → ℕ → Context = λ here pr ls. record { symbol = symbol; folds = folds; printed = pr; here = here; deeper = deeper; lifetimes = ls } in
    let inner : Level = λ pr k v ls j. parse (items k v) (at nowhere pr ls) (Some j) in
    parse (items kind value) (at inner printed lifetimes) (Some i)

-- the levels of the last n depths, the least deep one first
unfoldable pub levels : List ℕ → Bool → ℕ → List Level
levels symbol folds zero = []
levels symbol folds (suc n) = let deeper : List Level = levels symbol folds n in level_of symbol folds deeper ∷ deeper

-- the outcome of a production at a place and a depth
unfoldable pub read_at : List ℕ → Bool → Bool → Kind → ℕ → ℕ → ℕ → Bool → Outcome
read_at symbol folds printed kind i depth lifetimes value = level_of symbol folds (levels symbol folds (max_depth - depth)) printed kind value lifetimes i

-- the form with hashes or without, and with folded arguments or without
abbrev pub form : (include_hash fold_arguments : Bool) → Form
form include_hash fold_arguments = record { include_hash = include_hash; fold_arguments = fold_arguments }

-- the texts of a symbol in a form: its first path, printed in value position and with no lifetimes in scope
unfoldable pub path_texts : List ℕ → Form → List Text
path_texts symbol form = pieces form.include_hash (read_at symbol form.fold_arguments true a_path 0 0 0 true).tree

-- the place after the production, if it is spelled
unfoldable pub unit_end : List ℕ → Kind → ℕ → ℕ → Place
unit_end symbol kind i depth = (read_at symbol false false kind i depth 0 true).place

-- whether a second path begins there
abbrev pub starts_second_path : List ℕ → ℕ → Bool
starts_second_path symbol j = some_or false (slice_get symbol j) is_upper

-- the place at which the suffix begins: after one path, or after a second one that begins with `A` to `Z`
unfoldable pub suffix_place : List ℕ → Place
suffix_place symbol = then_if_some (unit_end symbol a_path 0 0) (λ j. if starts_second_path symbol j then unit_end symbol a_path j 0 else Some j)
