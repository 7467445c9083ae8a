-- The bytes that spell the productions of a v0 symbol. No reference is followed.
use Rattle.std.specs.Prelude.{◌≡◌, ◌⊎◌, ℕ, ◌+◌, ◌<◌, ◌≤◌, Bool, true, false, List, Some, slice_get}
use Prim.Native.Char.{code}
use Rattle.demangle_symbol.specs.Digits.{is_byte}
use Rattle.demangle_symbol.specs.Primitives.{Name, byte_at, namespace_at, integer_at, optional_at, backref_at, identifier_at, nibbles_at}
use Rattle.demangle_v0_grammar.specs.Items.{Text, Kind, a_path, a_trait_path, Items, done, print, print_plain, byte, namespace, integer, optional, identifier, nibbles, peek, next, if_ok, until_end, raise, unit, child, skip, folded, target, lifetime, binder, leave_open, dyn_trait, bindings}
use Rattle.demangle_v0_grammar.specs.Table.{items}
use Rattle.demangle_v0_grammar.specs.Reading.{max_depth, starts_second_path}

-- The rule for what is printed. `freely` requires nothing. `named` requires that each lifetime outside references is in
-- scope. `named_outside` requires the same, except for generic arguments, which are folded. `simple` allows no
-- reference, and no lifetime other than that of index 0.
pub data Rule : Type 0 where
  freely named named_outside simple : Rule

-- the rule for generic arguments
abbrev pub of_arguments : Rule → Rule
of_arguments named_outside = freely
of_arguments r = r

-- whether a lifetime of index k is allowed, with m lifetimes in scope
abbrev pub MayName : Rule → ℕ → ℕ → Type 0
MayName freely m k = Unit {0}
MayName named m k = k ≤ m
MayName named_outside m k = k ≤ m
MayName simple m k = k ≡ 0

abbrev pub MayRefer : Rule → Type 0
MayRefer freely = Unit {0}
MayRefer named = Unit {0}
MayRefer named_outside = Unit {0}
MayRefer simple = ⊥

-- `Spells symbol r d m p i j`: the bytes from i to j spell the items p, at depth d, with m lifetimes in scope, by the
-- rule r
pub data Spells (symbol : List ℕ) : Rule → ℕ → ℕ → Items → ℕ → ℕ → Type 0 where
  end_ : {r : Rule} {d m i : ℕ} → Spells symbol r d m done i i
  say_ : {r : Rule} {p : Items} {d m i j : ℕ} {t : Text} → Spells symbol r d m p i j → Spells symbol r d m (print t p) i j
  plain_ : {r : Rule} {p : Items} {d m i j : ℕ} {t : Text} → Spells symbol r d m p i j → Spells symbol r d m (print_plain t p) i j
  byte_ : {r : Rule} {d m i j : ℕ} {f : ℕ → Items} (v k : ℕ) → byte_at symbol i ≡ Some (v, k) → Spells symbol r d m (f v) k j → Spells symbol r d m (byte f) i j
  namespace_ : {r : Rule} {d m i j : ℕ} {f : ℕ → Items} (v k : ℕ) → namespace_at symbol i ≡ Some (v, k) → Spells symbol r d m (f v) k j → Spells symbol r d m (namespace f) i j
  integer_ : {r : Rule} {d m i j : ℕ} {f : ℕ → Items} (v k : ℕ) → integer_at symbol i ≡ Some (v, k) → Spells symbol r d m (f v) k j → Spells symbol r d m (integer f) i j
  optional_ : {r : Rule} {d m i j tag : ℕ} {f : ℕ → Items} (v k : ℕ) → optional_at tag symbol i ≡ Some (v, k) → Spells symbol r d m (f v) k j → Spells symbol r d m (optional tag f) i j
  identifier_ : {r : Rule} {d m i j : ℕ} {f : Name → Items} (v : Name) (k : ℕ) → identifier_at symbol i ≡ Some (v, k) → Spells symbol r d m (f v) k j → Spells symbol r d m (identifier f) i j
  nibbles_ : {r : Rule} {d m i j : ℕ} {f : List ℕ → Items} (v : List ℕ) (k : ℕ) → nibbles_at symbol i ≡ Some (v, k) → Spells symbol r d m (f v) k j → Spells symbol r d m (nibbles f) i j
  peek_ : {r : Rule} {d m i j : ℕ} {f : ℕ → Items} (v : ℕ) → slice_get symbol i ≡ Some v → Spells symbol r d m (f v) i j → Spells symbol r d m (peek f) i j
  there : {r : Rule} {p q : Items} {d m i j b : ℕ} → is_byte symbol i b ≡ true → Spells symbol r d m p (i + 1) j → Spells symbol r d m (next b p q) i j
  other : {r : Rule} {p q : Items} {d m i j b : ℕ} → is_byte symbol i b ≡ false → Spells symbol r d m q i j → Spells symbol r d m (next b p q) i j
  sound_ : {r : Rule} {p q : Items} {d m i j : ℕ} → Spells symbol r d m p i j → Spells symbol r d m (if_ok p q) i j
  -- repetitions up to an `E`
  over_ : {r : Rule} {p q : Items} {d m i j : ℕ} → is_byte symbol i (code "E") ≡ true → Spells symbol r d m q (i + 1) j → Spells symbol r d m (until_end p q) i j
  repetition_ : {r : Rule} {p q : Items} {d m i k j : ℕ} → is_byte symbol i (code "E") ≡ false → Spells symbol r d m p i k → Spells symbol r d m (until_end p q) k j → Spells symbol r d m (until_end p q) i j
  raise_ : {r : Rule} {p : Items} {d m i j : ℕ} → d < max_depth → Spells symbol r (d + 1) m p i j → Spells symbol r d m (raise p) i j
  unit_ : {r : Rule} {p q : Items} {d m i k j : ℕ} → Spells symbol r d m p i k → Spells symbol r d m q k j → Spells symbol r d m (unit p q) i j
  child_ : {r : Rule} {p : Items} {d m i k j : ℕ} {kind : Kind} {value : Bool} → Spells symbol r d m (items kind value) i k → Spells symbol r d m p k j → Spells symbol r d m (child kind value p) i j
  skip_ : {r : Rule} {p : Items} {d m i k j : ℕ} → Spells symbol freely d m (items a_path false) i k → Spells symbol r d m p k j → Spells symbol r d m (skip p) i j
  folded_ : {r : Rule} {p q : Items} {d m i k j : ℕ} → Spells symbol (of_arguments r) d m p i k → Spells symbol r d m q k j → Spells symbol r d m (folded p q) i j
  -- a reference spells only itself: its target begins before it, and there is one more depth
  target_ : {r : Rule} {d m i j : ℕ} {kind : Kind} {value : Bool} (v : ℕ) → MayRefer r → backref_at symbol i ≡ Some (v, j) → d < max_depth → Spells symbol r d m (target kind value) i j
  lifetime_ : {r : Rule} {p : Items} {d m i j k : ℕ} → MayName r m k → Spells symbol r d m p i j → Spells symbol r d m (lifetime k p) i j
  binder_ : {r : Rule} {p : Items} {d m i j n : ℕ} → Spells symbol r d (m + n) p i j → Spells symbol r d m (binder n p) i j
  opens_ : {r : Rule} {p : Items} {d m i j : ℕ} → Spells symbol r d m p i j → Spells symbol r d m (leave_open p) i j
  -- a dyn trait path, and then bindings, each after a `p` and its name
  dyn_ : {r : Rule} {p : Items} {d m i k j : ℕ} → Spells symbol r d m (items a_trait_path false) i k → Spells symbol r d m (bindings false p) k j → Spells symbol r d m (dyn_trait p) i j
  past_ : {r : Rule} {p : Items} {d m i : ℕ} {o : Bool} → is_byte symbol i (code "p") ≡ false → Spells symbol r d m (bindings o p) i i
  bound_ : {r : Rule} {p : Items} {d m i k l j : ℕ} {o : Bool} (a : Name) → is_byte symbol i (code "p") ≡ true → identifier_at symbol (i + 1) ≡ Some (a, k) → Spells symbol r d m p k l → Spells symbol r d m (bindings true p) l j → Spells symbol r d m (bindings o p) i j

-- the bytes from i to j spell a path, at depth 0
abbrev pub IsPath : List ℕ → ℕ → ℕ → Type 0
IsPath symbol i j = Spells symbol freely 0 0 (items a_path true) i j

-- the suffix begins at k: after one path, or after two if the byte after the first is `A` to `Z`
abbrev pub IsPaths : List ℕ → ℕ → Type 0
IsPaths inner k = (j : ℕ) × IsPath inner 0 j × (((starts_second_path inner j ≡ false) × (k ≡ j)) ⊎ ((starts_second_path inner j ≡ true) × IsPath inner j k))
