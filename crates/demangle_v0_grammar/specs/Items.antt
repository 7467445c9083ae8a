-- The items of the productions of v0 symbols, in the order in which they are read and printed.
use Rattle.std.specs.Prelude.{ℕ, Bool, List}
use Rattle.demangle_symbol.specs.Primitives.{Name}

-- a piece, in bytes
abbrev pub Text : Type 0
Text = List ℕ

-- the productions that start by name; a back reference replaces one of them
pub data Kind : Type 0 where
  a_path a_type a_constant a_pattern a_trait_path : Kind

-- the rest of a production
pub data Items : Type 0 where
  -- the production ends, without an error or with one
  done : Items
  invalid : Items
  -- prints a piece, in both forms or only in the plain one
  print : Text → Items → Items
  print_plain : Text → Items → Items
  -- reads a primitive, whose value determines the items after it; `optional` has its tag
  byte : (ℕ → Items) → Items
  namespace : (ℕ → Items) → Items
  integer : (ℕ → Items) → Items
  optional : ℕ → (ℕ → Items) → Items
  identifier : (Name → Items) → Items
  nibbles : (List ℕ → Items) → Items
  -- the next byte determines the items after it, and is not consumed
  peek : (ℕ → Items) → Items
  -- the first if this byte is next, which is then consumed; otherwise, and after an error, the second
  next : ℕ → Items → Items → Items
  -- the first if there was no error so far, otherwise the second
  if_ok : Items → Items → Items
  -- repetitions of the first up to an `E`, which is consumed, or up to an error; then the second
  until_end : Items → Items → Items
  -- the depth is raised
  raise : Items → Items
  -- a production of these items and the rest; a production by its name (in value position or not) and the rest
  unit : Items → Items → Items
  child : Kind → Bool → Items → Items
  -- a path that is read and not printed
  skip : Items → Items
  -- generic arguments, and the rest; if arguments are folded, they are read and not printed, and `_` is printed for
  -- them
  folded : Items → Items → Items
  -- the primitive of a back reference, and its target
  target : Kind → Bool → Items
  -- the lifetime with this index
  lifetime : ℕ → Items → Items
  -- this many new lifetimes are named; they are in scope up to the end of the production
  binder : ℕ → Items → Items
  -- the rest of a dyn trait path that leaves its `<` open
  leave_open : Items → Items
  -- a dyn trait path, and bindings to these items
  dyn_trait : Items → Items
  -- Bindings, as many as begin with `p`; the flag says whether a `<` is open. Each prints `<` if none is open yet,
  -- otherwise `, `, then its name and ` = `, then these items. An error in its name ends the production. `>` follows if
  -- one is open.
  bindings : Bool → Items → Items
