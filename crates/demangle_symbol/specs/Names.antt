-- The pieces of a name.
use Rattle.std.specs.Prelude.{ℕ, Bool, true, false, ◌&&◌, if◌then◌else◌, List, [], ◌∷◌, ◌++◌, map, codes, encode_utf8}
use Rattle.demangle_symbol.specs.Primitives.{some_or, Name}
use Rattle.demangle_symbol.specs.Punycode.{puny}

abbrev pub is_empty : List ℕ → Bool
is_empty [] = true
is_empty (b ∷ bs) = false

abbrev pub is_empty_name : Name → Bool
is_empty_name a = is_empty a.ascii && is_empty a.punycode

-- the pieces of a name whose Punycode can't be decoded
abbrev pub fallback_pieces : Name → List (List ℕ)
fallback_pieces a = codes "punycode{" ∷ (if is_empty a.ascii then [] else a.ascii ∷ codes "-" ∷ []) ++ a.punycode ∷ codes "}" ∷ []

-- a name without Punycode is one piece; each character of a decoded name is a piece
unfoldable pub name_pieces : Name → List (List ℕ)
name_pieces a = if is_empty a.punycode then a.ascii ∷ [] else some_or (fallback_pieces a) (puny a.ascii a.punycode) (λ cs. map encode_utf8 cs)
