-- A legacy symbol whose last element is its hash.
use Rattle.std.specs.Prelude.{◌≡◌, ℕ, true, false, List, [], ◌∷◌, ◌++◌, codes}
use Rattle.demangle_value.specs.Symbols.{handed}
use Rattle.demangle_legacy.specs.Unescaped.{unescaped, is_hash, joined_pieces}

-- the pieces of an element after others: if there are any, `::` comes first
abbrev pub pieces_after : List (List ℕ) → List ℕ → List (List ℕ)
pieces_after [] element = unescaped element
pieces_after (_ ∷ _) element = codes "::" ∷ unescaped element

-- Without the hash, the text prints the same pieces except for its last element and the `::` before that.
pub record OmitsHash (text : List ℕ) (elements : List (List ℕ)) (suffix : List ℕ) (limit : ℕ) : Type 0 where
  pub prefix : List (List ℕ)
  pub last : List ℕ
  pub whole : elements ≡ prefix ++ last ∷ []
  pub hash : is_hash last ≡ true
  pub with_hash : handed text true limit ≡ joined_pieces prefix ++ pieces_after prefix last ++ suffix ∷ []
  pub without_hash : handed text false limit ≡ joined_pieces prefix ++ suffix ∷ []
