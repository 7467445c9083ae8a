-- The texts of a name whose disambiguator is not printed.
use Rattle.std.specs.Prelude.{◌==◌, codes}
use Rattle.std.specs.Fmt.{digits}
use Rattle.std.proofs.Common.{◌≡◌, ℕ, Bool, true, false, cond, List, [], ◌∷◌, ◌++◌, refl, ap}
use Rattle.demangle_symbol.specs.Primitives.{is_upper}
use Rattle.demangle_symbol.specs.Names.{is_empty_name, name_pieces}
use Rattle.demangle_symbol.specs.Idents.{name_in}
use Rattle.demangle_symbol.specs.declared.cursor.ident.Ident.{Ident}
use Rattle.demangle_v0_grammar.specs.Reading.{Form}
use Rattle.demangle_v0_tokens.specs.Tokens.{texts_of, if_plain, special_texts}
use Rattle.demangle_v0_tokens.specs.declared.token.Token.TheVariants.{CrateName, NestedName}

-- a crate's name without its hash
pub crate_texts_same : (b : List ℕ) (form : Form) (a : Ident) (d n : ℕ) → (form.include_hash ≡ true → d ≡ n) → texts_of b form (CrateName a n) ≡ texts_of b form (CrateName a d)
crate_texts_same b form a d n same = ap (λ ts. name_pieces (name_in b a) ++ ts) (by form.include_hash same)
  where
    shown : Bool → ℕ → List (List ℕ)
    shown hash m = cond (m == 0) [] (if_plain hash (codes "[" ∷ digits 16 false m ∷ codes "]" ∷ []))

    go : (p q : Bool) → cond p [] (if_plain false (codes "[" ∷ digits 16 false n ∷ codes "]" ∷ [])) ≡ cond q [] (if_plain false (codes "[" ∷ digits 16 false d ∷ codes "]" ∷ []))
    go true true = refl
    go true false = refl
    go false true = refl
    go false false = refl

    by : (hash : Bool) → (hash ≡ true → d ≡ n) → shown hash n ≡ shown hash d
    by true same = rw (same refl) refl
    by false same = go (n == 0) (d == 0)

-- a name in a namespace that is not special
pub nested_texts_same : (b : List ℕ) (form : Form) (c : ℕ) (a : Ident) (d n : ℕ) → (is_upper c ≡ true → d ≡ n) → texts_of b form (NestedName c n a) ≡ texts_of b form (NestedName c d a)
nested_texts_same b form c a d n same = go (is_upper c) same
  where
    other : List (List ℕ)
    other = cond (is_empty_name (name_in b a)) [] (codes "::" ∷ name_pieces (name_in b a))

    go : (p : Bool) → (p ≡ true → d ≡ n) → cond p (special_texts c n (name_in b a)) other ≡ cond p (special_texts c d (name_in b a)) other
    go true same = rw (same refl) refl
    go false same = refl
