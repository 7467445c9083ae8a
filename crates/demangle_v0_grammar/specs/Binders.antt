-- Internal: no public contract cites this.
-- The texts of a binder.
use Rattle.std.specs.Prelude.{ℕ, zero, suc, ◌+◌, List, [], ◌∷◌, ◌++◌, codes}
use Rattle.demangle_v0_grammar.specs.Items.{Text}
use Rattle.demangle_v0_grammar.specs.Reading.{letter_of}

-- m lifetimes from the number n on, after other ones, and the end of the binder
unfoldable pub more_texts : ℕ → ℕ → List Text
more_texts zero n = codes "> " ∷ []
more_texts (suc m) n = codes ", " ∷ codes "'" ∷ (letter_of n ++ more_texts m (n + 1))

-- `for<..> ` with m new lifetimes from the number n on
unfoldable pub binder_texts : ℕ → ℕ → List Text
binder_texts zero n = []
binder_texts (suc m) n = codes "for<" ∷ codes "'" ∷ (letter_of n ++ more_texts m (n + 1))
