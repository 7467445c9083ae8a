use Rattle.std.specs.Prelude.{option_map}
use Rattle.std.proofs.Common.{◌≡◌, ℕ, List, length, Some, None, refl, sym}
use Rattle.demangle_symbol.specs.Primitives.{Read, optional_at}
use Rattle.demangle_symbol.specs.Idents.{ident_at}
use Rattle.demangle_symbol.specs.declared.cursor.ident.Ident.{Ident}
use Rattle.demangle_v0_tokens.specs.Tokens.{after_primitive, named_group, token_read}
use Rattle.demangle_v0_tokens.specs.declared.token.Token.{Token}
use Rattle.demangle_v0_tokens.specs.declared.read.TokenOutcome.TheVariants.{Parsed}
use Rattle.demangle_v0_tokens.proofs.read.names.name_after_disambiguator.Goals as goal

-- the token has the number that is read, whichever it is
named_end : (b : List ℕ) (i j k : ℕ) (a : Ident) (f : Ident → ℕ → Token) → Some j ≡ option_map (λ r. r.1) (optional_at 115 b i) → Some (a, k) ≡ ident_at b j → (d : ℕ) × (Parsed (f a d) (Some k) ≡ (named_group b i f).reads)
named_end b i j k a f e name = go (optional_at 115 b i) e
  where
    go : (o : Read ℕ) → Some j ≡ option_map (λ r. r.1) o → (d : ℕ) × (Parsed (f a d) (Some k) ≡ (after_primitive (length b) i o (λ d j. after_primitive (length b) j (ident_at b j) (λ a k. token_read (f a d) (Some k)))).reads)
    go None e = absurd (cc)
    go (Some r) e =
        let same : r.1 ≡ j = cc in
        (r.0, rw (same, sym name) refl)

pub returns-clause-some : goal.returns-clause-some
returns-clause-some c = λ f. named_end _ _ _ _ _ f c.in-Ok.ensures.read c.in-Ok-ident.ensures.value
