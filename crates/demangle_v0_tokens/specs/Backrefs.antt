-- Internal: no public contract cites this.
-- Back references as they are read.
use Rattle.std.specs.Prelude.{ℕ, zero, suc, ◌+◌, ◌-◌, ◌*◌, ◌<◌, Some, None, List, [], ◌∷◌, length}
use Rattle.demangle_symbol.specs.Primitives.{Read, backref_at}
use Rattle.demangle_v0_grammar.specs.Reading.{Place}
use Rattle.demangle_v0_tokens.specs.declared.fixed_texts.FixedText.TheVariants as fixed
use Rattle.demangle_v0_tokens.specs.declared.backref.BackrefOutcome.{BackrefOutcome}
use Rattle.demangle_v0_tokens.specs.declared.backref.BackrefOutcome.TheVariants.{NotFollowed, Target}

-- Back references.

-- the result of reading a back reference, and the looks that are allowed for it
pub record BackrefSpec : Type 0 where
  pub refers : BackrefOutcome
  pub costs : List ℕ

abbrev pub leads : ℕ → ℕ → ℕ → BackrefOutcome
leads zero target j = NotFollowed fixed.Recursion
leads (suc left) target j = Target target j

abbrev pub reference_read : ℕ → ℕ → ℕ → Read ℕ → BackrefSpec
reference_read n left i None = record { refers = NotFollowed fixed.Invalid; costs = 4 * (n - i + 1) ∷ [] }
reference_read n left i (Some r) = record { refers = leads left r.0 r.1; costs = 4 * (r.1 - i + 1) ∷ [] }

abbrev pub read_backref : List ℕ → ℕ → Place → BackrefSpec
read_backref b left None = record { refers = NotFollowed fixed.AfterError; costs = [] }
read_backref b left (Some i) = reference_read (length b) left i (backref_at b i)

abbrev pub IsDeep : BackrefOutcome → ℕ → Type 0
IsDeep (NotFollowed _) left = Unit {0}
IsDeep (Target _ _) left = 0 < left
