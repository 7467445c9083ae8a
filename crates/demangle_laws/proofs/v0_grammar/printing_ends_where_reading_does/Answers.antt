use Rattle.std.specs.Prelude.{◌↔◌, ◌⊎◌, if◌then◌else◌}
use Rattle.std.proofs.Common.{◌≡◌, Bool, true, false, Some, None, refl, subst}
use Rattle.demangle_v0_grammar.specs.Table.{items}
use Rattle.demangle_v0_grammar.specs.Reading.{read_at}
use Rattle.demangle_v0_grammar.specs.Spelling.{Rule, named, named_outside, Spells}
use Rattle.demangle_v0_grammar.proofs.ParsedIsSpelled.{rule}
use Rattle.demangle_v0_grammar.proofs.ParsedIffSpelled.{printing_is_spelling, printing_ends}
use Rattle.demangle_laws.proofs.v0_grammar.printing_ends_where_reading_does.Goals as goal

-- the rule of the law is the rule for what is printed
rule_is : (folds : Bool) → rule true folds ≡ (if folds then named_outside else named)
rule_is true = refl
rule_is false = refl

pub returns-clause-named : goal.returns-clause-named
returns-clause-named c = λ symbol folds kind value i j depth lifetimes deep within.
    subst (λ (r : Rule). ((read_at symbol folds true kind i depth lifetimes value).place ≡ Some j) ↔ Spells symbol r depth lifetimes (items kind value) i j)
    (rule_is folds) (printing_is_spelling symbol folds kind value i j depth lifetimes deep within)

pub returns-clause-fails : goal.returns-clause-fails
returns-clause-fails c = λ symbol folds kind value i j depth lifetimes deep within spelled.
    let place = (read_at symbol folds true kind i depth lifetimes value).place in
    subst (λ (r : Rule). (place ≡ Some j) ⊎ ((place ≡ None) × (Spells symbol r depth lifetimes (items kind value) i j → ⊥)))
    (rule_is folds) (printing_ends symbol folds kind value i j depth lifetimes deep within spelled)
