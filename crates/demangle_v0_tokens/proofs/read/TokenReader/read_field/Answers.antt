use Rattle.std.proofs.Common.{◌∙◌}
use Rattle.demangle_v0_tokens.specs.declared.token.Token.TheVariants.{FieldName}
use Rattle.demangle_v0_tokens.proofs.read.TokenReader.read_field.Goals as goal

pub returns-in-Some-clause-value : goal.returns-in-Some-clause-value
returns-in-Some-clause-value c = c.token_read.ensures ∙ (c.in-Some.ensures.some (λ a d. FieldName a)).1
