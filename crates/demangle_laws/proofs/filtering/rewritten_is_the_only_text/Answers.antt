use Rattle.demangle_laws.proofs.RewritingLaws.{rewritten_is}
use Rattle.demangle_laws.proofs.filtering.rewritten_is_the_only_text.Goals as goal

pub returns : goal.returns
returns c hash text out = rewritten_is hash text out
