use Rattle.demangle_laws.proofs.FilterLaws.{passes}
use Rattle.demangle_laws.proofs.RewritingLaws.{plain_all}
use Rattle.demangle_laws.proofs.filtering.line_without_symbols_passes.Goals as goal

pub returns-clause-filtered : goal.returns-clause-filtered
returns-clause-filtered c = passes

pub returns-clause-rewritten : goal.returns-clause-rewritten
returns-clause-rewritten c = plain_all
