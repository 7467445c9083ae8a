use Rattle.demangle_laws.proofs.LineFeedLaws.{line_feeds-handed, line_feeds-written}
use Rattle.demangle_laws.proofs.RewritingLaws.{line_feeds-rewritten}
use Rattle.demangle_laws.proofs.filtering.as_many_lines_are_written.Goals as goal

pub returns-clause-printed : goal.returns-clause-printed
returns-clause-printed c = line_feeds-handed

pub returns-clause-written : goal.returns-clause-written
returns-clause-written c = line_feeds-written

pub returns-clause-rewritten : goal.returns-clause-rewritten
returns-clause-rewritten c = line_feeds-rewritten
