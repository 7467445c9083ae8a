use Rattle.rustc_demangle.specs.Rewritten.{replacement_of}
use Rattle.rustc_demangle.proofs.CandidateLemmas.{rewritten_split}
use Rattle.demangle_laws.proofs.RewritingLaws.{divided_anew, rewritten_lines}
use Rattle.demangle_laws.proofs.filtering.rewritten_texts_can_be_divided.Goals as goal

pub returns-clause-after : goal.returns-clause-after
returns-clause-after c = λ format before prefix rest cut. rewritten_split (replacement_of format) before prefix rest cut

pub returns-clause-anew : goal.returns-clause-anew
returns-clause-anew c = λ format prefix rest byte other. divided_anew (replacement_of format) prefix rest byte other

pub returns-clause-lines : goal.returns-clause-lines
returns-clause-lines c = rewritten_lines
