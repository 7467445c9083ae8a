use Rattle.demangle_laws.proofs.StripLaws.{stripped-cut, stripped-whole}
use Rattle.demangle_value.proofs.Stripping.{stripped-stripped}
use Rattle.demangle_laws.proofs.printing.stripped_is_cut_once.Goals as goal

pub returns-clause-cut : goal.returns-clause-cut
returns-clause-cut c = stripped-cut

pub returns-clause-whole : goal.returns-clause-whole
returns-clause-whole c = stripped-whole

pub returns-clause-twice : goal.returns-clause-twice
returns-clause-twice c = stripped-stripped
