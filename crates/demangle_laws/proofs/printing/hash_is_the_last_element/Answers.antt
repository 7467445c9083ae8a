use Rattle.demangle_value.proofs.PrintingLaws.{hash-last}
use Rattle.demangle_laws.proofs.printing.hash_is_the_last_element.Goals as goal

pub returns : goal.returns
returns c = hash-last
