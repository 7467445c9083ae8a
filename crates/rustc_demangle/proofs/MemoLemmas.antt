-- Filters whose memo has the same value.
use Rattle.std.proofs.Common.{◌≡◌, ℕ, List, [], Some, IfSome, Result, OnOk, IfErr, subst}
use Rattle.std.specs.Io.KnownBytes.{Appends}
use Rattle.rustc_demangle.specs.Rewritten.{rewritten_after, rewritten_in}
use Rattle.std.specs.declared.option.Option.{Option}
use Rattle.rustc_demangle.specs.ByteStream.{Unwritten, from_start, StepFiltered, StepFinished, BytesStopped}
use Rattle.rustc_demangle.specs.declared.stream.fault.StreamFault.{StreamFault}
use Rattle.demangle_value.specs.declared.format.Format.{Format}

-- a step with a memo of the same value
pub took_same : (m n : Format) (pending next : Unwritten) (left rest old new : Option (List ℕ)) → m ≡ n → StepFiltered (rewritten_after m) pending next left rest old new
    → StepFiltered (rewritten_after n) pending next left rest old new
took_same m n pending next left rest old new same = subst (λ (v : Format). StepFiltered (rewritten_after v) pending next left rest old new) same

pub ended_same : (m n : Format) (pending next : Unwritten) (left rest old new : Option (List ℕ)) → m ≡ n → StepFinished (rewritten_after m) pending next left rest old new
    → StepFinished (rewritten_after n) pending next left rest old new
ended_same m n pending next left rest old new same = subst (λ (v : Format). StepFinished (rewritten_after v) pending next left rest old new) same

-- a whole input with a memo of the same value
pub whole_same : (m n : Format) (r : Result (Unit {0}) StreamFault) (held left old new : Option (List ℕ)) → m ≡ n
    → OnOk r (IfSome held (λ text. (left ≡ Some []) × Appends old new (rewritten_in m text))) → OnOk r (IfSome held (λ text. (left ≡ Some []) × Appends old new (rewritten_in n text)))
whole_same m n r held left old new same = subst (λ (v : Format). OnOk r (IfSome held (λ text. (left ≡ Some []) × Appends old new (rewritten_in v text)))) same

pub stopped_same : (m n : Format) (r : Result (Unit {0}) StreamFault) (held old new : Option (List ℕ)) → m ≡ n
    → IfErr r (λ fault. IfSome held (λ text. BytesStopped (rewritten_after m) fault (from_start text) old new)) → IfErr r (λ fault. IfSome held (λ text. BytesStopped (rewritten_after n) fault (from_start text) old new))
stopped_same m n r held old new same = subst (λ (v : Format). IfErr r (λ fault. IfSome held (λ text. BytesStopped (rewritten_after v) fault (from_start text) old new))) same
