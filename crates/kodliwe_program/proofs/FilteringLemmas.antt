-- The steps of the filter over one text.
use Rattle.std.proofs.Common.{◌≡◌, ℕ, zero, ◌++◌, Bool, List, [], None, Some, IfSome, Ok, Err, IfErr, refl, sym, ap, subst, ◌∙◌, length, arith}
use Rattle.std.specs.declared.option.Option.{Option}
use Rattle.std.specs.declared.result.Result.{Result}
use Rattle.std.specs.declared.io.Error.{Error}
use Rattle.std.specs.Bool.{⊤}
use Rattle.std.specs.Io.KnownBytes.{Appends, Keeps}
use Rattle.std.proofs.lemmas.Option.{MatchOption-at_some}
use Rattle.rustc_demangle.specs.Rewritten.{rewritten_by, rewritten_after}
use Rattle.rustc_demangle.specs.declared.byte_before.ByteBefore.TheVariants.{Outside}
use Rattle.demangle_value.specs.declared.format.Format.{Format}
use Rattle.rustc_demangle.specs.ByteStream.{Unwritten, from_start, followed_by, FilteredPrefix, IsWriting, StepFiltered, StepFinished, StepFailed, BytesStopped}
use Rattle.rustc_demangle.specs.declared.stream.fault.StreamFault.{StreamFault}
use Rattle.rustc_demangle.specs.declared.stream.fault.StreamFault.TheVariants.{Read, NotUtf8, Write, Memory}
use Rattle.rustc_demangle.proofs.ByteStreamLemmas.{Passing, passed_none, passed_trans}
use Rattle.demangle_symbol.specs.declared.cursor.looks.RunLooks.{RunLooks}
use Rattle.rustc_demangle.specs.LinearLooks.{LooksLinear, NoLooksUnread, StepPaid, all_looks}
use Rattle.kodliwe_program.specs.Filtering.{FlushStepFiltered}

-- bytes that were appended after a flush were appended since before it
kept_appends : (a b c : Option (List ℕ)) (bs : List ℕ) → Keeps a b → Appends b c bs → Appends a c bs
kept_appends None b c bs p q = tt
kept_appends (Some x) None c bs p q = absurd p
kept_appends (Some x) (Some y) None bs p q = absurd q
kept_appends (Some x) (Some y) (Some z) bs p q = q ∙ ap (λ l. l ++ bs) p

passed_later : (f : List ℕ → List ℕ) (held left : Unwritten) (old mid new : Option (List ℕ)) → Keeps old mid → FilteredPrefix (rewritten_by f zero) held left mid new → FilteredPrefix (rewritten_by f zero) held left old new
passed_later f held left old mid new keeps q =
    record { prefix = q.prefix; whole = q.whole; last = q.last; uncut = q.uncut; wrote = kept_appends old mid new (rewritten_by f zero held.before q.prefix) keeps q.wrote }

-- a step after a flush
pub took_later : (f : List ℕ → List ℕ) (pending next : Unwritten) (left rest old mid new : Option (List ℕ)) → Keeps old mid → FlushStepFiltered (rewritten_by f zero) pending next left rest mid new
    → FlushStepFiltered (rewritten_by f zero) pending next left rest old new
took_later f pending next None rest old mid new keeps took = tt
took_later f pending next (Some xs) rest old mid new keeps took = (took.0, took.1, passed_later f _ _ old mid new keeps took.2)

pub ended_later : (f : List ℕ → List ℕ) (pending next : Unwritten) (left rest old mid new : Option (List ℕ)) → Keeps old mid → StepFinished (rewritten_by f zero) pending next left rest mid new
    → StepFinished (rewritten_by f zero) pending next left rest old new
ended_later f pending next left rest old mid new keeps ended = (ended.0, ended.1, kept_appends old mid new _ keeps ended.2)

-- a step that failed after a flush: nothing was filtered in this iteration
pub refused_later : (fault : StreamFault) (f : List ℕ → List ℕ) (pending next : Unwritten) (left rest old mid new : Option (List ℕ)) → Keeps old mid
    → StepFailed fault pending next left rest mid new → IfSome left (λ xs. BytesStopped (rewritten_by f zero) fault (followed_by pending xs) old new)
refused_later fault f pending next None rest old mid new keeps refused = tt
refused_later (Read e) f pending next (Some xs) rest old mid new keeps refused =
    (refused.0, followed_by pending xs, passed_later f _ _ old mid new keeps (subst (λ w. FilteredPrefix (rewritten_by f zero) (followed_by pending xs) (followed_by pending xs) mid w) (sym refused.3) (passed_none f _ _ mid refl)))
refused_later NotUtf8 f pending next (Some xs) rest old mid new keeps refused = absurd refused
refused_later (Write e) f pending next (Some xs) rest old mid new keeps refused = tt
refused_later Memory f pending next (Some xs) rest old mid new keeps refused =
    (followed_by pending xs, passed_later f _ _ old mid new keeps (subst (λ w. FilteredPrefix (rewritten_by f zero) (followed_by pending xs) (followed_by pending xs) mid w) (sym refused.2) (passed_none f _ _ mid refl)))

pub turn_refused : (r : Result Bool StreamFault) (f : List ℕ → List ℕ) (pending next : Unwritten) (left rest old mid new : Option (List ℕ)) → Keeps old mid
    → IfErr r (λ fault. StepFailed fault pending next left rest mid new) → IfErr r (λ fault. IfSome left (λ xs. BytesStopped (rewritten_by f zero) fault (followed_by pending xs) old new))
turn_refused (Ok b) f pending next left rest old mid new keeps refused = tt
turn_refused (Err fault) f pending next left rest old mid new keeps refused = refused_later fault f pending next left rest old mid new keeps refused

-- a flush that failed
pub writing_stopped : (fault : StreamFault) (f : List ℕ → List ℕ) (pending : Unwritten) (left old new : Option (List ℕ)) → IsWriting fault
    → IfSome left (λ xs. BytesStopped (rewritten_by f zero) fault (followed_by pending xs) old new)
writing_stopped fault f pending None old new w = tt
writing_stopped (Read e) f pending (Some xs) old new w = absurd w
writing_stopped NotUtf8 f pending (Some xs) old new w = absurd w
writing_stopped (Write e) f pending (Some xs) old new w = tt
writing_stopped Memory f pending (Some xs) old new w = absurd w

kept_some : (left rest : Option (List ℕ)) (text : List ℕ) → left ≡ Some text → Keeps left rest → rest ≡ Some text
kept_some None rest text e keeps = absurd (subst (λ o. IsNoText o) e tt)
  where
    IsNoText : Option (List ℕ) → Type 0
    IsNoText None = Unit {0}
    IsNoText (Some x) = ⊥
kept_some (Some xs) None text e keeps = absurd keeps
kept_some (Some xs) (Some ys) text e keeps = ap Some keeps ∙ e

-- a step whose reader failed used nothing
pub took_none : (fault : Error) (f : List ℕ → List ℕ) (pending next : Unwritten) (left rest old new : Option (List ℕ)) → StepFailed (Read fault) pending next left rest old new
    → FlushStepFiltered (rewritten_by f zero) pending next left rest old new
took_none fault f pending next None rest old new refused = tt
took_none fault f pending next (Some xs) rest old new refused = (
  xs,
  kept_some (Some xs) rest xs refl refused.2,
  subst (λ w. FilteredPrefix (rewritten_by f zero) (followed_by pending xs) (followed_by next xs) old w) (sym refused.3) (passed_none f _ _ old (ap (λ (h : Unwritten). followed_by h xs) (sym refused.1))),
)

pub took_refused : (r : Result Bool StreamFault) (fault : Error) (f : List ℕ → List ℕ) (pending next : Unwritten) (left rest old new : Option (List ℕ)) → r ≡ Err (Read fault)
    → IfErr r (λ s. StepFailed s pending next left rest old new) → FlushStepFiltered (rewritten_by f zero) pending next left rest old new
took_refused r fault f pending next left rest old new e refused =
    took_none fault f pending next left rest old new (subst (λ q. IfErr q (λ s. StepFailed s pending next left rest old new)) e refused)

-- a step of the filter is an iteration
pub step_turn : (f : List ℕ → List ℕ) (pending next : Unwritten) (left rest old new : Option (List ℕ)) → StepFiltered (rewritten_by f zero) pending next left rest old new
    → FlushStepFiltered (rewritten_by f zero) pending next left rest old new
step_turn f pending next None rest old new took = tt
step_turn f pending next (Some xs) rest old new took = (took.0, took.1, took.2)

pub passing_turn : (f : List ℕ → List ℕ) (held : Option (List ℕ)) (pending next : Unwritten) (left rest old mid new : Option (List ℕ)) → Passing f held pending left old mid
    → FlushStepFiltered (rewritten_by f zero) pending next left rest mid new → Passing f held next rest old new
passing_turn f None pending next left rest old mid new p took = tt
passing_turn f (Some text) pending next left rest old mid new p took =
    let q = MatchOption-at_some ⊤ (λ xs. (ys : List ℕ) × (rest ≡ Some ys) × FilteredPrefix (rewritten_by f zero) (followed_by pending xs) (followed_by next ys) mid new) p.0 p.1 took in
    (q.0, q.1, passed_trans f (from_start text) (followed_by pending p.0) _ old mid new p.2 q.2)

-- an iteration that stopped
pub turning_err : (fault : StreamFault) (f : List ℕ → List ℕ) (held : Option (List ℕ)) (pending : Unwritten) (left old mid new : Option (List ℕ)) → Passing f held pending left old mid
    → IfSome left (λ xs. BytesStopped (rewritten_by f zero) fault (followed_by pending xs) mid new) → IfSome held (λ text. BytesStopped (rewritten_by f zero) fault (from_start text) old new)
turning_err fault f None pending left old mid new p stopped = tt
turning_err fault f (Some text) pending left old mid new p stopped =
    at fault (MatchOption-at_some ⊤ (λ xs. BytesStopped (rewritten_by f zero) fault (followed_by pending xs) mid new) p.0 p.1 stopped)
  where
    at : (s : StreamFault) → BytesStopped (rewritten_by f zero) s (followed_by pending p.0) mid new → BytesStopped (rewritten_by f zero) s (from_start text) old new
    at (Read e) t = (t.0, t.1, passed_trans f (from_start text) (followed_by pending p.0) t.1 old mid new p.2 t.2)
    at NotUtf8 t = absurd t
    at (Write e) t = tt
    at Memory t = (t.0, passed_trans f (from_start text) (followed_by pending p.0) t.0 old mid new p.2 t.1)

-- at the end of a text, all of it was filtered
pub wrote_end : (f : List ℕ → List ℕ) (held rest old new : Option (List ℕ)) → IfSome held (λ text. (rest ≡ Some []) × Appends old new (rewritten_by f zero Outside text))
    → IfSome held (λ text. Appends old new (rewritten_by f zero Outside text))
wrote_end f None rest old new ended = tt
wrote_end f (Some text) rest old new ended = ended.1

-- nothing of a text was filtered
pub stopped_none : (f : List ℕ → List ℕ) (held old : Option (List ℕ)) → IfSome held (λ text. BytesStopped (rewritten_by f zero) Memory (from_start text) old old)
stopped_none f None old = tt
stopped_none f (Some text) old = (from_start text, passed_none f (from_start text) (from_start text) old refl)

-- an iteration with a memo of the same value
pub turn_same : (m n : Format) (pending next : Unwritten) (left rest old new : Option (List ℕ)) → m ≡ n → FlushStepFiltered (rewritten_after m) pending next left rest old new
    → FlushStepFiltered (rewritten_after n) pending next left rest old new
turn_same m n pending next left rest old new same = subst (λ (v : Format). FlushStepFiltered (rewritten_after v) pending next left rest old new) same

pub refused_same : (m n : Format) (fault : StreamFault) (pending : Unwritten) (left old new : Option (List ℕ)) → m ≡ n
    → IfSome left (λ text. BytesStopped (rewritten_after m) fault (followed_by pending text) old new)
    → IfSome left (λ text. BytesStopped (rewritten_after n) fault (followed_by pending text) old new)
refused_same m n fault pending left old new same = subst (λ (v : Format). IfSome left (λ text. BytesStopped (rewritten_after v) fault (followed_by pending text) old new)) same

pub stopped_same : (m n : Format) (fault : StreamFault) (held old new : Option (List ℕ)) → m ≡ n → IfSome held (λ text. BytesStopped (rewritten_after m) fault (from_start text) old new)
    → IfSome held (λ text. BytesStopped (rewritten_after n) fault (from_start text) old new)
stopped_same m n fault held old new same = subst (λ (v : Format). IfSome held (λ text. BytesStopped (rewritten_after v) fault (from_start text) old new)) same

-- a step whose reader was interrupted made no looks
pub interrupted_paid : (format : Format) (fault : Error) (pending next : Unwritten) (left rest out out' : Option (List ℕ)) (old new : RunLooks)
    → StepFailed (Read fault) pending next left rest out out' → NoLooksUnread (Read fault) old new → StepPaid format pending next left rest old new
interrupted_paid format fault pending next None rest out out' old new failed same = tt
interrupted_paid format fault pending next (Some xs) None out out' old new failed same = tt
interrupted_paid format fault pending next (Some xs) (Some ys) out out' old new failed same =
    λ e. omega (arith, ap length failed.2, ap (λ (u : Unwritten). length u.bytes) failed.1, ap all_looks same)

-- nothing was looked at
pub none_paid : (format : Format) (n : ℕ) (looks : RunLooks) → LooksLinear format n looks looks
none_paid format n looks = λ e. omega arith
