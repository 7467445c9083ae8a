-- Looks with a linear limit of the bytes that are read again.
use Rattle.std.specs.Prelude.{[]}
use Rattle.std.specs.Option.{option_map_or}
use Rattle.std.proofs.Common.{◌≡◌, ℕ, ◌+◌, ◌*◌, ◌≤◌, ◌<◌, List, length, take, drop, length-append, Option, Some, None, IfSome, arith, refl, ap}
use Rattle.std.proofs.lemmas.List.{length-take}
use Rattle.std.proofs.KnownBytes.{starts_with_rest}
use Rattle.std.specs.Io.{StartsWith}
use Rattle.std.specs.Io.KnownBytes.{Consumes}
use Rattle.demangle_symbol.specs.declared.cursor.looks.RunLooks.{RunLooks}
use Rattle.rustc_demangle.specs.ByteStream.{Unwritten, from_start, IsWriting}
use Rattle.rustc_demangle.specs.LinearLooks.{LooksGrow, LooksPaid, LooksLinear, NoLooksUnread, StepPaid}
use Rattle.demangle_value.specs.LinearPrinting.{PrintsLinear}
use Rattle.demangle_value.specs.declared.format.Format.{Format}
use Rattle.rustc_demangle.specs.declared.stream.fault.StreamFault.{StreamFault}
use Rattle.rustc_demangle.specs.declared.stream.fault.StreamFault.TheVariants.{Read, NotUtf8, Write, Memory}

-- No count falls.

pub grow_none : (looks : RunLooks) → LooksGrow looks looks
grow_none looks = (omega arith, omega arith)

pub grow_more : (first mid new : RunLooks) → LooksGrow first mid → LooksGrow mid new → LooksGrow first new
grow_more first mid new p q = (omega (arith, p.0, q.0), omega (arith, p.1, q.1))

-- Filtering in parts.

-- a part of what was left makes no more looks than it pays for
pub paid_step : (format : Format) (all rest part following : ℕ) (first mid new : RunLooks) → part + following ≤ rest → LooksPaid format all rest first mid → LooksLinear format part mid new → LooksPaid format all following first new
paid_step format all rest part following first mid new within p q = λ e. omega (arith, within, p e, q e)

-- the same if what is left is not filtered
pub paid_lost : (format : Format) (all rest part : ℕ) (first mid new : RunLooks) → part ≤ rest → LooksPaid format all rest first mid → LooksLinear format part mid new → LooksLinear format all first new
paid_lost format all rest part first mid new within p q = λ e. omega (arith, within, p e, q e)

pub paid_all : (format : Format) (all rest : ℕ) (first mid : RunLooks) → LooksPaid format all rest first mid → LooksLinear format all first mid
paid_all format all rest first mid p = λ e. omega (arith, p e)

-- reading and printing a run
pub run_linear : (format : Format) (n : ℕ) (old new : RunLooks) → 0 < n → new.accepting_looks ≤ old.accepting_looks + 213 * (n + 1) → PrintsLinear format 3 n old.printing_looks new.printing_looks → LooksLinear format n old new
run_linear format n old new some most prints = λ e. omega (arith, some, most, prints e)

pub prints_again : (format : Format) (n old mid new : ℕ) → PrintsLinear format 1 n old mid → PrintsLinear format 1 n mid new → PrintsLinear format 2 n old new
prints_again format n old mid new p q = λ e. omega (arith, p e, q e)

pub prints_once : (format : Format) (n old new : ℕ) → PrintsLinear format 1 n old new → PrintsLinear format 3 n old new
prints_once format n old new p = λ e. omega (arith, p e)

-- Steps of a filter.

-- one step, by the available bytes and the number of those that were used
pub step_paid : (format : Format) (a next available : List ℕ) (n : ℕ) (left rest : Option (List ℕ)) (old new : RunLooks) → n ≤ length available → Consumes left rest (take n available)
    → LooksPaid format (length a + n) (length next) old new → IfSome left (λ xs. IfSome rest (λ ys. LooksPaid format (length a + length xs) (length next + length ys) old new))
step_paid format a next available n None rest old new within took p = tt
step_paid format a next available n (Some xs) None old new within took p = tt
step_paid format a next available n (Some xs) (Some ys) old new within took p = λ e. omega (arith, within, p e, ap length took, length-append (take n available) ys, length-take n available)

-- the same if what is left is not filtered
pub step_lost : (format : Format) (a available : List ℕ) (left : Option (List ℕ)) (old new : RunLooks) → IfSome left (λ xs. StartsWith xs available)
    → LooksLinear format (length a + length available) old new → IfSome left (λ xs. LooksLinear format (length a + length xs) old new)
step_lost format a available None old new front p = tt
step_lost format a available (Some xs) old new front p = λ e. omega (arith, p e, ap length (starts_with_rest xs available front), length-append available (drop (length available) xs))

-- the last step, which only filters what is pending
pub end_linear : (format : Format) (n : ℕ) (left : Option (List ℕ)) (old new : RunLooks) → LooksLinear format n old new → IfSome left (λ xs. LooksLinear format (n + length xs) old new)
end_linear format n None old new p = tt
end_linear format n (Some xs) old new p = λ e. omega (arith, p e)

-- the same of what is left
pub end_paid : (format : Format) (n : ℕ) (next : Unwritten) (left rest : Option (List ℕ)) (old new : RunLooks) → IfSome left (λ xs. (xs ≡ []) × (rest ≡ Some [])) → next ≡ from_start []
    → LooksLinear format n old new → IfSome left (λ xs. IfSome rest (λ ys. LooksPaid format (n + length xs) (length next.bytes + length ys) old new))
end_paid format n next None rest old new ended none p = tt
end_paid format n next (Some xs) None old new ended none p = tt
end_paid format n next (Some xs) (Some ys) old new ended none p =
    λ e. omega (arith, p e, ap (λ (o : Option (List ℕ)). option_map_or length o 0) ended.1, ap (λ (u : Unwritten). length u.bytes) none)

-- if the contents of the whole input are known, so are those that are left
abbrev pub BothKnown : (held left : Option (List ℕ)) → Type 0
BothKnown held left = IfSome held (λ _. (xs : List ℕ) × (left ≡ Some xs))

some_none : (xs : List ℕ) → None ≡ Some xs → ⊥
some_none xs e = cc

pub paid_first : (format : Format) (pending : Unwritten) (held : Option (List ℕ)) (looks : RunLooks) → pending ≡ from_start [] → StepPaid format (from_start []) pending held held looks looks
paid_first format pending None looks same = tt
paid_first format pending (Some xs) looks same = λ e. omega (arith, ap (λ (u : Unwritten). length u.bytes) same)

pub paid_join : (format : Format) (a b c : Unwritten) (held left rest : Option (List ℕ)) (first mid new : RunLooks) → BothKnown held left → StepPaid format a b held left first mid → StepPaid format b c left rest mid new → StepPaid format a c held rest first new
paid_join format a b c None left rest first mid new both p q = tt
paid_join format a b c (Some xs) None rest first mid new both p q = absurd (some_none both.0 both.1)
paid_join format a b c (Some xs) (Some ys) None first mid new both p q = tt
paid_join format a b c (Some xs) (Some ys) (Some zs) first mid new both p q = λ e. omega (arith, p e, q e)

pub paid_last : (format : Format) (b : Unwritten) (held left : Option (List ℕ)) (first mid new : RunLooks) → BothKnown held left → StepPaid format (from_start []) b held left first mid
    → IfSome left (λ xs. LooksLinear format (length b.bytes + length xs) mid new) → IfSome held (λ text. LooksLinear format (length text) first new)
paid_last format b None left first mid new both p q = tt
paid_last format b (Some xs) None first mid new both p q = absurd (some_none both.0 both.1)
paid_last format b (Some xs) (Some ys) first mid new both p q = λ e. omega (arith, p e, q e)

pub paid_stop : (format : Format) (b : Unwritten) (held left : Option (List ℕ)) (first mid : RunLooks) → BothKnown held left → StepPaid format (from_start []) b held left first mid → IfSome held (λ text. LooksLinear format (length text) first mid)
paid_stop format b None left first mid both p = tt
paid_stop format b (Some xs) None first mid both p = absurd (some_none both.0 both.1)
paid_stop format b (Some xs) (Some ys) first mid both p = λ e. omega (arith, p e)

-- Errors.

pub no_looks : (fault : StreamFault) (looks : RunLooks) → NoLooksUnread fault looks looks
no_looks (Read e) looks = refl
no_looks NotUtf8 looks = refl
no_looks (Write e) looks = tt
no_looks Memory looks = refl

pub writing_unread : (fault : StreamFault) (old new : RunLooks) → IsWriting fault → NoLooksUnread fault old new
writing_unread (Read e) old new is = absurd is
writing_unread NotUtf8 old new is = absurd is
writing_unread (Write e) old new is = tt
writing_unread Memory old new is = absurd is
