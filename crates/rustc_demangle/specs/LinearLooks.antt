-- The looks of filtering with a linear limit of the bytes that are read again.
use Rattle.std.specs.Prelude.{◌≡◌, ℕ, ◌+◌, ◌*◌, ◌≤◌, List, length, IfSome}
use Rattle.std.specs.declared.option.Option.{Option}
use Rattle.demangle_symbol.specs.declared.cursor.looks.RunLooks.{RunLooks}
use Rattle.rustc_demangle.specs.ByteStream.{Unwritten}
use Rattle.demangle_value.specs.declared.format.Format.{Format}
use Rattle.demangle_value.specs.declared.format.RereadLimit.TheVariants as reread
use Rattle.rustc_demangle.specs.declared.stream.fault.StreamFault.{StreamFault}
use Rattle.rustc_demangle.specs.declared.stream.fault.StreamFault.TheVariants.{Read, NotUtf8, Write, Memory}

-- the looks that decide whether runs are symbols, and those of printing
abbrev pub all_looks : RunLooks → ℕ
all_looks looks = looks.accepting_looks + looks.printing_looks

-- no count fell
abbrev pub LooksGrow : (old new : RunLooks) → Type 0
LooksGrow old new = (old.accepting_looks ≤ new.accepting_looks) × (old.printing_looks ≤ new.printing_looks)

-- the most looks for each byte that is filtered
abbrev pub looks_a_byte : ℕ
looks_a_byte = 60 * (1 + 384) + 486

-- With that limit, the looks are paid for by the bytes that were filtered: `old_bytes` were left to
-- filter, and `new_bytes` are.
abbrev pub LooksPaid : Format → (old_bytes new_bytes : ℕ) → (old new : RunLooks) → Type 0
LooksPaid format old_bytes new_bytes old new = format.reread ≡ reread.Linear → all_looks new + looks_a_byte * new_bytes ≤ all_looks old + looks_a_byte * old_bytes

-- the same for n bytes, of which none are left
abbrev pub LooksLinear : Format → (n : ℕ) → (old new : RunLooks) → Type 0
LooksLinear format n old new = LooksPaid format n 0 old new

-- the same for a step, whose pending bytes were `pending` and are `next`, and whose input was `left` and is `rest`
abbrev pub StepPaid : Format → (pending next : Unwritten) → (left rest : Option (List ℕ)) → (old new : RunLooks) → Type 0
StepPaid format pending next left rest old new = IfSome left (λ xs. IfSome rest (λ ys. LooksPaid format (length pending.bytes + length xs) (length next.bytes + length ys) old new))

-- after an error of the reader or a failed allocation, no more looks were made
abbrev pub NoLooksUnread : StreamFault → (old new : RunLooks) → Type 0
NoLooksUnread (Read e) old new = new ≡ old
NoLooksUnread NotUtf8 old new = new ≡ old
NoLooksUnread (Write e) old new = Unit {0}
NoLooksUnread Memory old new = new ≡ old
