use Rattle.std.proofs.Common.{◌≡◌, ℕ, ◌<◌, ◌≤◌, length, nat_eq, nat_lt, ◌&&◌, ◌||◌, List, [], ◌∷◌, refl, arith, slice_index_or}
use Rattle.demangle_value.specs.Tried.{is_v0_run}
use Rattle.demangle_value.proofs.value.printing.starts_as_v0.Goals as goal

-- a run of more than two bytes
long : (s : List ℕ) → 2 < length s →
    (nat_eq (slice_index_or s 1 0) 82 || (nat_eq (slice_index_or s 1 0) 95 && nat_eq (slice_index_or s 2 0) 82)) ≡ is_v0_run s
long [] more = absurd (omega (arith, more))
long (a ∷ []) more = absurd (omega (arith, more))
long (a ∷ b ∷ []) more = absurd (omega (arith, more))
long (a ∷ b ∷ c ∷ s) more = refl

-- a run of at most two bytes
short : (s : List ℕ) → length s ≤ 2 → nat_lt 2 (length s) ≡ is_v0_run s
short [] most = refl
short (a ∷ []) most = refl
short (a ∷ b ∷ []) most = refl
short (a ∷ b ∷ c ∷ s) most = absurd (omega (arith, most))

pub returns-then-run-gt2 : goal.returns-then-run-gt2
returns-then-run-gt2 c = long c.args.run.now c.if-run-gt2.true

pub returns-else-run-gt2 : goal.returns-else-run-gt2
returns-else-run-gt2 c = short c.args.run.now c.if-run-gt2.false
