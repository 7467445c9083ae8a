-- The looks of printing with a linear limit of the bytes that are read again.
use Prim.Native.Nat.{min}
use Rattle.std.proofs.Common.{◌≡◌, ℕ, ◌+◌, ◌*◌, ◌≤◌, List, length, Some, arith, ap}
use Rattle.std.proofs.Math.Nat.{min-le_right}
use Rattle.demangle_value.specs.Limits.{reread_within, text_format}
use Rattle.demangle_value.specs.LinearPrinting.{PrintsLinear}
use Rattle.demangle_value.specs.Stripped.{stripped}
use Rattle.demangle_value.specs.Symbols.{PrintingLooksIn}
use Rattle.demangle_value.specs.declared.format.Format.{Format}
use Rattle.demangle_value.proofs.Stripping.{stripped-shorter}

-- the bytes of a text of n bytes that are read again bound the looks of printing it, and so do those of a longer one
pub few_linear : (format : Format) (n m old new : ℕ) → n ≤ m → ((k : ℕ) → (text_format format n).reread ≡ Some k → new ≤ old + 20 * (n + 1 + k)) → PrintsLinear format 1 m old new
few_linear format n m old new within few = λ e.
    let low : min 384000000 (384 * n) ≤ 384 * n = min-le_right 384000000 (384 * n) in
    let some : new ≤ old + 20 * (n + 1 + min 384000000 (384 * n)) = few (min 384000000 (384 * n)) (ap (λ r. reread_within r n) e) in
    omega (arith, some, low, within)

pub prints_linear : (format : Format) (text run : List ℕ) (old new : ℕ) → text ≡ stripped run → PrintingLooksIn text format old new → PrintsLinear format 1 (length run) old new
prints_linear format text run old new same looks = few_linear format (length text) (length run) old new (omega (arith, ap length same, stripped-shorter run)) looks.few
