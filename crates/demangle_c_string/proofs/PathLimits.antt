-- The limit of a path is at most the default one.
use Rattle.std.proofs.Common.{◌≡◌, ℕ, ◌-◌, ◌*◌, ◌≤◌, List, length, subst, sym}
use Rattle.std.proofs.Math.Nat.{min-le_left, min-le_right}
use Rattle.demangle_value.specs.Limits.{most_bytes, bytes_within}
use Rattle.demangle_value.specs.Symbols.{limit_in}
use Rattle.demangle_value.specs.declared.format.Format.{Format}
use Rattle.demangle_value.specs.declared.format.SizeLimit.{SizeLimit}
use Rattle.demangle_value.specs.declared.format.SizeLimit.TheVariants as size
use Rattle.demangle_c_string.specs.CString.{at_most_default, capped}

within_default : (limit : SizeLimit) (n : ℕ) → bytes_within (at_most_default limit) n ≤ most_bytes
within_default (size.Bytes k) n = min-le_right k most_bytes
within_default size.Linear n = min-le_left most_bytes (999 * n - 20)

pub capped_limit : (format given : Format) (text : List ℕ) → format ≡ capped given → limit_in format text ≤ most_bytes
capped_limit format given text e = subst (λ (f : Format). limit_in f text ≤ most_bytes) (sym e) (within_default given.limit (length text))
