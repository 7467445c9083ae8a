-- The limits of a format on what one text prints.
use Rattle.std.specs.Prelude.{ℕ, ◌*◌, ◌-◌, Option, None, Some}
use Prim.Native.Nat.{min}
use Rattle.demangle_value.specs.declared.format.Format.{Format}
use Rattle.demangle_value.specs.declared.format.TextFormat.{TextFormat}
use Rattle.demangle_value.specs.declared.format.SizeLimit.{SizeLimit}
use Rattle.demangle_value.specs.declared.format.SizeLimit.TheVariants as size
use Rattle.demangle_value.specs.declared.format.RereadLimit.{RereadLimit}
use Rattle.demangle_value.specs.declared.format.RereadLimit.TheVariants as reread

-- the default limit
abbrev pub most_bytes : ℕ
most_bytes = 1000000

-- the most bytes of the path of a text of n bytes
abbrev pub bytes_within : SizeLimit → (n : ℕ) → ℕ
bytes_within (size.Bytes k) n = k
bytes_within size.Linear n = min most_bytes (999 * n - 20)

-- the most bytes that are read again for a text of n bytes, if their number is limited
abbrev pub reread_within : RereadLimit → (n : ℕ) → Option ℕ
reread_within reread.Unlimited n = None
reread_within (reread.Bytes k) n = Some k
reread_within reread.Linear n = Some (min 384000000 (384 * n))

-- the format of a text of n bytes
abbrev pub text_format : Format → (n : ℕ) → TextFormat
text_format format n = record { form = format.form; limit = bytes_within format.limit n; reread = reread_within format.reread n }
