-- Internal: no public contract cites this.
-- The looks of printing with a linear limit of the bytes that are read again.
use Rattle.std.specs.Prelude.{◌≡◌, ℕ, ◌+◌, ◌*◌, ◌≤◌}
use Rattle.demangle_value.specs.declared.format.Format.{Format}
use Rattle.demangle_value.specs.declared.format.RereadLimit.TheVariants as reread

-- With that limit, the looks of printing a symbol of n bytes so many times.
abbrev pub PrintsLinear : Format → (times n : ℕ) → (old new : ℕ) → Type 0
PrintsLinear format times n old new = format.reread ≡ reread.Linear → new ≤ old + times * (20 * (n + 1 + 384 * n))
