-- A symbol without its suffix of ThinLTO is a prefix of it.
use Rattle.std.proofs.Common.{◌≡◌, ℕ, List, length, take, ap, ◌∙◌}
use Rattle.std.proofs.Math.Seq.{take-append_seam}
use Rattle.demangle_value.specs.Stripped.{stripped}
use Rattle.demangle_value.proofs.Stripping.{stripped_prefix}

pub stripped_take : (s : List ℕ) → take (length (stripped s)) s ≡ stripped s
stripped_take s =
    let prefix = stripped_prefix s in
    ap (take (length (stripped s))) prefix.1 ∙ take-append_seam (stripped s) prefix.0
