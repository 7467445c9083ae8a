-- The suffix starts after one path or two.
use Rattle.std.proofs.Common.{◌≡◌, ℕ, ◌+◌, true, false, Some, None, List, refl, sym}
use Rattle.demangle_v0_grammar.specs.Items.{a_path}
use Rattle.demangle_v0_grammar.specs.Reading.{read_at, unit_end, suffix_place, starts_second_path}
use Rattle.demangle_v0_grammar.specs.ValidationLooks.{looks_in, suffix_looks, accepting_looks}

-- The suffix.

pub suffix_none : (b : List ℕ) → None ≡ unit_end b a_path 0 0 → (suffix_place b ≡ None) × (accepting_looks b ≡ looks_in (read_at b false false a_path 0 0 0 true) + 0)
unfolding suffix_place accepting_looks unit_end
suffix_none b e = (rw (sym e) refl, rw (sym e) refl)

pub suffix_one : (b : List ℕ) (j : ℕ) → Some j ≡ unit_end b a_path 0 0 → starts_second_path b j ≡ false → (suffix_place b ≡ Some j) × (accepting_looks b ≡ looks_in (read_at b false false a_path 0 0 0 true) + (1 + suffix_looks b (Some j)))
unfolding suffix_place accepting_looks unit_end
suffix_one b j e g = (rw (sym e, g) refl, rw (sym e, g) refl)

pub suffix_two : (b : List ℕ) (j : ℕ) → Some j ≡ unit_end b a_path 0 0 → starts_second_path b j ≡ true
    → (suffix_place b ≡ unit_end b a_path j 0) × (accepting_looks b ≡ looks_in (read_at b false false a_path 0 0 0 true) + (1 + (looks_in (read_at b false false a_path j 0 0 true) + suffix_looks b (unit_end b a_path j 0))))
unfolding suffix_place accepting_looks unit_end
suffix_two b j e g = (rw (sym e, g) refl, rw (sym e, g) refl)
