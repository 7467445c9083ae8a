-- The number of lines that a loop over a reader's lines has counted.
use Rattle.std.proofs.Common.{◌≡◌, ℕ, ◌+◌, ◌<◌, List, [], Option, Some, None, IfSome, length, refl, ap, subst, ◌∙◌, arith}
use Rattle.std.specs.Prelude.{⊤}
use Rattle.std.proofs.lemmas.Option.{MatchOption-at_some}
use Rattle.std.specs.Io.BufRead.{first_line, drop_through, DropsThrough}
use Rattle.std.specs.Io.Iter.{u64_saturate}
use Rattle.std.specs.Io.KnownBytes.{IsAtEnd}
use Rattle.rustc_demangle.specs.Lines.{lines}
use Rattle.rustc_demangle.proofs.LineDivision.{lines_step}

-- this number of lines of the reader's text was counted, and the others are left
abbrev pub Counting : Option (List ℕ) → Option (List ℕ) → ℕ → Type 0
Counting held left count = IfSome held (λ text. (rest : List ℕ) × (done : ℕ) × (left ≡ Some rest)
    × (done + length (lines rest) ≡ length (lines text)) × (count ≡ u64_saturate done))

pub counting_init : (held left : Option (List ℕ)) → left ≡ held → Counting held left 0
counting_init None left same = tt
counting_init (Some text) left same = (text, 0, same, omega arith, refl)

one_more : (n : ℕ) → u64_saturate (u64_saturate n + 1) ≡ u64_saturate (n + 1)
one_more n = omega arith

pub counting_step : (held left next : Option (List ℕ)) (line : List ℕ) (count : ℕ) → Counting held left count
    → IfSome left (λ xs. (0 < length xs) × (line ≡ first_line xs)) × DropsThrough left next 10
    → Counting held next (u64_saturate (count + 1))
counting_step None left next line count p read = tt
counting_step (Some text) left next line count p read =
    let more = (MatchOption-at_some ⊤ (λ xs. (0 < length xs) × (line ≡ first_line xs)) p.0 p.2 read.0).0 in (
      drop_through 10 p.0,
      p.1 + 1,
      MatchOption-at_some ⊤ (λ xs. next ≡ Some (drop_through 10 xs)) p.0 p.2 read.1,
      omega (arith, p.3, ap length (lines_step p.0 more)),
      ap (λ n. u64_saturate (n + 1)) p.4 ∙ one_more p.1,
    )

pub counting_end : (held left : Option (List ℕ)) (count : ℕ) → Counting held left count → IsAtEnd left
    → IfSome held (λ text. count ≡ u64_saturate (length (lines text)))
unfolding lines
counting_end None left count p over = tt
counting_end (Some text) left count p over =
    let none : p.0 ≡ [] = subst IsAtEnd p.2 over in
    p.4 ∙ ap u64_saturate (omega (arith, p.3, ap (λ l. length (lines l)) none))
