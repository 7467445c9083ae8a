-- The looks at the parts of an output, written in sequence.
use Rattle.std.proofs.Common.{◌≡◌, ◌+◌, ◌*◌, ◌≤◌, List, [], ◌∷◌, IfSome, subst, arith}
use Rattle.std.specs.declared.option.Option.{Option}
use Rattle.std.specs.Bool.{⊤}
use Rattle.std.proofs.lemmas.Option.{MatchOption-at_some}
use Rattle.demangle_symbol.specs.declared.cursor.looks.RunLooks.{RunLooks}
use Rattle.rustc_demangle.specs.LinearLooks.{LooksGrow, all_looks}
use Rattle.rustc_demangle.proofs.LinearLooks.{grow_none, grow_more}
use Rattle.demangle_value.specs.declared.format.Format.{Format}
use Rattle.demangle_value.specs.declared.format.RereadLimit.TheVariants as reread
use Rattle.kodliwe_program.specs.Parts.{PartText, Remain}
use Rattle.kodliwe_program.specs.ProgramLooks.{part_len, total_len, LooksAt, LooksAtParts}

-- the looks so far are paid for by the parts that were written, of which `held` are left
pub record LooksLeft (format : Format) (all held : List (Option PartText)) (old now : RunLooks) : Type 0 where
  pub grows : LooksGrow old now
  pub paid : (xs : List PartText) → Remain all xs
      → (rest : List PartText) × Remain held rest × (format.reread ≡ reread.Linear → all_looks now + 23650 * total_len rest ≤ all_looks old + 23650 * total_len xs)

pub looks_init : (format : Format) (all held : List (Option PartText)) (old now : RunLooks) → all ≡ held → old ≡ now → LooksLeft format all held old now
looks_init format all held old now e same =
    subst (λ l. LooksLeft format all l old now) e (subst (λ (looks : RunLooks). LooksLeft format all all old looks) same (record { grows = grow_none old; paid = λ xs is. (xs, is, λ _. omega arith) }))

-- a part was written, or a part of it
pub looks_step : (format : Format) (all now : List (Option PartText)) (first : Option PartText) (held : List (Option PartText)) (old mid new : RunLooks)
    → LooksLeft format all now old mid → now ≡ first ∷ held → LooksGrow mid new → IfSome first (λ x. LooksAt format (part_len x) mid new) → LooksLeft format all held old new
looks_step format all now first held old mid new inv e grows looked = record {
  grows = grow_more old mid new inv.grows grows;
  paid = λ xs is.
      let p = inv.paid xs is in at xs p.0 (subst (λ l. Remain l p.0) e p.1) p.2;
}
  where
    at : (xs rest : List PartText) → Remain (first ∷ held) rest → (format.reread ≡ reread.Linear → all_looks mid + 23650 * total_len rest ≤ all_looks old + 23650 * total_len xs)
        → (rest : List PartText) × Remain held rest × (format.reread ≡ reread.Linear → all_looks new + 23650 * total_len rest ≤ all_looks old + 23650 * total_len xs)
    at xs [] are before = absurd are
    at xs (x ∷ rest) are before =
        let more : LooksAt format (part_len x) mid new = MatchOption-at_some ⊤ (λ y. LooksAt format (part_len y) mid new) x are.0 looked in
        (rest, are.1, λ l. omega (arith, before l, more l))

pub looks_end : (format : Format) (all held : List (Option PartText)) (old now : RunLooks) → LooksLeft format all held old now → LooksAtParts format all old now
looks_end format all held old now inv = λ xs is l. let p = inv.paid xs is in omega (arith, p.2 l)

pub looks_stop : (format : Format) (all now : List (Option PartText)) (first : Option PartText) (held : List (Option PartText)) (old mid new : RunLooks)
    → LooksLeft format all now old mid → now ≡ first ∷ held → LooksGrow mid new → IfSome first (λ x. LooksAt format (part_len x) mid new) → LooksAtParts format all old new
looks_stop format all now first held old mid new inv e grows looked = looks_end format all held old new (looks_step format all now first held old mid new inv e grows looked)
