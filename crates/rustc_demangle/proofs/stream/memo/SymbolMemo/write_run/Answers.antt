use Rattle.std.proofs.Common.{◌≡◌, sym, subst}
use Rattle.demangle_value.specs.Filtered.{replacement_in}
use Rattle.demangle_value.specs.declared.format.Format.{Format}
use Rattle.text_memo.specs.Memo.{Remembers, IsSmall}
use Rattle.text_memo.specs.declared.TextMemo.{TextMemo}
use Rattle.rustc_demangle.proofs.stream.memo.SymbolMemo.write_run.Goals as goal
use Rattle.rustc_demangle.proofs.stream.memo.SymbolMemo.write_run.Goals.{then-matches, else-matches}

-- the same texts of the same format
same_texts : (f g : Format) (old new : TextMemo) → g ≡ f → new ≡ old → Remembers (replacement_in f) old → Remembers (replacement_in g) new
same_texts f g old new same texts r = subst (λ h. Remembers (replacement_in h) new) (sym same) (subst (λ t. Remembers (replacement_in f) t) (sym texts) r)

pub remember-requires-clause-remembers : goal.remember-requires-clause-remembers
remember-requires-clause-remembers g c =
    let printed = c.print-printed-2.ensures in
    same_texts c.self.inside.store.format _ _ _ printed.format printed.texts (c.note-noted.ensures.remembers (replacement_in c.self.inside.store.format) c.self.invariant.0)

pub invariant_of-self-2 : goal.invariant_of-self-2
invariant_of-self-2 g c =
    let printed = c.print-printed-2.ensures in
    let small : IsSmall c.print-printed-2.new.self.texts = subst IsSmall (sym printed.texts) (c.note-noted.ensures.small c.self.invariant.1) in
    elim c.if-matches.branch [
      | then-matches w ↦
          rw w.self-inside-is
          (subst (λ f. Remembers (replacement_in f) w.remember.new.self.texts) (sym w.remember.ensures.format) w.remember.ensures.remembers, w.remember.ensures.small small)
      | else-matches w ↦
          rw w.self-inside-is
          (same_texts c.self.inside.store.format _ _ _ printed.format printed.texts (c.note-noted.ensures.remembers (replacement_in c.self.inside.store.format) c.self.invariant.0), small)
    ]
