use Rattle.std.proofs.Common.{◌≡◌, sym, ap, subst, ◌∙◌}
use Rattle.demangle_value.specs.Filtered.{replacement_in}
use Rattle.rustc_demangle.proofs.stream.memo.Store.remember.Goals as goal

pub returns-in-Symbol-clause-remembers : goal.returns-in-Symbol-clause-remembers
returns-in-Symbol-clause-remembers c = c.note_too_long.ensures.remembers (replacement_in c.args.self.now.format) c.requires.remembers

pub returns-in-Symbol-2-clause-remembers : goal.returns-in-Symbol-2-clause-remembers
returns-in-Symbol-2-clause-remembers c =
    let stands = replacement_in c.args.self.now.format in
    c.insert.ensures.remembers stands c.requires.remembers (c.as_slice.ensures ∙ (rw c.in-Symbol-2.is at c.requires.printed) ∙ ap stands (sym c.as_bytes-key.ensures.value))

pub returns-in-NoSymbol-clause-remembers : goal.returns-in-NoSymbol-clause-remembers
returns-in-NoSymbol-clause-remembers c =
    let stands = replacement_in c.args.self.now.format in
    c.insert-in-NoSymbol.ensures.remembers stands c.requires.remembers (subst (λ t. t ≡ stands t) (sym c.as_bytes-key.ensures.value) (rw c.in-NoSymbol.is at c.requires.printed))

pub returns-in-NotHeld-clause-remembers : goal.returns-in-NotHeld-clause-remembers
returns-in-NotHeld-clause-remembers c = c.note_too_long-in-NotHeld.ensures.remembers (replacement_in c.args.self.now.format) c.requires.remembers
