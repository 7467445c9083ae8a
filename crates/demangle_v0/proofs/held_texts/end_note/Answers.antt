use Rattle.std.proofs.Common.{sym, subst}
use Rattle.demangle_v0.specs.HeldTexts.{HoldsTarget}
use Rattle.demangle_v0.proofs.NotedTexts.{entry_set, noted_target}
use Rattle.demangle_v0.proofs.held_texts.end_note.Goals as goal

pub returns-in-Some-new : goal.returns-in-Some-new
returns-in-Some-new g c =
    let m = c.args.parser.now in
    let sink = g.S.TextSink in
    let laws = g.met.S.TextSink in
    let b = m.source.symbol.now in
    let form = m.source.form in
    let w = c.args.out.now in
    entry_set sink b form w c.args.texts.now c.entry_of.result c.in-Some-new.stored c.requires.held (subst (λ z. HoldsTarget sink b form w z) (sym c.in-Some-new.ensures) (noted_target sink b form laws.took_nothing laws.took_joined c.args.note.now m.state.place w c.in-Some.text c.in-Some.ensures c.requires.printed))
