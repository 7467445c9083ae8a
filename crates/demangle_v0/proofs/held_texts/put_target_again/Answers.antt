use Rattle.std.proofs.Common.{refl, sym, ap, ◌∙◌, subst}
use Rattle.demangle_v0.specs.HeldTexts.{HoldsTarget, IsTextOf, text_of}
use Rattle.demangle_v0.proofs.PutAgain.{held_entry, held_within, put_ran, target_deep}
use Rattle.demangle_v0.proofs.held_texts.put_target_again.Goals as goal

pub put_again-requires-clause-within : goal.put_again-requires-clause-within
put_again-requires-clause-within g c =
    let m = c.args.parser.now in
    let sink = g.S.TextSink in
    let b = m.source.symbol.now in
    let form = m.source.form in
    let found = c.in-Some-get.ensures.lookup in
    let t = c.text-held.result in
    let holds : HoldsTarget sink b form c.args.out.now t = subst (λ z. HoldsTarget sink b form c.args.out.now z) (sym (c.text-held.ensures ∙ ap text_of found.1)) (held_entry sink b form c.args.out.now c.args.texts.now c.entry_of.result c.in-Some-get.stored.now c.requires.held found.3.0) in
    let is : IsTextOf t m.continuation m.state = c.is_of.ensures c.if-not-is_of.false in
    held_within sink b form c.args.out.now t m.state.depth_left holds is.depth (target_deep m.continuation m.state.depth_left m.state.lifetimes c.requires.target c.requires.valid.fits)

pub returns-clause-ran : goal.returns-clause-ran
returns-clause-ran g c k =
    let m = c.args.parser.now in
    let sink = g.S.TextSink in
    let b = m.source.symbol.now in
    let form = m.source.form in
    let found = c.in-Some-get.ensures.lookup in
    let t = c.text-held.result in
    let holds : HoldsTarget sink b form c.args.out.now t = subst (λ z. HoldsTarget sink b form c.args.out.now z) (sym (c.text-held.ensures ∙ ap text_of found.1)) (held_entry sink b form c.args.out.now c.args.texts.now c.entry_of.result c.in-Some-get.stored.now c.requires.held found.3.0) in
    let is : IsTextOf t m.continuation m.state = c.is_of.ensures c.if-not-is_of.false in
    record {
      ran = put_ran sink b form g.met.S.TextSink.took_nothing m.continuation m.state c.args.out.now c.put_again.new.self t m.looks c.requires.target is holds (target_deep m.continuation m.state.depth_left m.state.lifetimes c.requires.target c.requires.valid.fits) c.requires.ready (c.put_again.ensures.put c.if-not-put_again.false);
      is = refl;
    }
