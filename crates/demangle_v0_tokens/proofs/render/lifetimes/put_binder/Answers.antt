use Rattle.std.proofs.Common.{◌+◌, ◌-◌, ◌∷◌, refl, arith}
use Rattle.std.specs.Prelude.{codes}
use Rattle.demangle_v0_grammar.specs.Reading.{letter_of}
use Rattle.demangle_v0_grammar.specs.Binders.{binder_texts}
use Rattle.demangle_sink.proofs.PrintsLemmas.{prints_nothing, prints_stop}
use Rattle.demangle_sink.proofs.Printed.{printed_start, printed_then, printed_stop, printed_last}
use Rattle.demangle_v0_tokens.proofs.TokenTexts.{binder_first, binder_none, more_turn, more_end}
use Rattle.demangle_v0_tokens.proofs.render.lifetimes.put_binder.Goals as goal

pub returns-then-count-eq0 : goal.returns-then-count-eq0
returns-then-count-eq0 g c = rw (binder_none c.args.count c.args.first (omega arith)) (prints_nothing g.S.TextSink _ c.requires.ready)

pub returns-in_err-put_prefixed_lifetime : goal.returns-in_err-put_prefixed_lifetime
returns-in_err-put_prefixed_lifetime g c =
    let m = c.args.count - 1 in
    rw (binder_first c.args.count m c.args.first (omega arith))
    (prints_stop g.S.TextSink _ _ _ _ _ _ c.in_err-put_prefixed_lifetime.ensures refl c.from_residual.ensures.0)

pub loop-at-init : goal.loop-at-init
loop-at-init g c =
    printed_then g.S.TextSink _ _ _ _ (binder_texts c.args.count c.args.first) (codes "for<" ∷ codes "'" ∷ letter_of c.args.first) _
    (printed_start g.S.TextSink _ _ _ c.requires.ready refl)
    (binder_first c.args.count (c.args.count - 1) c.args.first (omega arith)) c.in_ok-put_prefixed_lifetime.ensures

pub loop-at-preserved : goal.loop-at-preserved
loop-at-preserved g c =
    let l = c.loop-at in
    let n = c.args.first + l.at in
    let turn = more_turn (c.args.count - l.at) (c.args.count - (l.at + 1)) n (c.args.first + (l.at + 1)) (omega arith) (omega arith) in
    printed_then g.S.TextSink _ _ _ _ _ (codes ", " ∷ codes "'" ∷ letter_of n) _ l.invariant turn c.in_ok-put_prefixed_lifetime-2.ensures

pub returns-in_err-put_prefixed_lifetime-2 : goal.returns-in_err-put_prefixed_lifetime-2
returns-in_err-put_prefixed_lifetime-2 g c =
    let l = c.loop-at in
    let n = c.args.first + l.at in
    let turn = more_turn (c.args.count - l.at) (c.args.count - (l.at + 1)) n (c.args.first + (l.at + 1)) (omega arith) (omega arith) in
    printed_stop g.S.TextSink _ _ _ _ _ (codes ", " ∷ codes "'" ∷ letter_of n) _ _ _ l.invariant turn c.in_err-put_prefixed_lifetime-2.ensures c.from_residual-in_err-put_prefixed_lifetime-2.ensures.0

pub returns : goal.returns
returns g c =
    let l = c.loop-at in
    printed_last g.S.TextSink _ _ _ _ _ _ _ l.invariant (more_end (c.args.count - l.at) (c.args.first + l.at) (omega arith)) c.put.ensures
