use Rattle.std.proofs.Common.{refl, [], ◌∷◌}
use Rattle.demangle_sink.proofs.PutsPiecesLemmas.{puts_then, puts_stop}
use Rattle.demangle_value.proofs.SymbolLemmas.{handed-some, styled-none, styled-some, styled_looks, unstyled_looks}
use Rattle.demangle_value.proofs.value.printing.write_pieces.Goals as goal

pub returns-in_default-clause-looks : goal.returns-in_default-clause-looks
returns-in_default-clause-looks g c =
    rw (← c.symbol.view_is) (unstyled_looks _ c.args.format _ (styled-none _ _ _ c.symbol.invariant c.in_default.is))

pub returns-in_err-write_cut-clause-hands : goal.returns-in_err-write_cut-clause-hands
returns-in_err-write_cut-clause-hands g c =
    rw (← c.symbol.view_is)
    (rw (handed-some _ c.args.format _ _ (styled-some _ _ _ _ c.symbol.invariant c.in-Some.is))
    (puts_stop g.S.TextSink c.args.out.now c.write_cut.new.out _ (c.symbol.inside.suffix.now ∷ []) _ c.from_residual.result (rw c.for_text-limits.ensures at c.in_err-write_cut.ensures.hands) refl c.from_residual.ensures.0))

pub returns-in_err-write_cut-clause-looks : goal.returns-in_err-write_cut-clause-looks
returns-in_err-write_cut-clause-looks g c =
    let has = styled-some _ _ _ _ c.symbol.invariant c.in-Some.is in
    rw (← c.symbol.view_is) (styled_looks _ _ _ _ _ _ has c.write_cut.ensures.grows (rw c.for_text-limits.ensures at c.write_cut.ensures.most) (rw c.for_text-limits.ensures at c.write_cut.ensures.again) (rw c.for_text-limits.ensures at c.write_cut.ensures.few) c.write_cut.ensures.least)

pub returns-clause-hands : goal.returns-clause-hands
returns-clause-hands g c =
    rw (← c.symbol.view_is)
    (rw (handed-some _ c.args.format _ _ (styled-some _ _ _ _ c.symbol.invariant c.in-Some.is))
    (puts_then g.S.TextSink c.args.out.now c.write_cut.new.out c.put_piece-2.new.out _ (c.symbol.inside.suffix.now ∷ []) _ c.put_piece-2.result (rw c.for_text-limits.ensures at c.in_ok-write_cut.ensures.hands) refl c.put_piece-2.ensures))

pub returns-clause-looks : goal.returns-clause-looks
returns-clause-looks g c =
    let has = styled-some _ _ _ _ c.symbol.invariant c.in-Some.is in
    rw (← c.symbol.view_is) (styled_looks _ _ _ _ _ _ has c.write_cut.ensures.grows (rw c.for_text-limits.ensures at c.write_cut.ensures.most) (rw c.for_text-limits.ensures at c.write_cut.ensures.again) (rw c.for_text-limits.ensures at c.write_cut.ensures.few) c.write_cut.ensures.least)
