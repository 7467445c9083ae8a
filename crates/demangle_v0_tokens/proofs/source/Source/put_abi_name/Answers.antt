use Rattle.std.proofs.Common.{[], ◌∷◌, sym, arith, slice_range}
use Rattle.std.specs.Prelude.{codes}
use Rattle.demangle_sink.proofs.Printed.{printed_start, printed_left, printed_then, printed_stop, printed_last}
use Rattle.demangle_v0_tokens.proofs.TokenTexts.{hyphen_start, hyphen_turn, hyphen_on, hyphen_end}
use Rattle.demangle_v0_tokens.proofs.source.Source.put_abi_name.Goals as goal
use Rattle.demangle_v0_tokens.proofs.source.Source.put_abi_name.Goals.{then-is_at+in_ok-put_with_hyphen, else-is_at}

pub loop-at-init : goal.loop-at-init
loop-at-init g c = record {
  begun = omega arith;
  order = omega arith;
  printed = printed_start g.S.TextSink _ _ _ c.requires.ready (hyphen_start c.args.self.now.symbol.now c.args.name.from c.args.name.to);
  looked = omega arith;
}

pub returns-in_err-put_with_hyphen-clause-prints : goal.returns-in_err-put_with_hyphen-clause-prints
returns-in_err-put_with_hyphen-clause-prints g c =
    let s = c.args.self.now.symbol.now in
    let l = c.loop-at in
    let turn = hyphen_turn s l.from l.at c.args.name.to (omega arith) c.requires.part.1 (sym c.if-is_at.ensures.there) in
    printed_stop g.S.TextSink _ _ _ _ _ (slice_range s l.from l.at ∷ codes "-" ∷ []) _ _ _ l.invariant.printed turn c.in_err-put_with_hyphen.ensures c.from_residual.ensures.0

pub loop-at-preserved : goal.loop-at-preserved
loop-at-preserved g c =
    let s = c.args.self.now.symbol.now in
    let l = c.loop-at in
    let to = c.args.name.to in
    elim c.if-is_at.branch [
      | then-is_at+in_ok-put_with_hyphen w ↦
          let turn = hyphen_turn s l.from l.at to (omega arith) c.requires.part.1 (sym w.if-is_at.ensures.there) in
          record {
            begun = omega (arith, w.from-is, l.invariant.begun, l.invariant.order);
            order = omega (arith, w.from-is);
            printed = rw (w.from-is, w.out-is) (printed_then g.S.TextSink _ _ _ _ _ (slice_range s l.from l.at ∷ codes "-" ∷ []) _ l.invariant.printed turn w.in_ok-put_with_hyphen.ensures);
            looked = omega (arith, c.is_at.ensures.look, l.invariant.looked);
          }
      | else-is_at w ↦
          let on = hyphen_on s l.from l.at to l.invariant.order (omega arith) c.requires.part.1 (sym w.if-is_at.ensures.there) in
          record {
            begun = omega (arith, w.from-is, l.invariant.begun);
            order = omega (arith, w.from-is, l.invariant.order);
            printed = rw (w.from-is, w.out-is) (printed_left g.S.TextSink _ _ _ _ _ l.invariant.printed on);
            looked = omega (arith, c.is_at.ensures.look, l.invariant.looked);
          }
    ]

pub returns-clause-prints : goal.returns-clause-prints
returns-clause-prints g c =
    let s = c.args.self.now.symbol.now in
    let l = c.loop-at in
    printed_last g.S.TextSink _ _ _ _ _ _ _ l.invariant.printed (hyphen_end s l.from l.at c.args.name.to (omega arith)) (rw c.span.ensures at c.write_to.ensures)
