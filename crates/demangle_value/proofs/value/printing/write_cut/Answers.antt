use Rattle.std.proofs.Common.{rules, sym}
use Rattle.demangle_sink.proofs.PrintsLemmas.{cut_over, cut_all}
use Rattle.demangle_value.specs.Shape.{limited}
use Rattle.demangle_value.proofs.AllReferences.{style_marked}
use Rattle.demangle_value.proofs.value.printing.write_cut.Goals as goal

pub returns-then-is_limit_reached-clause-hands : goal.returns-then-is_limit_reached-clause-hands
returns-then-is_limit_reached-clause-hands g c =
    rw (sym (style_marked (limited c.args.format) c.args.style.now c.args.format.limit)) (cut_over g.S.TextSink c.with_reread-limited.result c.write_to-result.new.out _ _ _ _ _ _ _ _ c.with_reread-limited.ensures.text c.with_reread-limited.ensures.left
    c.write_to-result.ensures.prints (sym c.if-is_limit_reached.ensures) (search rules) c.put_piece.ensures)

pub returns-else-is_limit_reached-clause-hands : goal.returns-else-is_limit_reached-clause-hands
returns-else-is_limit_reached-clause-hands g c =
    rw (sym (style_marked (limited c.args.format) c.args.style.now c.args.format.limit)) (cut_all g.S.TextSink c.with_reread-limited.result c.write_to-result.new.out _ _ _ _ _ _ c.with_reread-limited.ensures.text c.with_reread-limited.ensures.left
    c.write_to-result.ensures.prints (sym c.if-is_limit_reached.ensures) (search rules))
