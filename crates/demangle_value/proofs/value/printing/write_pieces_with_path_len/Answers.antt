use Rattle.std.proofs.Common.{◌∷◌, [], drop, refl, ap, ◌∙◌}
use Rattle.demangle_sink.proofs.PutsPiecesLemmas.{puts_then, puts_stop}
use Rattle.demangle_value.proofs.PathEndLaws.{handed_with_path_len-none, handed_with_path_len-cut, v0_ascii-none}
use Rattle.demangle_value.proofs.value.printing.write_pieces_with_path_len.Goals as goal

pub returns-in_default : goal.returns-in_default
returns-in_default g c =
    rw (handed_with_path_len-none c.args.text.now c.args.path_len c.args.include_hash c.args.limit (v0_ascii-none c.args.text.now c.in_default.ensures.none))
    (rw (← c.read-read.ensures.text) (rw c.unfolded-format.ensures at c.write_pieces.ensures.hands))

pub returns-in_err-write_cut : goal.returns-in_err-write_cut
returns-in_err-write_cut g c =
    let text = c.args.text.now in
    let suffix = c.range_from-suffix.result.now in
    rw (handed_with_path_len-cut text c.args.path_len c.args.include_hash c.args.limit c.in-Some.symbol suffix c.in-Some.ensures.ascii c.in-Some.ensures.some
    (c.range_from-suffix.ensures.value ∙ ap (λ n. drop n text) c.min.ensures))
    (puts_stop g.S.TextSink c.args.out.now c.write_cut.new.out _ (suffix ∷ []) _ c.from_residual.result (rw (c.for_text-limits.ensures, c.unfolded-format.ensures) at c.in_err-write_cut.ensures.hands) refl c.from_residual.ensures.0)

pub returns : goal.returns
returns g c =
    let text = c.args.text.now in
    let suffix = c.range_from-suffix.result.now in
    rw (handed_with_path_len-cut text c.args.path_len c.args.include_hash c.args.limit c.in-Some.symbol suffix c.in-Some.ensures.ascii c.in-Some.ensures.some
    (c.range_from-suffix.ensures.value ∙ ap (λ n. drop n text) c.min.ensures))
    (puts_then g.S.TextSink c.args.out.now c.write_cut.new.out c.put_piece.new.out _ (suffix ∷ []) _ c.put_piece.result (rw (c.for_text-limits.ensures, c.unfolded-format.ensures) at c.in_ok-write_cut.ensures.hands) refl c.put_piece.ensures)
