use Rattle.std.proofs.Common.{◌++◌, ◌∷◌, [], ap, ◌∙◌}
use Rattle.std.specs.List.{concat}
use Rattle.std.proofs.lemmas.List.{append-nil}
use Rattle.std.proofs.lemmas.List.Folds.{concat-append}
use Rattle.corpus_program.specs.PiecesSink.{taken_pieces}
use Rattle.corpus_program.proofs.pieces_sink.PiecesSinkTextSink.put.Goals as goal

-- src/pieces_sink.rt:60:5
pub returns-in-Ok-clause-taken : goal.returns-in-Ok-clause-taken
returns-in-Ok-clause-taken c =
    ap concat c.in-Ok.ensures.ok
    ∙ (concat-append (taken_pieces c.args.self.now) (c.args.s.now ∷ [])
    ∙ ap (λ text. concat (taken_pieces c.args.self.now) ++ text) (append-nil c.args.s.now))
