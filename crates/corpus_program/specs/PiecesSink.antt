use Rattle.std.specs.Prelude.{ℕ, List, map}
use Rattle.std.specs.String.{string_bytes}
use Rattle.corpus_program.specs.declared.pieces_sink.PiecesSink.{PiecesSink}

-- the pieces that a sink has taken
abbrev pub taken_pieces : PiecesSink → List (List ℕ)
taken_pieces s = map string_bytes s.pieces.items
