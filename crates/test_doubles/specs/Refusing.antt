use Rattle.std.specs.Prelude.{ℕ, List}
use Rattle.demangle_sink.specs.Array.{text_of}
use Rattle.test_doubles.specs.declared.refusing_sink.RefusingSink.{RefusingSink}

-- the text that a sink has taken
abbrev pub taken_text : RefusingSink → List ℕ
taken_text s = text_of s.text

-- the number of nonempty pieces that the sink takes before it rejects one
abbrev pub pieces_left : RefusingSink → ℕ
pieces_left s = s.left
