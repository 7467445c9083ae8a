use Rattle.std.specs.Prelude.{ℕ, List}
use Rattle.demangle_sink.specs.declared.array_sink.ArraySink.{ArraySink}

-- the result of `as_str`
abbrev pub text_of : {N : ℕ} → ArraySink N → List ℕ
text_of s = s.text.bytes
