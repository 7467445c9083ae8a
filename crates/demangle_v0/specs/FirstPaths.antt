-- Internal: no public contract cites this.
-- What printing the first path of a symbol does.
use Rattle.std.specs.Prelude.{ℕ, Bool, List, length, Result}
use Rattle.demangle_v0_grammar.specs.Items.{Text}
use Rattle.demangle_v0_grammar.specs.Reading.{Form}
use Rattle.demangle_v0_grammar.specs.References.{texts_before, is_whole, path_moves}
use Rattle.demangle_sink.specs.Limit.{PrintsUpTo}
use Rattle.demangle_sink.specs.declared.SinkRefused.{SinkRefused}
use Rattle.demangle_sink.specs.declared.TextSink.{Ghosts as Sinks}
use Rattle.demangle_sink.specs.declared.limit.SizeLimitedFmtAdapter.{SizeLimitedFmtAdapter}

-- the texts of the first path of a symbol, up to the limit of the bytes that an output allows to read again, and whether
-- they are all
abbrev pub texts_for : {S : Type 0} → SizeLimitedFmtAdapter S → List ℕ → Form → List Text
texts_for v symbol form = texts_before v.reread.most (length symbol) v.reread.used (path_moves symbol form)

abbrev pub is_whole_for : {S : Type 0} → SizeLimitedFmtAdapter S → List ℕ → Form → Bool
is_whole_for v symbol form = is_whole v.reread.most (length symbol) v.reread.used (path_moves symbol form)

-- printing the first path of a symbol returned `result`
abbrev pub PrintsPath : {S : Type 0} → Sinks S → SizeLimitedFmtAdapter S → List ℕ → Form → Result (Unit {0}) SinkRefused → SizeLimitedFmtAdapter S → Type 0
PrintsPath sink v symbol form result w = PrintsUpTo sink v (texts_for v symbol form) (is_whole_for v symbol form) result w
