-- The definitions that a reader of the public contracts has to believe, in reading order.
pub mod Lines
pub mod TextPieces
pub mod Rewritten
pub mod LineStream
pub mod ByteStream
pub mod LinearLooks
-- and of demangle_value
pub use Rattle.demangle_value.specs.Stripped
pub use Rattle.demangle_value.specs.Limits
pub use Rattle.demangle_value.specs.Shape
pub use Rattle.demangle_value.specs.Symbols
pub use Rattle.demangle_value.specs.PathEnds
pub use Rattle.demangle_value.specs.Hashes
pub use Rattle.demangle_value.specs.Filtered
-- and of demangle_sink
pub use Rattle.demangle_sink.specs.Sink
pub use Rattle.demangle_sink.specs.Cut
pub use Rattle.demangle_sink.specs.PutsPieces
pub use Rattle.demangle_sink.specs.Array
pub use Rattle.demangle_sink.specs.Writer
pub use Rattle.demangle_sink.specs.Slice
pub use Rattle.demangle_sink.specs.Writes
-- and of demangle_symbol
pub use Rattle.demangle_symbol.specs.Prefix
pub use Rattle.demangle_symbol.specs.Digits
pub use Rattle.demangle_symbol.specs.Looks
pub use Rattle.demangle_symbol.specs.Primitives
pub use Rattle.demangle_symbol.specs.Punycode
pub use Rattle.demangle_symbol.specs.Names
pub use Rattle.demangle_symbol.specs.Literals
-- and of demangle_legacy
pub use Rattle.demangle_legacy.specs.Legacy
pub use Rattle.demangle_legacy.specs.Unescaped
pub use Rattle.demangle_legacy.specs.UnescapedRelation
-- and of demangle_v0_grammar
pub use Rattle.demangle_v0_grammar.specs.Items
pub use Rattle.demangle_v0_grammar.specs.Table
pub use Rattle.demangle_v0_grammar.specs.LookBudget
pub use Rattle.demangle_v0_grammar.specs.Reading
pub use Rattle.demangle_v0_grammar.specs.Spelling
pub use Rattle.demangle_v0_grammar.specs.V0
pub use Rattle.demangle_v0_grammar.specs.ValidationLooks
-- Internal.
pub mod PutsText
pub mod Credit
pub mod PrintedRuns
