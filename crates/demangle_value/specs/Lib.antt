-- The definitions that a reader of the public contracts has to believe, in reading order.
pub mod Stripped
pub mod Limits
pub mod Shape
pub mod Symbols
pub mod PathEnds
pub mod Hashes
pub mod Filtered
-- Internal.
pub mod Style
pub mod Coalescing
pub mod Tried
pub mod LinearPrinting
