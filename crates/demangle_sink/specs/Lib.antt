-- The definitions that a reader of the public contracts must believe, in reading order.
pub mod Sink
pub mod Cut
pub mod PutsPieces
pub mod Array
pub mod Writer
pub mod Slice
pub mod Writes
-- Internal.
pub mod Limit
pub mod Formatter
