-- The definitions that a reader of the public contracts must believe, in reading order.
pub mod Legacy
pub mod Unescaped
pub mod UnescapedRelation
-- Internal.
pub mod Units
