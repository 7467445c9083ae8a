-- The definitions that a reader of the public contracts must believe, in reading order.
pub mod Prefix
pub mod Digits
pub mod Looks
pub mod Primitives
pub mod Punycode
pub mod Names
pub mod Literals
-- Internal.
pub mod Escapes
pub mod Idents
pub mod Integers
pub mod Nibbles
