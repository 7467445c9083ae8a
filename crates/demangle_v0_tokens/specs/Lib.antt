-- Internal.
pub mod Backrefs
pub mod Tags
pub mod Texts
pub mod Tokens
