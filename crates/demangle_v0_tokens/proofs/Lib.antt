pub mod TokenSpecs
pub mod HexDigits
pub mod TokenTexts
pub mod TagRows
