-- Internal.
pub mod HeldTexts
pub mod Above
pub mod FirstPaths
pub mod Printed
