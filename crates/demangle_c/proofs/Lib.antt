pub mod Stripped
