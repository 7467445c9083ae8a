pub mod Comparisons
pub mod Memo
