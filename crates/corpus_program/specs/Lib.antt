pub mod Differences
pub mod PiecesSink
