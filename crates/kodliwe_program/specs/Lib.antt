-- The definitions that a reader of the public contracts has to believe.
pub mod Parts
pub mod ProgramLooks
pub mod CommandLine
pub mod About
pub mod Coalescing
-- Internal: no public contract cites these.
pub mod Filtering
pub mod OneArgument
