pub mod FilteringLemmas
pub mod ArgumentLemmas
mod PartLemmas
mod ProgramLooks
mod ProgramOutput
