-- Internal.
pub mod Parsers
pub mod Loops
pub mod Skips
pub mod Targets
pub mod Continuations
pub mod Frames
pub mod Measure
pub mod Productions
pub mod Steps
pub mod StepRuns
pub mod Traces
