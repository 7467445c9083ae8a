pub mod LineCounts
