pub mod Areas
pub mod Examples
pub mod Commits
pub mod Rows
pub mod Ticks
pub mod Fronts
