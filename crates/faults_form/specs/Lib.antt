pub mod Answers
pub mod Counts
pub mod Families
pub mod Lines
