pub mod Answers
pub mod Documents
pub mod Lines
pub mod Missions
