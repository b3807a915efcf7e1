pub mod Answers
pub mod Assurance
pub mod Documents
pub mod Laws
pub mod Lines
pub mod Replays
pub mod Summaries
pub mod Texts
