pub mod Acts
pub mod Decisions
pub mod Differences
pub mod Extremes
pub mod Gaps
pub mod Margins
pub mod Spans
pub mod Unfinished
