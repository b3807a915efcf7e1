pub mod Assuring
pub mod Cuts
pub mod Flown
pub mod Gaps
pub mod Kept
pub mod Summed
