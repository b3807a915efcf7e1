pub mod Properties
pub mod Known
pub mod Missions
pub mod Calms
pub mod Breaks
pub mod Judging
