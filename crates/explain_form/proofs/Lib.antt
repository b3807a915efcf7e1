pub mod Assuring
pub mod FramesTold
pub mod Settling
pub mod Windows
