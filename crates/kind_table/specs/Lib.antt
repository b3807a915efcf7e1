pub mod Bounds
pub mod Kinds
pub mod Names
pub mod Ranges
