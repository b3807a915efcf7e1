pub mod Blocks
pub mod Turns
pub mod Changes
pub mod Walks
pub mod Specifications
