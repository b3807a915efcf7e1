pub mod Choices
pub mod Ruled
