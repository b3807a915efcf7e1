pub mod Environments
pub mod Choices
pub mod Demands
pub mod Numbering
pub mod Laws
