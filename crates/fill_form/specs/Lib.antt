pub mod Answers
pub mod Filling
pub mod Laws
pub mod Refusing
