pub mod Answers
pub mod Laws
pub mod Outsides
pub mod Texts
