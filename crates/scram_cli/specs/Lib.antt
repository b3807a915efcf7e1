pub mod Answers
pub mod Assurance
pub mod Forms
pub mod Laws
pub mod Pages
