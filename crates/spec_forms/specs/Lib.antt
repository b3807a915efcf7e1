pub mod Answers
pub mod Asked
pub mod Bounds
pub mod Lines
pub mod choice_forms
