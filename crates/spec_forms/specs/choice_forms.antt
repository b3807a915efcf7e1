pub mod Answers
pub mod Choosing
pub mod Chosen
pub mod Lines
pub mod States
pub mod Tables
