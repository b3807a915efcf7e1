pub mod Answers
pub mod Assurance
pub mod Facts
pub mod Lines
pub mod Outcomes
pub mod Printing
pub mod Scripts
pub mod Totals
