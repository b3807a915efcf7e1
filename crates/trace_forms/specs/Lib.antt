pub mod Answers
pub mod Lines
pub mod Verdicts
pub mod summary_form
pub mod columns_form
