pub mod Assuring
pub mod Judged
