mod Counted
pub mod FileReading
pub mod Viewing
