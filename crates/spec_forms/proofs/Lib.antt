pub mod Assuring
