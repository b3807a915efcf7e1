pub mod Flyable
