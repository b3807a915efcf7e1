pub mod Assuring
pub mod Envs
pub mod ShareTexts
pub mod WordReading
