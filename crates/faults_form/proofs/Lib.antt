pub mod Assuring
pub mod FamilyTexts
pub mod Spelled
