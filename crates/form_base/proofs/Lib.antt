pub mod Assuring
pub mod Endings
pub mod Pluses
pub mod Reading
pub mod SpecReading
pub mod TextsBelow
