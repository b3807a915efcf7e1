mod KnownBytes
pub mod Puts
pub mod Histories
