pub mod Outside
pub mod Entries
pub mod Memory
pub mod Streams
pub mod Real
