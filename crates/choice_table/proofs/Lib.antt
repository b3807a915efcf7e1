pub mod Bits
pub mod Blocks
pub mod Counting
pub mod Digits
pub mod Examples
pub mod Inverses
pub mod Members
