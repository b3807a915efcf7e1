pub mod Words
pub mod Summaries
pub mod Rule
pub mod Taps
pub mod Laws
