pub mod Lists
pub mod Form
pub mod Ranges
pub mod Breaks
pub mod Shown
pub mod Laws
pub mod Complete
