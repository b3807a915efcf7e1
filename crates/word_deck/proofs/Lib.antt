pub mod Noting
pub mod Steps
pub mod Places
pub mod Listing
pub mod Outcomes
pub mod Sharing
pub mod Watching
pub mod Units
