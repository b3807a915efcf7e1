pub mod Storing
pub mod Lists
