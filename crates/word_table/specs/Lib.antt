pub mod Actors
pub mod Closing
pub mod Keeping
pub mod Plays
pub mod Reading
pub mod Rule
pub mod Tables
