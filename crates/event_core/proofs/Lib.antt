pub mod Notes
pub mod Moving
pub mod Fewer
pub mod Bounds
pub mod Replays
pub mod Steps
pub mod Opens
pub mod ImagesFound
pub mod Noted
pub mod Ending
pub mod Overs
pub mod Snapshots
pub mod Actors
pub mod Histories
mod Counting
pub mod Following
