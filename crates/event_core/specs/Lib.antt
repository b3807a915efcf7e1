pub mod Places
pub mod Stores
pub mod Rooms
pub mod Replays
pub mod Cores
pub mod Counts
pub mod Reads
pub mod Flyers
