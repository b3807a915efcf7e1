pub mod Ranking
pub mod Ranks
pub mod Chains
pub mod Timetables
