pub mod Equality
pub mod Within
pub mod Tables
pub mod Runs
pub mod AreaLaws
pub mod Lengths
pub mod Replacing
