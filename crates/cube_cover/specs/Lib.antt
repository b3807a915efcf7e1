pub mod Cubes
pub mod Leasts
pub mod Regions
pub mod Covers
pub mod Demands
pub mod Findings
pub mod Sizes
pub mod Shares
