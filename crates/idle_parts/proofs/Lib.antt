pub mod DemandedEnvs
pub mod Firsts
pub mod Somewhere
pub mod Told
