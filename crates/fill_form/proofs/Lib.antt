pub mod Accepted
pub mod Apart
pub mod Assuring
pub mod Filled
pub mod Fillings
pub mod Missing
