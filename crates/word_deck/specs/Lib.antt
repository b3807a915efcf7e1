pub mod Frames
pub mod Crews
pub mod Kernels
pub mod Landing
pub mod Flights
