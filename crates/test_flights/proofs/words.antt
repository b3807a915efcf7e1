pub mod Looking
pub mod Seats
