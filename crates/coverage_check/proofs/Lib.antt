pub mod Accepting
pub mod Breaking
pub mod Examples
pub mod Flights
pub mod Keeping
pub mod Reaching
pub mod Reading
pub mod Showing
