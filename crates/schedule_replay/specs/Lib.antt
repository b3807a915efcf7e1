pub mod Verbs
pub mod Events
pub mod Reading
pub mod LineRules
pub mod Turns
pub mod Replaying
pub mod Laws
pub mod Refusals
