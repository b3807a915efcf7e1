pub mod Actors
