pub mod AppsBack
pub mod ConfsBack
mod DemandSizes
pub mod DemandsBack
pub mod Lookups
pub mod Plain
pub mod RestBack
pub mod Sets
pub mod SpecBack
pub mod TextLengths
pub mod TextSizes
