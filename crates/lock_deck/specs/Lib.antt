pub mod SharedCores
pub mod Members
