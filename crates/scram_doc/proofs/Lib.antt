pub mod Growing
pub mod Indexes
pub mod Parsed
pub mod Plain
pub mod QuotedNames
pub mod ReadBack
pub mod TextLengths
