pub mod EachKind
pub mod Spelling
pub mod ShortNames
