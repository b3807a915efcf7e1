mod FewWords
pub mod Assuring
pub mod Completeness
pub mod LineExamples
pub mod ShownModes
pub mod ShownReports
pub mod ShownRows
