pub mod Events
pub mod Images
pub mod Marks
pub mod Numbers
