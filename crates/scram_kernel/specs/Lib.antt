pub mod Marks
pub mod Images
pub mod Drawing
pub mod Kernels
