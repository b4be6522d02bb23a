pub mod Canon
pub mod Frames
pub mod Packed
pub mod Parts
pub mod Reading
pub mod Written
pub mod Built
