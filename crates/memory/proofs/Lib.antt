pub mod Built
pub mod Images
pub mod Turns
