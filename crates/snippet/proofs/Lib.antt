pub mod Packed
pub mod Points
