pub mod Admits
pub mod Codec
pub mod Images
pub mod Items
pub mod Points
pub mod Sameness
pub mod Sequences
