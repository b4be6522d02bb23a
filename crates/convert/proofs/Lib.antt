pub mod Table
pub mod Whole
