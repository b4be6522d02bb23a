pub mod Ends
pub mod Ranges
pub mod Search
