pub mod Accepted
pub mod Lengths
pub mod Names
pub mod Trigger
