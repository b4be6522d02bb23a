pub mod Accepted
pub mod Blames
pub mod Tests
